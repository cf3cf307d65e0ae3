use Rattle.std.proofs.Common.{◌≤◌, ◌-◌}
use Rattle.key_sequenced.specs.Blocks.{AreEmpty}
use Rattle.key_sequenced.proofs.files.fill.Given as goal

-- there are empty blocks, no fewer than before
abbrev pub invariant-loop-alloc : goal.invariant-loop-alloc
invariant-loop-alloc l = AreEmpty l.empty.items × (l.fn.empty.len ≤ l.empty.len)

abbrev pub decreases-loop-alloc : goal.decreases-loop-alloc
decreases-loop-alloc l = l.count - l.empty.len
