use Rattle.std.proofs.Common.{◌≡◌, ◌++◌, length}
use Rattle.key_sequenced.specs.Blocks.{joined}
use Rattle.key_sequenced.proofs.cursors.CellsIterator.next.Given as goal

-- the same cells are left
abbrev pub invariant-loop-self : goal.invariant-loop-self
invariant-loop-self l = l.self-inside.cells.now ++ joined l.self-inside.blocks.now ≡ l.fn.self

abbrev pub decreases-loop-self : goal.decreases-loop-self
decreases-loop-self l = length l.self-inside.blocks.now
