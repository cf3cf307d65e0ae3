use Rattle.std.proofs.Common.{◌≡◌, ◌≤◌}
use Rattle.key_sequenced.proofs.Halving.{IsMoving}
use Rattle.key_sequenced.proofs.blocks.move_last.Given as goal

-- the last cells are with the others, the last of all first
abbrev pub invariant-loop : goal.invariant-loop
invariant-loop l = IsMoving l.fn.full.items l.full.items l.behind.items l.full.len l.behind.len l.counter × (l.full.cap ≡ l.fn.full.cap) × (l.fn.behind.cap ≤ l.behind.cap)
