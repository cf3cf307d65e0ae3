use Rattle.std.proofs.Common.{◌≡◌, ◌++◌, take}
use Rattle.partition_openings.proofs.openings.push_copies.Given as goal

-- the copies so far
abbrev pub invariant-loop-row : goal.invariant-loop-row
invariant-loop-row l = l.rows ≡ l.fn.rows ++ take l.row-index l.more
