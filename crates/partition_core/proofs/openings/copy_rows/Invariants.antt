use Rattle.std.proofs.Common.{◌≡◌, take}
use Rattle.partition_core.proofs.openings.copy_rows.Given as goal

-- those before are copied
abbrev pub invariant-loop-row : goal.invariant-loop-row
invariant-loop-row l = l.copies ≡ take l.row-index l.rows
