use Rattle.std.proofs.Common.{◌≡◌, take}
use Rattle.run_record.specs.Openings.{rows_in_part}
use Rattle.partition_openings.proofs.openings.rows_at.Given as goal

-- the rows of the partition so far
abbrev pub invariant-loop-row : goal.invariant-loop-row
invariant-loop-row l = l.own ≡ rows_in_part l.table l.place (take l.row-index l.rows)
