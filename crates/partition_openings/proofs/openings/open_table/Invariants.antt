use Rattle.std.proofs.Common.{◌≡◌, ◌++◌, map}
use Rattle.partition_core.specs.Kept.{opened_with}
use Rattle.partition_openings.proofs.OpenTables.{first_openings}
use Rattle.partition_openings.proofs.openings.open_table.Given as goal

-- the partitions so far
abbrev pub invariant-loop-place : goal.invariant-loop-place
invariant-loop-place l = l.partitions.items ≡ l.fn.partitions.items ++ map opened_with (first_openings l.limits l.table l.rows l.place)
