use Rattle.std.proofs.Common.{◌≡◌, map}
use Rattle.one_thread.specs.One.{load_rows}
use Rattle.partition_core.specs.Kept.{opened_with}
use Rattle.partition_openings.proofs.OpenTables.{openings_of}
use Rattle.partition_openings.proofs.openings.open.Given as goal

-- the partitions of the tables so far
abbrev pub invariant-loop-place : goal.invariant-loop-place
invariant-loop-place l = l.partitions.items ≡ map opened_with (openings_of l.script.limits l.script.tables (load_rows l.script.loads) l.place)
