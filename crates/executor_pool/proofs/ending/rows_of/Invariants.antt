use Rattle.std.proofs.Common.{◌≡◌, map, take}
use Rattle.partition_core.specs.Kept.{rows_in}
use Rattle.executor_pool.proofs.ending.rows_of.Given as goal

-- the rows of the partitions so far
abbrev pub invariant-loop-partition : goal.invariant-loop-partition
invariant-loop-partition l = l.rows ≡ map rows_in (take l.partition-index l.partitions)
