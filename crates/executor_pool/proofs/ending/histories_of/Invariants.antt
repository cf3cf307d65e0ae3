use Rattle.std.proofs.Common.{◌≡◌, map}
use Rattle.std.specs.List.{AllByRecursion}
use Rattle.partition_core.specs.Kept.{IsReplayed}
use Rattle.executor_pool.proofs.ending.histories_of.Given as goal

-- the histories of the partitions so far
abbrev pub invariant-loop-partition : goal.invariant-loop-partition
invariant-loop-partition l = (l.histories ≡ map (λ k. k.history) l.yielded) × AllByRecursion IsReplayed l.yielded
