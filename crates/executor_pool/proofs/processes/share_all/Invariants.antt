use Rattle.std.specs.Vec.Iter.{into_iter_items}
use Rattle.run_record.specs.Openings.{openings}
use Rattle.executor_pool.proofs.Sharing.{SharesSoFar}
use Rattle.executor_pool.proofs.processes.share_all.Given as goal

-- the partitions that are shared so far
abbrev pub invariant-loop-partition : goal.invariant-loop-partition
invariant-loop-partition g l = SharesSoFar l.fn.crew (openings l.fn.script) (into_iter_items l.partition-iterator) l.part l.shares
