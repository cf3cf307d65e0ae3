use Rattle.std.proofs.Common.{◌≡◌, ◌++◌, map}
use Rattle.std.specs.Vec.Iter.{into_iter_items}
use Rattle.step_world.specs.Scaffold.Openings.{new_process}
use Rattle.step_world.proofs.processes.processes_of.Given as goal

-- the processes of the partitions so far
abbrev pub invariant-loop-partition : goal.invariant-loop-partition
invariant-loop-partition l = l.processes.items ++ map new_process (into_iter_items l.partition-iterator) ≡ map new_process l.fn.partitions.items
