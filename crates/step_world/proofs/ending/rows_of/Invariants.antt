use Rattle.std.proofs.Common.{◌≡◌, map, take}
use Rattle.partition_core.specs.Kept.{rows_in}
use Rattle.step_world.proofs.ending.rows_of.Given as goal

-- the rows of the partitions so far
abbrev pub invariant-loop-process : goal.invariant-loop-process
invariant-loop-process l = l.rows ≡ map (λ d. rows_in d.partition) (take l.process-index l.processes)
