use Rattle.std.proofs.Common.{◌≡◌, map}
use Rattle.step_world.proofs.ending.histories_of.Given as goal

-- the histories of the partitions so far
abbrev pub invariant-loop-process : goal.invariant-loop-process
invariant-loop-process l = l.histories ≡ map (λ d. d.partition.history) l.yielded
