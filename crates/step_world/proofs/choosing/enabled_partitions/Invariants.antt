use Rattle.std.proofs.Common.{◌≡◌, ◌++◌, map}
use Rattle.std.specs.Prelude.{filter}
use Rattle.std.specs.List.{range_with_len}
use Rattle.step_world.specs.Choosing.{mail_at}
use Rattle.step_world.specs.declared.choosing.Agent.TheVariants.{Partition}
use Rattle.step_world.proofs.choosing.enabled_partitions.Given as goal

-- the partitions so far
abbrev pub invariant-loop-part : goal.invariant-loop-part
invariant-loop-part l = l.agents.items ≡ l.fn.agents.items ++ map Partition (filter (mail_at l.processes) (range_with_len 0 l.part))
