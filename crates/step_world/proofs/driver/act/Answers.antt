-- A partition that was chosen serves, and there are few of them.
use Rattle.std.proofs.Common.{subst}
use Rattle.step_world.specs.Runs.{CanAct}
use Rattle.driver_laws.specs.Scheduling.{OfPartition}
use Rattle.step_world.specs.Scaffold.Worlds.{scene}
use Rattle.step_world.proofs.Chosen.{few_parts, from_same, from_seen}
use Rattle.step_world.proofs.driver.act.Goals as goal

pub serve-requires-clause-few : goal.serve-requires-clause-few
serve-requires-clause-few g c = few_parts c.requires.driving.0 _ (scene g.Q.Requester.asking c.args.world.now) c.in-Partition.part c.requires.driving.1 (subst (λ a. CanAct (scene g.Q.Requester.asking c.args.world.now) a) c.in-Partition.is c.requires.enabled)

pub returns-in-Partition-clause-goes_on : goal.returns-in-Partition-clause-goes_on
returns-in-Partition-clause-goes_on g c =
    from_seen c.serve.result c.args.agent c.in-Partition.part _ _ _ _ c.in-Partition.is (from_same c.serve.result (OfPartition c.in-Partition.part) _ _ _ c.serve.ensures.goes_on)
