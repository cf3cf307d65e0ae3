use Rattle.std.proofs.Common.{◌≡◌, ◌++◌, map}
use Rattle.std.specs.Prelude.{filter}
use Rattle.std.specs.List.{range_with_len}
use Rattle.step_world.specs.Choosing.{acts_at}
use Rattle.step_world.specs.Scaffold.Seats.{seen}
use Rattle.step_world.specs.declared.choosing.Agent.TheVariants.{Session}
use Rattle.step_world.proofs.choosing.enabled_sessions.Given as goal

-- the sessions so far
abbrev pub invariant-loop-at : goal.invariant-loop-at
invariant-loop-at g l = l.agents.items ≡ l.fn.agents.items ++ map Session (filter (acts_at (map (seen g.Q.Requester.asking) l.seats)) (range_with_len 1 l.at))
