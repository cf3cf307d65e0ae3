use Rattle.std.proofs.Common.{◌-◌}
use Rattle.step_world.proofs.driver.+start_from.Given as goal

-- the wires that are left
abbrev pub decreases-start_from : goal.decreases-start_from
decreases-start_from g l = l.sessions - l.at
