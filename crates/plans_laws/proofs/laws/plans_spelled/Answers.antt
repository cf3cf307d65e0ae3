use Rattle.plans_laws.proofs.SpelledPlans.{plans_spelled}
use Rattle.plans_laws.proofs.laws.plans_spelled.Goals as goal

pub returns : goal.returns
returns c = plans_spelled
