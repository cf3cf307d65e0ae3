use Rattle.plans_laws.proofs.Suiting.{plans_suit}
use Rattle.plans_laws.proofs.laws.plans_suit.Goals as goal

pub returns : goal.returns
returns c = plans_suit
