use Rattle.plans_laws.proofs.Suiting.{replies_fit, sends_fit}
use Rattle.plans_laws.proofs.laws.replies_fit.Goals as goal

pub returns : goal.returns
returns c = record { replies = replies_fit; sends = sends_fit }
