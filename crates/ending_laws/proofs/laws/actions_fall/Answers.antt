use Rattle.ending_laws.proofs.Measures.{answers_fall, runs_fall, sendings_fall}
use Rattle.ending_laws.proofs.laws.actions_fall.Goals as goal

pub returns : goal.returns
returns g c = record { sendings = sendings_fall; answers = answers_fall; runs = runs_fall _ _ }
