use Rattle.ending_laws.proofs.Advancing.{keys_held}
use Rattle.ending_laws.proofs.laws.keys_held.Goals as goal

pub returns : goal.returns
returns c = keys_held
