use Rattle.ending_laws.proofs.Advancing.{few_above, redrives_advance}
use Rattle.ending_laws.proofs.laws.redrives_advance.Goals as goal

pub returns : goal.returns
returns c = record { few = few_above; advance = redrives_advance }
