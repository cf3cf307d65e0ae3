use Rattle.one_thread.proofs.Fates as fates
use Rattle.one_thread.proofs.laws.scans_are_one.Goals as goal

pub returns : goal.returns
returns c = fates.scans_are_one
