use Rattle.alone_laws.proofs.OneSession.{alone_is_one_thread}
use Rattle.alone_laws.proofs.laws.alone_is_one_thread.Goals as goal

pub returns : goal.returns
returns c = alone_is_one_thread
