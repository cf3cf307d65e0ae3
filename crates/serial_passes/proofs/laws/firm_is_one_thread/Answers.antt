use Rattle.serial_passes.proofs.Ordered.{firm_is_one_thread}
use Rattle.serial_passes.proofs.laws.firm_is_one_thread.Goals as goal

pub returns : goal.returns
returns c = firm_is_one_thread
