use Rattle.std.proofs.Common.{ap, not}
use Rattle.sql_base.proofs.KeyOrders.{key_le-not_lt}
use Rattle.quantum_runner.proofs.candidates.sees.Goals as goal

pub returns : goal.returns
returns c = rw (c.requires.from, key_le-not_lt c.args.cell.now.key c.args.block.now.high, c.requires.up_to) (ap not c.is_gone.ensures)
