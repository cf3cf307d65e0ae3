use Rattle.std.proofs.Common.{arith}
use Rattle.sql_base.proofs.CommonPrefixes.{prefix_end}
use Rattle.sql_base.proofs.granules.common_length.Goals as goal

pub returns-clause-common : goal.returns-clause-common
returns-clause-common c = omega (arith, c.loop-at.invariant, c.loop-at-test.false, c.loop-at.auto.at-end, prefix_end c.args.a.now c.args.b.now c.loop-at.at (omega (arith, c.min-shorter.ensures, c.loop-at-test.false)))
