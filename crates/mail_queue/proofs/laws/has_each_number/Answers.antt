use Rattle.std.proofs.Common.{below_more}
use Rattle.mail_queue.proofs.laws.has_each_number.Goals as goal

pub loop-number-preserved : goal.loop-number-preserved
loop-number-preserved g c = below_more _ _ c.loop-number.invariant (c.has_number.ensures.0 c.if-not-has_number.false)
