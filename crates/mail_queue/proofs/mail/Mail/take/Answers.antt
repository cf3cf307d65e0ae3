use Rattle.mail_queue.proofs.Keeps.{takes, moments, has_number}
use Rattle.mail_queue.proofs.mail.Mail.take.Goals as goal

pub pop_as-requires-clause-rule : goal.pop_as-requires-clause-rule
pop_as-requires-clause-rule g c = (takes _ _ _ (has_number _ _ c.taker.invariant.takers), moments _ _ _)
