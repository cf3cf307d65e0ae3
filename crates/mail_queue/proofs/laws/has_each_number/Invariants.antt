use Rattle.mail_queue.specs.Messages.{HasNumbers}
use Rattle.mail_queue.proofs.laws.has_each_number.Given as goal

abbrev pub invariant-loop-number : goal.invariant-loop-number
invariant-loop-number g l = HasNumbers g.T.Numbered.number_of l.number l.tokens.items
