use Rattle.std.proofs.Common.{◌≡◌}
use Rattle.worked_rows.proofs.mails.take_some.Given as goal

abbrev pub invariant-loop : goal.invariant-loop
invariant-loop g l = l.taker.mail ≡ l.mail
