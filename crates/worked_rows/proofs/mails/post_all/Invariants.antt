use Rattle.std.proofs.Common.{◌≡◌}
use Rattle.worked_rows.proofs.mails.post_all.Given as goal

abbrev pub invariant-loop-number : goal.invariant-loop-number
invariant-loop-number g l = l.poster.mail ≡ l.mail
