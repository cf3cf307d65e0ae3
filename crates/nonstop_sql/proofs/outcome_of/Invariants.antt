-- As many wires are made as the loop has come round.
use Rattle.std.proofs.Common.{◌≡◌, vec_len}
use Rattle.nonstop_sql.proofs.outcome_of.Given as goal

abbrev pub invariant-loop-number : goal.invariant-loop-number
invariant-loop-number l = vec_len l.wires ≡ l.number
