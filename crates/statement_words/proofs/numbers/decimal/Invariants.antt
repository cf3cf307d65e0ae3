use Rattle.std.proofs.Common.{◌≡◌, ◌≤◌, ◌^◌, drop}
use Rattle.statement_words.specs.Words.{decimal, decimal_from}
use Rattle.statement_words.proofs.numbers.decimal.Given as goal

abbrev pub invariant-loop-digit : goal.invariant-loop-digit
invariant-loop-digit l = record { same : decimal_from l.number (drop l.digit-index l.digits) ≡ decimal l.digits; fits : l.number ≤ 2 ^ 63 }
