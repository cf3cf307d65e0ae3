use Rattle.std.proofs.Common.{arith, refl}
use Rattle.statement_words.proofs.Decimal.{too_wide}
use Rattle.statement_words.proofs.numbers.decimal.Goals as goal

pub returns-then-number-value : goal.returns-then-number-value
returns-then-number-value c = rw (too_wide c.args.digits.now c.loop-digit.digit-index c.loop-digit.number _ (omega arith) c.loop-digit.invariant.same (omega arith)) refl
