-- What is known of the value of an expression that is tried for a number or a truth value.
use Rattle.std.specs.Prelude.{◌≡◌, Bool, true, false, Ok, Err}
use Rattle.sql_base.specs.Val.{Outcome, IsNumber, IsTruth}
use Rattle.sql_base.specs.declared.faults.EvalFault.TheVariants.{Overflow, ZeroDivide}
use Rattle.expression_values.specs.declared.truths.Number.{Number}
use Rattle.expression_values.specs.declared.truths.Number.TheVariants as number
use Rattle.expression_values.specs.declared.truths.Verdict.{Verdict}
use Rattle.expression_values.specs.declared.truths.Verdict.TheVariants as verdict

abbrev pub TellsNumber : Number → Outcome → Type 0
TellsNumber (number.Is n) came = came ≡ Ok (IsNumber n)
TellsNumber number.Overflow came = came ≡ Err Overflow
TellsNumber number.ZeroDivide came = came ≡ Err ZeroDivide
TellsNumber number.Other came = Unit {0}

-- a value that is no truth value
abbrev pub is_other : Outcome → Bool
is_other (Ok (IsTruth b)) = false
is_other (Ok item) = true
is_other (Err fault) = false

abbrev pub Judges : Verdict → Outcome → Type 0
Judges (verdict.Is b) came = came ≡ Ok (IsTruth b)
Judges (verdict.Fails fault) came = came ≡ Err fault
Judges verdict.Other came = is_other came ≡ true
