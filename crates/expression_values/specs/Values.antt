-- What the evaluator gives, as values of expressions.
use Rattle.std.specs.Prelude.{Bool, false, Result, Ok, Err}
use Rattle.sql_base.specs.Val.{Item, Outcome, IsNumber, IsText, IsTruth, IsNothing}
use Rattle.sql_base.specs.declared.faults.EvalFault.{EvalFault}
use Rattle.expression_values.specs.declared.values.Item.{Item as Held}
use Rattle.expression_values.specs.declared.values.Item.TheVariants as held

abbrev pub item_in : Held → Item
item_in (held.Number n) = IsNumber n
item_in (held.Text text) = IsText text.now
item_in (held.Truth b) = IsTruth b
item_in held.Nothing = IsNothing

abbrev pub outcome_in : Result Held EvalFault → Outcome
outcome_in (Ok item) = Ok (item_in item)
outcome_in (Err fault) = Err fault

-- whether a value is true, or its fault
abbrev pub truth_of : Outcome → Result Bool EvalFault
truth_of (Err fault) = Err fault
truth_of (Ok (IsTruth b)) = Ok b
truth_of (Ok item) = Ok false
