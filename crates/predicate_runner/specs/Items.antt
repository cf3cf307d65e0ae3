-- What a run comes to.
use Rattle.std.specs.Prelude.{Result, Ok, Err}
use Rattle.sql_base.specs.Val.{Item, Outcome, IsNumber, IsText, IsTruth}
use Rattle.sql_base.specs.declared.faults.EvalFault.{EvalFault}
use Rattle.predicate_runner.specs.declared.items.Item.{Item as Held}
use Rattle.predicate_runner.specs.declared.items.Item.TheVariants as held

abbrev pub item_in : Held → Item
item_in (held.Number n) = IsNumber n
item_in (held.Text text) = IsText text.now
item_in (held.Truth b) = IsTruth b

-- what a run comes to
abbrev pub outcome_of : Result Held EvalFault → Outcome
outcome_of (Ok item) = Ok (item_in item)
outcome_of (Err fault) = Err fault
