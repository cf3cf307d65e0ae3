-- What an UPDATE and the CHECKs make of one row.
use Rattle.std.specs.Prelude.{ℕ, ◌+◌, List, [], ◌∷◌, slice_get, slice_set, Option, Some, None, option_map, unwrap_or, true, false, Result, Ok, Err}
use Rattle.sql_base.specs.Rows.{padded, width, kinds}
use Rattle.sql_base.specs.Val.{val, Item, Outcome, IsNumber, IsText, IsTruth, IsNothing}
use Rattle.sql_base.specs.declared.expressions.Expr.{Expr}
use Rattle.sql_base.specs.declared.statements.Assign.{Assign}
use Rattle.sql_base.specs.declared.tables.TableDef.{TableDef}
use Rattle.sql_base.specs.declared.faults.EvalFault.{EvalFault}
use Rattle.sql_base.specs.declared.faults.EvalFault.TheVariants as eval
use Rattle.sql_base.specs.declared.faults.Fault.{Fault}
use Rattle.sql_base.specs.declared.faults.Fault.TheVariants as fault
use Rattle.sql_base.specs.declared.values.Value.{Value}
use Rattle.sql_base.specs.declared.values.Value.TheVariants as value

abbrev pub fault_of : EvalFault → Fault
fault_of eval.Overflow = fault.Overflow
fault_of eval.ZeroDivide = fault.ZeroDivide

-- the row with the column set; a text is padded to its column
abbrev pub stored : TableDef → ℕ → List Value → Item → List Value
stored table column row (IsNumber n) = slice_set row column (value.Int n)
stored table column row (IsText text) = slice_set row column (value.Text (padded (unwrap_or (option_map width (slice_get (kinds table) column)) 0) text))
-- never of a well-typed list
stored table column row (IsTruth b) = row
stored table column row IsNothing = row

-- goes on with the value, unless there is a fault
abbrev pub then_with : Outcome → (Item → Result (List Value) EvalFault) → Result (List Value) EvalFault
then_with (Ok item) go_on = go_on item
then_with (Err fault) go_on = Err fault

-- the new row, each expression evaluated on the old one; the fault is the first in written order
abbrev pub assigned : TableDef → List Value → List Assign → List Value → Result (List Value) EvalFault
assigned table old [] new = Ok new
assigned table old (set ∷ sets) new = then_with (val set.value old) (λ item. assigned table old sets (stored table set.column new item))

abbrev pub updated : TableDef → List Assign → List Value → Result (List Value) EvalFault
updated table sets row = assigned table row sets row

-- the fault of the CHECK of this number with this value: a CHECK fails where it isn't true
abbrev pub check_fault : ℕ → Outcome → Option Fault
check_fault number (Err fault) = Some (fault_of fault)
check_fault number (Ok (IsTruth true)) = None
check_fault number (Ok (IsTruth false)) = Some (fault.CheckFailed number)
check_fault number (Ok (IsNumber n)) = Some (fault.CheckFailed number)
check_fault number (Ok (IsText text)) = Some (fault.CheckFailed number)
check_fault number (Ok IsNothing) = Some (fault.CheckFailed number)

abbrev pub or_later : {X : Type 0} → Option X → Option X → Option X
or_later (Some first) later = Some first
or_later None later = later

-- the fault of the first CHECK that fails; CHECKs count from 1
abbrev pub failing_from : ℕ → List Expr → List Value → Option Fault
failing_from number [] row = None
failing_from number (check ∷ checks) row = or_later (check_fault number (val check row)) (failing_from (number + 1) checks row)

abbrev pub first_failing : List Expr → List Value → Option Fault
first_failing checks row = failing_from 1 checks row
