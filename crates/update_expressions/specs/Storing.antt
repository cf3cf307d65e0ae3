-- A value stored over another, and a row after its SETs.
use Rattle.std.specs.Prelude.{◌≡◌, List, length, Result}
use Rattle.sql_base.specs.OnRows.{updated}
use Rattle.sql_base.specs.Rows.{IsRow, padded}
use Rattle.sql_base.specs.Tables.{AreSets}
use Rattle.sql_base.specs.Val.{Item, IsNumber, IsText, IsTruth, IsNothing}
use Rattle.sql_base.specs.declared.faults.EvalFault.{EvalFault}
use Rattle.sql_base.specs.declared.statements.Assign.{Assign}
use Rattle.sql_base.specs.declared.tables.TableDef.{TableDef}
use Rattle.sql_base.specs.declared.values.Value.{Value}
use Rattle.sql_base.specs.declared.values.Value.TheVariants as value

-- what a column holds after another value; a text is padded to the one before it
abbrev pub value_over : Value → Item → Value
value_over old (IsNumber n) = value.Int n
value_over (value.Text before) (IsText text) = value.Text (padded (length before) text)
value_over (value.Int n) (IsText text) = value.Text text
value_over old (IsTruth b) = old
value_over old IsNothing = old

-- what the SETs make of a row, whatever table the two are of
abbrev pub Updates : List Assign → List Value → Result (List Value) EvalFault → Type 0
Updates sets row outcome = (table : TableDef) → AreSets table sets → IsRow table row → updated table sets row ≡ outcome
