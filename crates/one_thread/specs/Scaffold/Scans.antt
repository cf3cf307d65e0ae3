-- What SELECT, UPDATE and DELETE come to at the cells of their range.
use Rattle.std.specs.Prelude.{◌≡◌, ◌<◌, ◌++◌, ℕ, List, [], ◌∷◌, length, map, take, drop, count_by, Option, Some, None, Bool, true, false, Result, Ok, Err, All, IfSome}
use Rattle.std.specs.List.{AllByRecursion, filter_map}
use Rattle.sql_base.specs.OnRows.{fault_of, first_failing, or_later, updated}
use Rattle.sql_base.specs.Rows.{packed}
use Rattle.sql_base.specs.Val.{filter_val}
use Rattle.sql_base.specs.declared.expressions.Expr.{Expr}
use Rattle.sql_base.specs.declared.faults.EvalFault.{EvalFault}
use Rattle.sql_base.specs.declared.faults.Fault.{Fault}
use Rattle.sql_base.specs.declared.outcomes.Abort.{Abort}
use Rattle.sql_base.specs.declared.outcomes.Abort.TheVariants.{Faulted}
use Rattle.sql_base.specs.declared.statements.Assign.{Assign}
use Rattle.sql_base.specs.declared.statements.Statement.{Statement}
use Rattle.sql_base.specs.declared.statements.Statement.TheVariants.{Update, Delete}
use Rattle.sql_base.specs.declared.tables.TableDef.{TableDef}
use Rattle.sql_base.specs.declared.values.Value.{Value}
use Rattle.range_finder.specs.Range.{is_in}
use Rattle.sql_base.specs.declared.key_ranges.KeyRange.{KeyRange}
use Rattle.one_thread.specs.Scaffold.Cells.{replaced}
use Rattle.expression_values.specs.Values.{truth_of}
use Rattle.one_thread.specs.declared.cells.Cell.{Cell}
use Rattle.one_thread.specs.declared.scans.Fate.{Fate}
use Rattle.one_thread.specs.declared.scans.Fate.TheVariants.{Stays, Becomes, Fails}

abbrev pub checked_fate : List Value → Option Fault → Fate
checked_fate new (Some fault) = Fails fault
checked_fate new None = Becomes (Some new)

abbrev pub new_fate : TableDef → Result (List Value) EvalFault → Fate
new_fate table (Err fault) = Fails (fault_of fault)
new_fate table (Ok new) = checked_fate new (first_failing table.checks new)

abbrev pub update_fate : TableDef → List Assign → Result Bool EvalFault → List Value → Fate
update_fate table sets (Err fault) row = Fails (fault_of fault)
update_fate table sets (Ok false) row = Stays
update_fate table sets (Ok true) row = new_fate table (updated table sets row)

abbrev pub delete_fate : Result Bool EvalFault → Fate
delete_fate (Err fault) = Fails (fault_of fault)
delete_fate (Ok false) = Stays
delete_fate (Ok true) = Becomes None

abbrev pub row_fate : TableDef → Statement → List Value → Fate
row_fate table (Update t sets predicate access) row = update_fate table sets (truth_of (filter_val predicate row)) row
row_fate table (Delete t predicate access) row = delete_fate (truth_of (filter_val predicate row))
row_fate table other row = Stays

abbrev pub fate_at : TableDef → Statement → Option (List Value) → Fate
fate_at table s None = Stays
fate_at table s (Some row) = row_fate table s row

abbrev pub cell_fate : TableDef → Statement → Cell → Fate
cell_fate table s cell = fate_at table s cell.row

abbrev pub changed_by : Fate → Cell → Cell
changed_by (Becomes row) cell = replaced cell row
changed_by fate cell = cell

-- the cell after the change
abbrev pub changed : TableDef → Statement → Cell → Cell
changed table s cell = changed_by (cell_fate table s cell) cell

abbrev pub is_change : Fate → Bool
is_change (Becomes row) = true
is_change fate = false

-- its record is changed
abbrev pub is_changed : TableDef → Statement → Cell → Bool
is_changed table s cell = is_change (cell_fate table s cell)

abbrev pub abort_by : List ℕ → Fate → Option Abort
abort_by key (Fails fault) = Some (Faulted key fault)
abort_by key fate = None

-- the first record that fails
abbrev pub first_abort : (Cell → Option Abort) → List Cell → Option Abort
first_abort abort_at [] = None
first_abort abort_at (cell ∷ cells) = or_later (abort_at cell) (first_abort abort_at cells)

abbrev pub change_abort : TableDef → Statement → Cell → Option Abort
change_abort table s cell = abort_by cell.key (cell_fate table s cell)

-- what a change of cells comes to; after a record that fails, some of the cells before it are changed
abbrev pub Changes : TableDef → Statement → List Cell → List Cell → Result ℕ Abort → Type 0
Changes table s old new (Ok count) = (first_abort (change_abort table s) old ≡ None) × (count ≡ count_by (is_changed table s) old) × (new ≡ map (changed table s) old)
Changes table s old new (Err abort) = (first_abort (change_abort table s) old ≡ Some abort) × ((i : ℕ) × (new ≡ map (changed table s) (take i old) ++ drop i old))

-- what a change comes to at one cell
abbrev pub ChangesOne : TableDef → Statement → Cell → Cell → Result Bool Abort → Type 0
ChangesOne table s old new (Ok b) = (change_abort table s old ≡ None) × (b ≡ is_changed table s old) × (new ≡ changed table s old)
ChangesOne table s old new (Err abort) = (change_abort table s old ≡ Some abort) × (new ≡ old)

-- ---- reading

abbrev pub abort_of : List ℕ → Result Bool EvalFault → Option Abort
abort_of key (Err fault) = Some (Faulted key (fault_of fault))
abort_of key (Ok b) = None

abbrev pub abort_on : List ℕ → Option Expr → Option (List Value) → Option Abort
abort_on key predicate None = None
abort_on key predicate (Some row) = abort_of key (truth_of (filter_val predicate row))

abbrev pub read_abort : Option Expr → Cell → Option Abort
read_abort predicate cell = abort_on cell.key predicate cell.row

abbrev pub if_true : List ℕ → Result Bool EvalFault → Option (List ℕ)
if_true row (Ok true) = Some row
if_true row (Ok false) = None
if_true row (Err fault) = None

abbrev pub shown_of : List ℕ → Option Expr → Option (List Value) → Option (List ℕ)
shown_of columns predicate None = None
shown_of columns predicate (Some row) = if_true (packed columns row) (truth_of (filter_val predicate row))

-- what a SELECT shows of a cell
abbrev pub shown : List ℕ → Option Expr → Cell → Option (List ℕ)
shown columns predicate cell = shown_of columns predicate cell.row

abbrev pub ScansRows : List ℕ → Option Expr → List Cell → Result (List (List ℕ)) Abort → Type 0
ScansRows columns predicate cells (Ok rows) = (first_abort (read_abort predicate) cells ≡ None) × (rows ≡ filter_map (shown columns predicate) cells)
ScansRows columns predicate cells (Err abort) = first_abort (read_abort predicate) cells ≡ Some abort

-- a record of the cell has the columns
abbrev pub HasColumns : List ℕ → Cell → Type 0
HasColumns columns cell = IfSome cell.row (λ row. All (λ c. c < length row) columns)

-- ---- the cells of a range

-- they stand between others
abbrev pub Splits : Option KeyRange → List Cell → List Cell → List Cell → List Cell → Type 0
Splits range cells front inside behind =
    (cells ≡ front ++ (inside ++ behind)) × AllByRecursion (λ cell. is_in range cell.key ≡ false) front
    × AllByRecursion (λ cell. is_in range cell.key ≡ true) inside × AllByRecursion (λ cell. is_in range cell.key ≡ false) behind

abbrev pub ChangesIn : TableDef → Statement → Option KeyRange → List Cell → List Cell → Result ℕ Abort → Type 0
ChangesIn table s range old new came =
    (front : List Cell) × (inside : List Cell) × (behind : List Cell) × (changed_cells : List Cell) × Splits range old front inside behind × (new ≡ front ++ (changed_cells ++ behind)) × Changes table s inside changed_cells came

abbrev pub ReadsIn : List ℕ → Option Expr → Option KeyRange → List Cell → Result (List (List ℕ)) Abort → Type 0
ReadsIn columns predicate range cells came = (front : List Cell) × (inside : List Cell) × (behind : List Cell) × Splits range cells front inside behind × ScansRows columns predicate inside came
