-- Statements and transactions in one thread.
use Rattle.std.specs.Prelude.{◌≡◌, ℕ, List, [], ◌∷◌, ◌++◌, length, map, filter, count_by, flat_map, slice_get, slice_set, Option, Some, None, option_map, unwrap_or, Bool, true, false, not, ◌&&◌, ◌==◌, Result, Ok, Err, if◌then◌else◌}
use Rattle.std.specs.List.{filter_map, list_any, range_with_len}
use Rattle.sql_base.specs.Keys.{key_lt, key_eq}
use Rattle.sql_base.specs.Rows.{chosen, kinds, key_of, packed}
use Rattle.sql_base.specs.Val.{Outcome, filter_val, IsTruth}
use Rattle.sql_base.specs.OnRows.{fault_of, updated, first_failing}
use Rattle.sql_base.specs.declared.outcomes.Abort.{Abort}
use Rattle.sql_base.specs.declared.outcomes.Abort.TheVariants.{Faulted, Duplicate}
use Rattle.sql_base.specs.declared.outcomes.Given.{Given}
use Rattle.sql_base.specs.declared.outcomes.Given.TheVariants.{Rows, Count, Silent}
use Rattle.sql_base.specs.Tables.{table_of}
use Rattle.range_finder.specs.Range.{range, is_in}
use Rattle.sql_base.specs.declared.expressions.Expr.{Expr}
use Rattle.sql_base.specs.declared.faults.EvalFault.{EvalFault}
use Rattle.sql_base.specs.declared.faults.Fault.{Fault}
use Rattle.sql_base.specs.declared.scripts.Load.{Load}
use Rattle.sql_base.specs.declared.scripts.Script.{Script}
use Rattle.sql_base.specs.declared.scripts.Work.{Work}
use Rattle.sql_base.specs.declared.statements.Assign.{Assign}
use Rattle.sql_base.specs.declared.statements.Statement.{Statement}
use Rattle.sql_base.specs.declared.statements.Statement.TheVariants.{Select, Update, Delete, Insert, LockTable}
use Rattle.sql_base.specs.declared.tables.TableDef.{TableDef}
use Rattle.sql_base.specs.declared.values.Value.{Value}

-- the records of one table, in key order
abbrev pub Records : Type 0
Records = List (List Value)

-- the predicate is true on the row
abbrev pub meets : Option Expr → List Value → Bool
meets predicate row = is_true (filter_val predicate row)
  where
    is_true : Outcome → Bool
    is_true (Ok (IsTruth b)) = b
    is_true outcome = false

-- the row lies in the range of the predicate and meets it
abbrev pub selects : TableDef → Option Expr → List Value → Bool
selects table predicate row = is_in (range table predicate) (key_of table row) && meets predicate row

-- the fault that a row meets: its predicate's; where the predicate is true, that of what is done with it
abbrev pub fault_on : Outcome → Option Fault → Option Fault
fault_on (Err fault) met = Some (fault_of fault)
fault_on (Ok (IsTruth true)) met = met
fault_on (Ok item) met = None

-- of a new row: the fault of the first SET expression that faults, else of the first CHECK that fails
abbrev pub new_row_fault : TableDef → Result (List Value) EvalFault → Option Fault
new_row_fault table (Ok row) = first_failing table.checks row
new_row_fault table (Err fault) = Some (fault_of fault)

-- the first of two faults
abbrev pub sooner : Option Abort → Option Abort → Option Abort
sooner (Some abort) later = Some abort
sooner None later = later

-- the key and fault of the first row of the range that faults
abbrev pub first_fault : TableDef → Option Expr → (List Value → Option Fault) → Records → Option Abort
first_fault table predicate met [] = None
first_fault table predicate met (row ∷ rows) =
    if is_in (range table predicate) (key_of table row)
    then sooner (option_map (Faulted (key_of table row)) (fault_on (filter_val predicate row) (met row))) (first_fault table predicate met rows)
    else first_fault table predicate met rows

-- the row after its SETs
abbrev pub row_after : TableDef → List Assign → List Value → List Value
row_after table sets row = new_row (updated table sets row)
  where
    new_row : Result (List Value) EvalFault → List Value
    new_row (Ok new) = new
    new_row (Err fault) = row

-- what a statement comes to on one table: what it gives or why it fails, and the records after it
pub record Done : Type 0 where
  pub given : Result Given Abort
  pub records : Records

abbrev pub done_unless : Option Abort → Records → Done → Done
done_unless (Some abort) before done = record { given = Err abort; records = before }
done_unless None before done = done

-- the records with one more, at its place in key order
abbrev pub row_placed : TableDef → List Value → Records → Records
row_placed table row [] = row ∷ []
row_placed table row (r ∷ rs) = if key_lt (key_of table row) (key_of table r) then row ∷ r ∷ rs else r ∷ row_placed table row rs

abbrev pub duplicate : TableDef → List Value → Records → Option Abort
duplicate table row rows = if list_any (λ r. key_eq (key_of table r) (key_of table row)) rows then Some (Duplicate (key_of table row)) else None

-- one statement on the records of its table
abbrev pub one_on : TableDef → Statement → Records → Done
one_on table (Select t columns predicate access) rows =
    done_unless (first_fault table predicate (λ row. None) rows) rows
    (record { given = Ok (Rows (chosen columns (kinds table)) (map (packed columns) (filter (selects table predicate) rows))); records = rows })
one_on table (Update t sets predicate access) rows =
    done_unless (first_fault table predicate (λ row. new_row_fault table (updated table sets row)) rows) rows
    (record { given = Ok (Count (count_by (selects table predicate) rows)); records = map (λ row. if selects table predicate row then row_after table sets row else row) rows })
one_on table (Delete t predicate access) rows =
    done_unless (first_fault table predicate (λ row. None) rows) rows
    (record { given = Ok (Count (count_by (selects table predicate) rows)); records = filter (λ row. not (selects table predicate row)) rows })
one_on table (Insert t row) rows =
    done_unless (sooner (duplicate table row rows) (option_map (Faulted (key_of table row)) (first_failing table.checks row))) rows
    (record { given = Ok Silent; records = row_placed table row rows })
one_on table (LockTable t mode) rows = record { given = Ok Silent; records = rows }

-- ---- SELECT, UPDATE and DELETE as one case: each row has one fate

-- the predicate of a statement that looks at rows
abbrev pub predicate_of : Statement → Option Expr
predicate_of (Select t columns predicate access) = predicate
predicate_of (Update t sets predicate access) = predicate
predicate_of (Delete t predicate access) = predicate
predicate_of other = None

-- the fault of a row, which for an UPDATE is also that of its new row
abbrev pub statement_fault : TableDef → Statement → List Value → Option Fault
statement_fault table (Select t columns predicate access) row = fault_on (filter_val predicate row) None
statement_fault table (Update t sets predicate access) row = fault_on (filter_val predicate row) (new_row_fault table (updated table sets row))
statement_fault table (Delete t predicate access) row = fault_on (filter_val predicate row) None
statement_fault table other row = None

-- what becomes of a row that the statement selects
abbrev pub became : TableDef → Statement → List Value → Option (List Value)
became table (Update t sets predicate access) row = Some (row_after table sets row)
became table (Delete t predicate access) row = None
became table other row = Some row

abbrev pub fate : TableDef → Statement → List Value → Option (List Value)
fate table s row = if selects table (predicate_of s) row then became table s row else Some row

-- the key and fault of the first row of the range that faults
abbrev pub fault_in : TableDef → Statement → Records → Option Abort
fault_in table s [] = None
fault_in table s (row ∷ rows) =
    sooner (if is_in (range table (predicate_of s)) (key_of table row) then option_map (Faulted (key_of table row)) (statement_fault table s row) else None) (fault_in table s rows)

-- what a statement gives of the rows that it selects
abbrev pub given_of : TableDef → Statement → Records → Given
given_of table (Select t columns predicate access) rows = Rows (chosen columns (kinds table)) (map (packed columns) rows)
given_of table (Update t sets predicate access) rows = Count (length rows)
given_of table (Delete t predicate access) rows = Count (length rows)
given_of table other rows = Silent

abbrev pub scanned : TableDef → Statement → Records → Done
scanned table s rows =
    done_unless (fault_in table s rows) rows (record { given = Ok (given_of table s (filter (selects table (predicate_of s)) rows)); records = filter_map (fate table s) rows })

-- a statement that looks at the rows of a range
abbrev pub IsScan : Statement → Type 0
IsScan (Select t columns predicate access) = Unit {0}
IsScan (Update t sets predicate access) = Unit {0}
IsScan (Delete t predicate access) = Unit {0}
IsScan other = ⊥

-- the law: they are that one case
abbrev pub ScansAreOne : Type 0
ScansAreOne = (table : TableDef) (s : Statement) (rows : Records) → IsScan s → one_on table s rows ≡ scanned table s rows

-- ---- worlds

-- the tables and their records
pub record World : Type 0 where
  pub tables : List TableDef
  pub records : List Records

-- one statement: what it gives or why it fails, and the world after it
abbrev pub on_table : World → Statement → Option TableDef → Result Given Abort × World
on_table w s None = (Ok Silent, w)
on_table w s (Some table) =
    let done = one_on table s (unwrap_or (slice_get w.records (table_of s)) []) in
    (done.given, record w { records = slice_set w.records (table_of s) done.records })

abbrev pub one : World → Statement → Result Given Abort × World
one w s = on_table w s (slice_get w.tables (table_of s))

-- how a transaction ends without a stamp, what its statements gave, and the world after it
pub data Ending : Type 0 where
  Commits : Ending
  RollsBack : Ending
  Aborts : Abort → Ending

pub record Ran : Type 0 where
  pub ending : Ending
  pub given : List Given
  pub world : World

abbrev pub ends : Bool → Ending
ends true = Commits
ends false = RollsBack

-- the statements of a transaction, one after the other; it gives back the world from before it unless it commits
abbrev pub run_from : World → Bool → List Given → List Statement → World → Ran
run_from before commit given [] w = record { ending = ends commit; given = given; world = if commit then w else before }
run_from before commit given (s ∷ ss) w = go_on (one w s).0 (λ g. run_from before commit (given ++ g ∷ []) ss (one w s).1)
  where
    go_on : Result Given Abort → (Given → Ran) → Ran
    go_on (Ok g) rest = rest g
    go_on (Err abort) rest = record { ending = Aborts abort; given = []; world = before }

abbrev pub run_work : World → Work → Ran
run_work w work = run_from w work.commit [] work.statements w

-- the transactions in one thread: how each ended and what it gave, and the world after the last
abbrev pub one_run : List Work → World → List Ran
one_run [] w = []
one_run (work ∷ works) w = let ran = run_work w work in ran ∷ one_run works ran.world

abbrev pub world_after : List Work → World → World
world_after [] w = w
world_after (work ∷ works) w = world_after works (run_work w work).world

-- the LOAD rows of a table
abbrev pub load_rows : List Load → ℕ → Records
load_rows loads table = flat_map (λ load. if load.table == table then load.rows else []) loads

-- the world that the LOAD rows make
abbrev pub loaded : Script → World
loaded script = record { tables = script.tables; records = map (load_rows script.loads) (range_with_len 0 (length script.tables)) }
