-- SELECT, UPDATE and DELETE are one case.
use Rattle.std.proofs.Common.{◌≡◌, List, [], ◌∷◌, length, map, Bool, true, false, not, cond, Option, Some, None, refl, ap, sym, ◌∙◌}
use Rattle.std.specs.Prelude.{count_by, filter, option_map, Ok, if◌then◌else◌}
use Rattle.std.specs.List.{cons_option, filter_map}
use Rattle.std.proofs.lemmas.List.Sums.{length-filter}
use Rattle.sql_base.specs.OnRows.{updated}
use Rattle.sql_base.specs.Rows.{chosen, kinds, key_of, packed}
use Rattle.sql_base.specs.Val.{filter_val}
use Rattle.sql_base.specs.declared.expressions.Expr.{Expr}
use Rattle.sql_base.specs.declared.faults.Fault.{Fault}
use Rattle.sql_base.specs.declared.outcomes.Abort.{Abort}
use Rattle.sql_base.specs.declared.outcomes.Abort.TheVariants.{Faulted}
use Rattle.sql_base.specs.declared.outcomes.Given.{Given}
use Rattle.sql_base.specs.declared.outcomes.Given.TheVariants.{Rows, Count}
use Rattle.sql_base.specs.declared.statements.Statement.{Statement}
use Rattle.sql_base.specs.declared.statements.Statement.TheVariants.{Select, Update, Delete, Insert, LockTable}
use Rattle.sql_base.specs.declared.tables.TableDef.{TableDef}
use Rattle.sql_base.specs.declared.values.Value.{Value}
use Rattle.range_finder.specs.Range.{is_in, range}
use Rattle.one_thread.specs.One.{done_unless, fault_on, first_fault, new_row_fault, row_after, selects, sooner, statement_fault, Records, ScansAreOne}
use Rattle.sql_base.proofs.Truths.{cond-alike}

-- the fault of the first row of a range that faults
module _ (table : TableDef) (predicate : Option Expr) (met : List Value → Option Fault) (fault : List Value → Option Fault) (same : (row : List Value) → fault row ≡ fault_on (filter_val predicate row) (met row)) where
  abbrev at : List Value → Option Abort
  at row = if is_in (range table predicate) (key_of table row) then option_map (Faulted (key_of table row)) (fault row) else None

  abbrev all : Records → Option Abort
  all [] = None
  all (row ∷ rows) = sooner (at row) (all rows)

  by : (row : List Value) (rows : Records) (b : Bool) (o : Option Fault) → is_in (range table predicate) (key_of table row) ≡ b → fault_on (filter_val predicate row) (met row) ≡ o → first_fault table predicate met rows ≡ all rows
      → first_fault table predicate met (row ∷ rows) ≡ sooner (cond b (option_map (Faulted (key_of table row)) o) None) (all rows)
  by row rows true None e f rest = rw (e, f) rest
  by row rows true (Some x) e f rest = rw (e, f) refl
  by row rows false o e f rest = rw e rest

  pub faults : (rows : Records) → first_fault table predicate met rows ≡ all rows
  faults [] = refl
  faults (row ∷ rows) =
      by row rows (is_in (range table predicate) (key_of table row)) (fault row) refl (sym (same row)) (faults rows)

-- ---- what becomes of the rows

module _ (p : List Value → Bool) where
  pub kept_all : (rows : Records) → filter_map (λ row. cond (p row) (Some row) (Some row)) rows ≡ rows
  kept_all [] = refl
  kept_all (row ∷ rows) = ap (λ o. cons_option o (filter_map (λ r. cond (p r) (Some r) (Some r)) rows)) (cond-alike (p row) (Some row)) ∙ ap (λ rs. row ∷ rs) (kept_all rows)

  mapped : (f : List Value → List Value) (rows : Records) → map (λ row. cond (p row) (f row) row) rows ≡ filter_map (λ row. cond (p row) (Some (f row)) (Some row)) rows
  mapped f [] = refl
  mapped f (row ∷ rows) = step (p row) (mapped f rows)
    where
      step : (b : Bool) → map (λ r. cond (p r) (f r) r) rows ≡ filter_map (λ r. cond (p r) (Some (f r)) (Some r)) rows
          → (cond b (f row) row ∷ map (λ r. cond (p r) (f r) r) rows) ≡ cons_option (cond b (Some (f row)) (Some row)) (filter_map (λ r. cond (p r) (Some (f r)) (Some r)) rows)
      step true rest = ap (λ rs. f row ∷ rs) rest
      step false rest = ap (λ rs. row ∷ rs) rest

  removed : (rows : Records) → filter (λ row. not (p row)) rows ≡ filter_map (λ row. cond (p row) None (Some row)) rows
  removed [] = refl
  removed (row ∷ rows) = step (p row) refl (removed rows)
    where
      step : (b : Bool) → p row ≡ b → filter (λ r. not (p r)) rows ≡ filter_map (λ r. cond (p r) None (Some r)) rows → filter (λ r. not (p r)) (row ∷ rows) ≡ filter_map (λ r. cond (p r) None (Some r)) (row ∷ rows)
      step true e rest = rw e rest
      step false e rest = rw e (ap (λ rs. row ∷ rs) rest)

  counted : (rows : Records) → count_by p rows ≡ length (filter p rows)
  counted rows = sym (length-filter p rows)

-- ---- the law

same_done : (rows : Records) (f g : Option Abort) (a b : Given) (xs ys : Records) → f ≡ g → a ≡ b → xs ≡ ys → done_unless f rows (record { given = Ok a; records = xs }) ≡ done_unless g rows (record { given = Ok b; records = ys })
same_done rows f g a b xs ys e h k = ap (λ o. done_unless o rows (record { given = Ok a; records = xs })) e ∙ ap (λ x. done_unless g rows (record { given = Ok x; records = xs })) h ∙ ap (λ zs. done_unless g rows (record { given = Ok b; records = zs })) k

pub scans_are_one : ScansAreOne
scans_are_one table (Select t columns predicate access) rows is =
    let s : Statement = Select t columns predicate access in
    let sel = selects table predicate in
    same_done rows _ _ (Rows (chosen columns (kinds table)) (map (packed columns) (filter sel rows))) _ rows _ (faults table predicate (λ row. None) (statement_fault table s) (λ row. refl) rows) refl (sym (kept_all sel rows))
scans_are_one table (Update t sets predicate access) rows is =
    let s : Statement = Update t sets predicate access in
    let sel = selects table predicate in
    same_done rows _ _ (Count (count_by sel rows)) (Count (length (filter sel rows))) _ _ (faults table predicate (λ row. new_row_fault table (updated table sets row)) (statement_fault table s) (λ row. refl) rows) (ap Count (counted sel rows)) (mapped sel (row_after table sets) rows)
scans_are_one table (Delete t predicate access) rows is =
    let s : Statement = Delete t predicate access in
    let sel = selects table predicate in
    same_done rows _ _ (Count (count_by sel rows)) (Count (length (filter sel rows))) _ _ (faults table predicate (λ row. None) (statement_fault table s) (λ row. refl) rows) (ap Count (counted sel rows)) (removed sel rows)
scans_are_one table (Insert t row) rows is = absurd is
scans_are_one table (LockTable t mode) rows is = absurd is
