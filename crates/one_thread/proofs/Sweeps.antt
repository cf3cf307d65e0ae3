-- A statement over the records of cells comes to what it does at the cells of its range.
use Rattle.std.proofs.Common.{◌≡◌, ℕ, List, [], ◌∷◌, ◌++◌, map, Bool, true, false, ◌&&◌, cond, Option, Some, None, refl, ap, ◌∙◌}
use Rattle.std.specs.Prelude.{filter, option_map, Result, Ok, Err}
use Rattle.std.specs.List.{AllByRecursion, cons_option, filter_map}
use Rattle.std.proofs.lemmas.List.Elements.{filter_map-append}
use Rattle.sql_base.specs.OnRows.{first_failing, or_later, updated}
use Rattle.sql_base.specs.Val.{filter_val, Outcome, IsNumber, IsText, IsTruth, IsNothing}
use Rattle.sql_base.specs.declared.faults.EvalFault.{EvalFault}
use Rattle.sql_base.specs.declared.faults.Fault.{Fault}
use Rattle.sql_base.specs.declared.outcomes.Abort.{Abort}
use Rattle.sql_base.specs.declared.outcomes.Abort.TheVariants.{Faulted}
use Rattle.sql_base.specs.declared.statements.Assign.{Assign}
use Rattle.sql_base.specs.declared.statements.Statement.{Statement}
use Rattle.sql_base.specs.declared.statements.Statement.TheVariants.{Select, Update, Delete, Insert, LockTable}
use Rattle.sql_base.specs.declared.tables.TableDef.{TableDef}
use Rattle.sql_base.specs.declared.values.Value.{Value}
use Rattle.one_thread.specs.One.{fault_on, new_row_fault, sooner, statement_fault}
use Rattle.one_thread.specs.Scaffold.Scans.{abort_by, abort_of, checked_fate, delete_fate, first_abort, new_fate, row_fate, update_fate}
use Rattle.one_thread.specs.Scaffold.Statements.{Changing}
use Rattle.expression_values.specs.Values.{truth_of}
use Rattle.one_thread.specs.declared.cells.Cell.{Cell}

-- ---- cells of which just those of a window count

module _ (inside : Cell → Bool) where
  abbrev pub AllOut : List Cell → Type 0
  AllOut cells = AllByRecursion (λ c. inside c ≡ false) cells

  abbrev pub AllIn : List Cell → Type 0
  AllIn cells = AllByRecursion (λ c. inside c ≡ true) cells

  module _ {B : Type 0} (g : Cell → Option B) where
    out_none : (cells : List Cell) → AllOut cells → filter_map (λ c. cond (inside c) (g c) None) cells ≡ []
    out_none [] h = refl
    out_none (c ∷ cells) h = rw h.0 (out_none cells h.1)

    in_all : (cells : List Cell) → AllIn cells → filter_map (λ c. cond (inside c) (g c) None) cells ≡ filter_map g cells
    in_all [] h = refl
    in_all (c ∷ cells) h = rw h.0 (ap (cons_option (g c)) (in_all cells h.1))

    pub window_values : (A W Z : List Cell) → AllOut A → AllIn W → AllOut Z → filter_map (λ c. cond (inside c) (g c) None) (A ++ (W ++ Z)) ≡ filter_map g W
    window_values A W Z a w z =
        filter_map-append (λ c. cond (inside c) (g c) None) A (W ++ Z) ∙ rw (out_none A a) (filter_map-append (λ c. cond (inside c) (g c) None) W Z ∙ rw (in_all W w, out_none Z z) (append_nil (filter_map g W)))
      where
        append_nil : (xs : List B) → xs ++ [] ≡ xs
        append_nil [] = refl
        append_nil (x ∷ xs) = ap (λ ys. x ∷ ys) (append_nil xs)

  module _ (h : Cell → Cell) where
    out_same : (cells : List Cell) → AllOut cells → map (λ c. cond (inside c) (h c) c) cells ≡ cells
    out_same [] o = refl
    out_same (c ∷ cells) o = rw o.0 (ap (λ cs. c ∷ cs) (out_same cells o.1))

    in_map : (cells Z : List Cell) → AllIn cells → AllOut Z → map (λ c. cond (inside c) (h c) c) (cells ++ Z) ≡ map h cells ++ Z
    in_map [] Z i o = out_same Z o
    in_map (c ∷ cells) Z i o = rw i.0 (ap (λ cs. h c ∷ cs) (in_map cells Z i.1 o))

    pub window_map : (A W Z : List Cell) → AllOut A → AllIn W → AllOut Z → map (λ c. cond (inside c) (h c) c) (A ++ (W ++ Z)) ≡ A ++ (map h W ++ Z)
    window_map [] W Z a w z = in_map W Z w z
    window_map (c ∷ A) W Z a w z = rw a.0 (ap (λ cs. c ∷ cs) (window_map A W Z a.1 w z))

  module _ (f : Cell → Option Abort) where
    out_free : (cells : List Cell) → AllOut cells → first_abort (λ c. cond (inside c) (f c) None) cells ≡ None
    out_free [] o = refl
    out_free (c ∷ cells) o = rw o.0 (out_free cells o.1)

    in_first : (cells Z : List Cell) → AllIn cells → AllOut Z → first_abort (λ c. cond (inside c) (f c) None) (cells ++ Z) ≡ first_abort f cells
    in_first [] Z i o = out_free Z o
    in_first (c ∷ cells) Z i o = rw i.0 (ap (or_later (f c)) (in_first cells Z i.1 o))

    pub window_abort : (A W Z : List Cell) → AllOut A → AllIn W → AllOut Z → first_abort (λ c. cond (inside c) (f c) None) (A ++ (W ++ Z)) ≡ first_abort f W
    window_abort [] W Z a w z = in_first W Z w z
    window_abort (c ∷ A) W Z a w z = rw a.0 (window_abort A W Z a.1 w z)

  module _ (q : Cell → Bool) where
    out_filter : (cells : List Cell) → AllOut cells → filter (λ c. inside c && q c) cells ≡ []
    out_filter [] o = refl
    out_filter (c ∷ cells) o = rw o.0 (out_filter cells o.1)

    in_filter : (cells Z : List Cell) → AllIn cells → AllOut Z → filter (λ c. inside c && q c) (cells ++ Z) ≡ filter q cells
    in_filter [] Z i o = out_filter Z o
    in_filter (c ∷ cells) Z i o = rw i.0 (ap (λ cs. cond (q c) (c ∷ cs) cs) (in_filter cells Z i.1 o))

    pub window_filter : (A W Z : List Cell) → AllOut A → AllIn W → AllOut Z → filter (λ c. inside c && q c) (A ++ (W ++ Z)) ≡ filter q W
    window_filter [] W Z a w z = in_filter W Z w z
    window_filter (c ∷ A) W Z a w z = rw a.0 (window_filter A W Z a.1 w z)

-- ---- one row

pub sooner-is : (a b : Option Abort) → sooner a b ≡ or_later a b
sooner-is (Some x) b = refl
sooner-is None b = refl

-- a SELECT or DELETE at a row
pub read_fault : (key : List ℕ) (o : Outcome) → option_map (Faulted key) (fault_on o None) ≡ abort_of key (truth_of o)
read_fault key (Err f) = refl
read_fault key (Ok (IsTruth true)) = refl
read_fault key (Ok (IsTruth false)) = refl
read_fault key (Ok (IsNumber n)) = refl
read_fault key (Ok (IsText t)) = refl
read_fault key (Ok IsNothing) = refl

delete_fault : (key : List ℕ) (o : Outcome) → option_map (Faulted key) (fault_on o None) ≡ abort_by key (delete_fate (truth_of o))
delete_fault key (Err f) = refl
delete_fault key (Ok (IsTruth true)) = refl
delete_fault key (Ok (IsTruth false)) = refl
delete_fault key (Ok (IsNumber n)) = refl
delete_fault key (Ok (IsText t)) = refl
delete_fault key (Ok IsNothing) = refl

checked_fault : (key : List ℕ) (new : List Value) (o : Option Fault) → option_map (Faulted key) o ≡ abort_by key (checked_fate new o)
checked_fault key new (Some f) = refl
checked_fault key new None = refl

new_fault : (table : TableDef) (key : List ℕ) (r : Result (List Value) EvalFault) → option_map (Faulted key) (new_row_fault table r) ≡ abort_by key (new_fate table r)
new_fault table key (Err f) = refl
new_fault table key (Ok new) = checked_fault key new (first_failing table.checks new)

update_fault : (table : TableDef) (sets : List Assign) (key : List ℕ) (row : List Value) (o : Outcome) → option_map (Faulted key) (fault_on o (new_row_fault table (updated table sets row))) ≡ abort_by key (update_fate table sets (truth_of o) row)
update_fault table sets key row (Err f) = refl
update_fault table sets key row (Ok (IsTruth true)) = new_fault table key (updated table sets row)
update_fault table sets key row (Ok (IsTruth false)) = refl
update_fault table sets key row (Ok (IsNumber n)) = refl
update_fault table sets key row (Ok (IsText t)) = refl
update_fault table sets key row (Ok IsNothing) = refl

pub change_fault : (table : TableDef) (s : Statement) (key : List ℕ) (row : List Value) → Changing s → option_map (Faulted key) (statement_fault table s row) ≡ abort_by key (row_fate table s row)
change_fault table (Update t sets predicate access) key row is = update_fault table sets key row (filter_val predicate row)
change_fault table (Delete t predicate access) key row is = delete_fault key (filter_val predicate row)
change_fault table (Select t columns predicate access) key row is = absurd is
change_fault table (Insert t r) key row is = absurd is
change_fault table (LockTable t mode) key row is = absurd is
