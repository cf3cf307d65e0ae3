-- What UPDATE, DELETE and SELECT make of the records of cells.
use Rattle.std.proofs.Common.{◌≡◌, ℕ, suc, List, [], ◌∷◌, length, map, Bool, true, false, ◌&&◌, cond, Option, Some, None, refl, ap, sym, ◌∙◌}
use Rattle.std.specs.Prelude.{filter, option_map, Result, Ok, Err, IfSome}
use Rattle.std.specs.List.{AllByRecursion, cons_option, filter_map}
use Rattle.sql_base.specs.OnRows.{first_failing, or_later, updated}
use Rattle.sql_base.specs.Rows.{key_of, packed}
use Rattle.sql_base.specs.Val.{filter_val, Outcome, IsNumber, IsText, IsTruth, IsNothing}
use Rattle.sql_base.specs.declared.expressions.Expr.{Expr}
use Rattle.sql_base.specs.declared.faults.EvalFault.{EvalFault}
use Rattle.sql_base.specs.declared.faults.Fault.{Fault}
use Rattle.sql_base.specs.declared.lock_names.Access.{Access}
use Rattle.sql_base.specs.declared.outcomes.Abort.{Abort}
use Rattle.sql_base.specs.declared.outcomes.Abort.TheVariants.{Faulted}
use Rattle.sql_base.specs.declared.statements.Assign.{Assign}
use Rattle.sql_base.specs.declared.statements.Statement.{Statement}
use Rattle.sql_base.specs.declared.statements.Statement.TheVariants.{Select, Update, Delete, Insert, LockTable}
use Rattle.sql_base.specs.declared.tables.TableDef.{TableDef}
use Rattle.sql_base.specs.declared.values.Value.{Value}
use Rattle.range_finder.specs.Range.{is_in, range}
use Rattle.one_thread.specs.One.{became, fate, fault_in, meets, predicate_of, row_after, selects, statement_fault, Records}
use Rattle.one_thread.specs.Scaffold.Cells.{now_of, nows, IsKeyed}
use Rattle.one_thread.specs.Scaffold.Scans.{abort_by, change_abort, changed, changed_by, checked_fate, delete_fate, fate_at, first_abort, if_true, is_change, is_changed, new_fate, row_fate, shown, update_fate}
use Rattle.one_thread.specs.Scaffold.Statements.{Changing}
use Rattle.expression_values.specs.Values.{truth_of}
use Rattle.one_thread.specs.declared.cells.Cell.{Cell}
use Rattle.one_thread.specs.declared.scans.Fate.{Fate}
use Rattle.one_thread.specs.declared.scans.Fate.TheVariants.{Stays}
use Rattle.one_thread.proofs.Sweeps.{sooner-is}
use Rattle.sql_base.proofs.Truths.{cond-alike}

-- ---- one row that doesn't fail

-- it is selected just where it is changed, and becomes what it is changed into
record Fated (cell : Cell) (f : Fate) (met : Bool) (row : List Value) (new : Option (List Value)) : Type 0 where
  selected : met ≡ is_change f
  now : now_of (changed_by f cell) ≡ cond met new (Some row)

module _ (table : TableDef) (cell : Cell) (row : List Value) (has : cell.row ≡ Some row) (key : List ℕ) where
  stays : (new : Option (List Value)) → Fated cell Stays false row new
  stays new = record { selected = refl; now = has }

  by_check : (new : List Value) (o : Option Fault) → abort_by key (checked_fate new o) ≡ None → Fated cell (checked_fate new o) true row (Some new)
  by_check new (Some f) none = absurd cc
  by_check new None none = record { selected = refl; now = refl }

  by_new : (sets : List Assign) (r : Result (List Value) EvalFault) → updated table sets row ≡ r → abort_by key (new_fate table r) ≡ None → Fated cell (new_fate table r) true row (Some (row_after table sets row))
  by_new sets (Err f) e none = absurd cc
  by_new sets (Ok new) e none = rw e (by_check new (first_failing table.checks new) none)

  by_update : (sets : List Assign) (p : Option Expr) (o : Outcome) → filter_val p row ≡ o → abort_by key (update_fate table sets (truth_of o) row) ≡ None → Fated cell (update_fate table sets (truth_of o) row) (meets p row) row (Some (row_after table sets row))
  by_update sets p (Err f) e none = absurd cc
  by_update sets p (Ok (IsTruth true)) e none = rw e (by_new sets (updated table sets row) refl none)
  by_update sets p (Ok (IsTruth false)) e none = rw e (stays (Some (row_after table sets row)))
  by_update sets p (Ok (IsNumber n)) e none = rw e (stays (Some (row_after table sets row)))
  by_update sets p (Ok (IsText t)) e none = rw e (stays (Some (row_after table sets row)))
  by_update sets p (Ok IsNothing) e none = rw e (stays (Some (row_after table sets row)))

  by_delete : (p : Option Expr) (o : Outcome) → filter_val p row ≡ o → abort_by key (delete_fate (truth_of o)) ≡ None → Fated cell (delete_fate (truth_of o)) (meets p row) row None
  by_delete p (Err f) e none = absurd cc
  by_delete p (Ok (IsTruth true)) e none = rw e (record { selected = refl; now = refl })
  by_delete p (Ok (IsTruth false)) e none = rw e (stays None)
  by_delete p (Ok (IsNumber n)) e none = rw e (stays None)
  by_delete p (Ok (IsText t)) e none = rw e (stays None)
  by_delete p (Ok IsNothing) e none = rw e (stays None)

  fated : (s : Statement) → Changing s → abort_by key (row_fate table s row) ≡ None → Fated cell (row_fate table s row) (meets (predicate_of s) row) row (became table s row)
  fated (Update t sets predicate access) is none = by_update sets predicate (filter_val predicate row) refl none
  fated (Delete t predicate access) is none = by_delete predicate (filter_val predicate row) refl none
  fated (Select t columns predicate access) is none = absurd is
  fated (Insert t r) is none = absurd is
  fated (LockTable t mode) is none = absurd is

-- what a SELECT shows of it
shown-is : (columns : List ℕ) (p : Option Expr) (row : List Value) (o : Outcome) → filter_val p row ≡ o → cond (meets p row) (Some (packed columns row)) None ≡ if_true (packed columns row) (truth_of o)
shown-is columns p row (Err f) e = rw e refl
shown-is columns p row (Ok (IsTruth true)) e = rw e refl
shown-is columns p row (Ok (IsTruth false)) e = rw e refl
shown-is columns p row (Ok (IsNumber n)) e = rw e refl
shown-is columns p row (Ok (IsText t)) e = rw e refl
shown-is columns p row (Ok IsNothing) e = rw e refl

-- ---- the records of cells

or_none : (a b : Option Abort) → or_later a b ≡ None → (a ≡ None) × (b ≡ None)
or_none None b e = (refl, e)
or_none (Some x) b e = absurd cc

module _ (table : TableDef) (s : Statement) where
  abbrev inside : Cell → Bool
  inside c = is_in (range table (predicate_of s)) c.key

  abbrev pub Keyed : List Cell → Type 0
  Keyed cells = AllByRecursion (λ c. IfSome (now_of c) (IsKeyed table c.key)) cells

  abbrev gated : (Cell → Option Abort) → Cell → Option Abort
  gated f c = cond (inside c) (f c) None

  module _ (f : List ℕ → Option (List Value) → Option Abort) (nothing : (key : List ℕ) → f key None ≡ None) (same : (key : List ℕ) (row : List Value) → option_map (Faulted key) (statement_fault table s row) ≡ f key (Some row)) where
    abort_step : (key : List ℕ) (rest : Records) (o : Option (List Value)) (later : Option Abort) → IfSome o (IsKeyed table key) → fault_in table s rest ≡ later
        → fault_in table s (cons_option o rest) ≡ or_later (cond (is_in (range table (predicate_of s)) key) (f key o) None) later
    abort_step key rest None later is e =
        e ∙ sym (ap (λ a. or_later (cond (is_in (range table (predicate_of s)) key) a None) later) (nothing key) ∙ ap (λ a. or_later a later) (cond-alike (is_in (range table (predicate_of s)) key) None))
    abort_step key rest (Some row) later is e =
        let b = is_in (range table (predicate_of s)) in
        let at = cond (b (key_of table row)) (option_map (Faulted (key_of table row)) (statement_fault table s row)) None in
        sooner-is at (fault_in table s rest) ∙ ap (or_later at) e ∙ ap (λ k. or_later (cond (b k) (option_map (Faulted k) (statement_fault table s row)) None) later) is.0
        ∙ ap (λ a. or_later (cond (b key) a None) later) (same key row)

    pub records_abort : (cells : List Cell) → Keyed cells → fault_in table s (nows cells) ≡ first_abort (gated (λ c. f c.key c.row)) cells
    records_abort [] is = refl
    records_abort (c ∷ cells) is = abort_step c.key (nows cells) c.row (first_abort (gated (λ x. f x.key x.row)) cells) is.0 (records_abort cells is.1)

  module _ (is_changing : Changing s) where
    abbrev sel : List Value → Bool
    sel row = selects table (predicate_of s) row

    abbrev chosen_by : Cell → Bool
    chosen_by c = inside c && is_changed table s c

    len_by : (c : Cell) (row : List Value) (rest : Records) (kept : List Cell) (m n : Bool) → m ≡ n → length rest ≡ length kept → length (cond m (row ∷ rest) rest) ≡ length (cond n (c ∷ kept) kept)
    len_by c row rest kept true true e same = ap suc same
    len_by c row rest kept false false e same = same
    len_by c row rest kept true false e same = absurd cc
    len_by c row rest kept false true e same = absurd cc

    fate_by : (row : List Value) (new o : Option (List Value)) (rest more : Records) (m : Bool) → o ≡ cond m new (Some row) → rest ≡ more → cons_option (cond m new (Some row)) rest ≡ cons_option o more
    fate_by row new o rest more m e same = ap (λ x. cons_option x rest) (sym e) ∙ ap (cons_option o) same

    -- one cell more: how many are selected, and what becomes of them
    record OneMore (c : Cell) (o : Option (List Value)) (rest more : Records) (kept : List Cell) : Type 0 where
      count : length (filter sel (cons_option o rest)) ≡ length (cond (chosen_by c) (c ∷ kept) kept)
      rows : filter_map (fate table s) (cons_option o rest) ≡ cons_option (now_of (cond (inside c) (changed table s c) c)) more

    one_more : (c : Cell) (rest more : Records) (kept : List Cell) (o : Option (List Value)) (b : Bool) → c.row ≡ o → inside c ≡ b → IfSome o (IsKeyed table c.key) → cond b (change_abort table s c) None ≡ None
        → length (filter sel rest) ≡ length kept → filter_map (fate table s) rest ≡ more → OneMore c o rest more kept
    one_more c rest more kept None true e i is none same rows =
        record { count = rw (i, e) same; rows = rw (i, e) rows }
    one_more c rest more kept None false e i is none same rows = record { count = rw i same; rows = rw (i, e) rows }
    one_more c rest more kept (Some row) false e i is none same rows =
        let out : is_in (range table (predicate_of s)) (key_of table row) ≡ false = ap (is_in (range table (predicate_of s))) is.0 ∙ i in
        record { count = rw (i, out) same; rows = rw (i, out, e) (ap (λ rs. row ∷ rs) rows) }
    one_more c rest more kept (Some row) true e i is none same rows =
        let into : is_in (range table (predicate_of s)) (key_of table row) ≡ true = ap (is_in (range table (predicate_of s))) is.0 ∙ i in
        let free : abort_by c.key (row_fate table s row) ≡ None = ap (λ x. abort_by c.key (fate_at table s x)) (sym e) ∙ none in
        let f = fated table c row e c.key s is_changing free in
        let changes : is_changed table s c ≡ is_change (row_fate table s row) = ap (λ x. is_change (fate_at table s x)) e in
        let becomes : now_of (changed table s c) ≡ cond (meets (predicate_of s) row) (became table s row) (Some row) = ap (λ x. now_of (changed_by (fate_at table s x) c)) e ∙ f.now in
        record {
          count = rw (i, into) (len_by c row (filter sel rest) kept (meets (predicate_of s) row) (is_changed table s c) (f.selected ∙ sym changes) same);
          rows = rw (i, into) (fate_by row (became table s row) (now_of (changed table s c)) (filter_map (fate table s) rest) more (meets (predicate_of s) row) becomes rows);
        }

    pub records_changed : (cells : List Cell) → Keyed cells → first_abort (gated (change_abort table s)) cells ≡ None
        → (length (filter sel (nows cells)) ≡ length (filter chosen_by cells)) × (filter_map (fate table s) (nows cells) ≡ nows (map (λ c. cond (inside c) (changed table s c) c) cells))
    records_changed [] is none = (refl, refl)
    records_changed (c ∷ cells) is none =
        let parts = or_none (gated (change_abort table s) c) (first_abort (gated (change_abort table s)) cells) none in
        let rest = records_changed cells is.1 parts.1 in
        let one = one_more c (nows cells) (nows (map (λ x. cond (inside x) (changed table s x) x) cells)) (filter chosen_by cells) c.row (inside c) refl refl is.0 parts.0 rest.0 rest.1 in
        (one.count, one.rows)

-- what a SELECT gives
module _ (table : TableDef) (t : ℕ) (columns : List ℕ) (p : Option Expr) (access : Access) where
  abbrev within : Cell → Bool
  within c = is_in (range table p) c.key

  read_step : (c : Cell) (rest : Records) (more : List (List ℕ)) (o : Option (List Value)) (b : Bool) → within c ≡ b → c.row ≡ o → IfSome o (IsKeyed table c.key) → map (packed columns) (filter (selects table p) rest) ≡ more
      → map (packed columns) (filter (selects table p) (cons_option o rest)) ≡ cons_option (cond b (shown columns p c) None) more
  read_step c rest more None true i e is same = rw e same
  read_step c rest more None false i e is same = same
  read_step c rest more (Some row) false i e is same =
      let out : is_in (range table p) (key_of table row) ≡ false = ap (is_in (range table p)) is.0 ∙ i in rw out same
  read_step c rest more (Some row) true i e is same =
      let into : is_in (range table p) (key_of table row) ≡ true = ap (is_in (range table p)) is.0 ∙ i in
      rw (into, e) (by (meets p row) same ∙ ap (λ x. cons_option x more) (shown-is columns p row (filter_val p row) refl))
    where
      by : (m : Bool) → map (packed columns) (filter (selects table p) rest) ≡ more → map (packed columns) (cond m (row ∷ filter (selects table p) rest) (filter (selects table p) rest)) ≡ cons_option (cond m (Some (packed columns row)) None) more
      by true h = ap (λ xs. packed columns row ∷ xs) h
      by false h = h

  pub records_read : (cells : List Cell) → Keyed table (Select t columns p access) cells → map (packed columns) (filter (selects table p) (nows cells)) ≡ filter_map (λ c. cond (within c) (shown columns p c) None) cells
  records_read [] is = refl
  records_read (c ∷ cells) is = read_step c (nows cells) (filter_map (λ x. cond (within x) (shown columns p x) None) cells) c.row (within c) refl refl is.0 (records_read cells is.1)
