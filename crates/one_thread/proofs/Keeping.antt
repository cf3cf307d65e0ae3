-- A change keeps keys and what stood before the transaction.
use Rattle.std.proofs.Common.{◌≡◌, ℕ, List, [], ◌∷◌, ◌++◌, map, Bool, true, false, Option, Some, None, refl, ap, sym, ◌∙◌, subst}
use Rattle.std.specs.Prelude.{nat_eq, slice_get, slice_set, option_map, unwrap_or, Result, Ok, Err, IfSome}
use Rattle.std.specs.List.{AllByRecursion, cons_option, list_any}
use Rattle.std.proofs.lemmas.List.{length-set}
use Rattle.sql_base.specs.Keys.{Rise}
use Rattle.sql_base.specs.OnRows.{assigned, first_failing, stored, then_with, updated}
use Rattle.sql_base.specs.Rows.{key_kinds, key_values, kinds, padded, width}
use Rattle.sql_base.specs.Tables.{IsAssign, SuitsTable}
use Rattle.sql_base.specs.Val.{filter_val, val, Item, Outcome, IsNumber, IsText, IsTruth, IsNothing}
use Rattle.sql_base.specs.declared.faults.EvalFault.{EvalFault}
use Rattle.sql_base.specs.declared.faults.Fault.{Fault}
use Rattle.sql_base.specs.declared.statements.Assign.{Assign}
use Rattle.sql_base.specs.declared.statements.Statement.{Statement}
use Rattle.sql_base.specs.declared.statements.Statement.TheVariants.{Select, Update, Delete, Insert, LockTable}
use Rattle.sql_base.specs.declared.tables.TableDef.{TableDef}
use Rattle.sql_base.specs.declared.values.Value.{Value}
use Rattle.sql_base.specs.declared.values.Value.TheVariants as value
use Rattle.one_thread.specs.Scaffold.Cells.{before_of, befores, kept, now_of, old_row, IsKeyed}
use Rattle.one_thread.specs.Scaffold.Scans.{changed, changed_by, checked_fate, delete_fate, fate_at, new_fate, row_fate, update_fate}
use Rattle.one_thread.specs.Scaffold.Statements.{Restorable}
use Rattle.expression_values.specs.Values.{truth_of}
use Rattle.one_thread.specs.declared.cells.Before.{Before}
use Rattle.one_thread.specs.declared.cells.Before.TheVariants.{Same, Was, Absent}
use Rattle.one_thread.specs.declared.cells.Cell.{Cell}
use Rattle.one_thread.specs.declared.scans.Fate.{Fate}
use Rattle.one_thread.specs.declared.scans.Fate.TheVariants.{Stays, Becomes, Fails}
use Rattle.one_thread.proofs.Rising.{keys}
use Rattle.sql_base.proofs.RowFacts.{chosen_others}

-- ---- keys of updated rows

set_keeps : (table : TableDef) (key : List ℕ) (row : List Value) (c : ℕ) (v : Value) → list_any (nat_eq c) table.key ≡ false → IsKeyed table key row → IsKeyed table key (slice_set row c v)
set_keeps table key row c v other is = (ap (key_values (key_kinds table)) (chosen_others table.key row c v other) ∙ is.0, length-set row c v ∙ is.1)

stored_keeps : (table : TableDef) (key : List ℕ) (row : List Value) (c : ℕ) (item : Item) → list_any (nat_eq c) table.key ≡ false → IsKeyed table key row → IsKeyed table key (stored table c row item)
stored_keeps table key row c (IsNumber n) other is = set_keeps table key row c (value.Int n) other is
stored_keeps table key row c (IsText text) other is = set_keeps table key row c (value.Text (padded (unwrap_or (option_map width (slice_get (kinds table) c)) 0) text)) other is
stored_keeps table key row c (IsTruth b) other is = is
stored_keeps table key row c IsNothing other is = is

pub assigned_keeps : (table : TableDef) (key : List ℕ) (old : List Value) (sets : List Assign) (new last : List Value) → AllByRecursion (IsAssign table) sets → IsKeyed table key new → assigned table old sets new ≡ Ok last → IsKeyed table key last
assigned_keeps table key old [] new last each is e = subst (IsKeyed table key) (same e) is
  where
    same : ◌≡◌ {A = Result (List Value) EvalFault} (Ok new) (Ok last) → new ≡ last
    same h = cc
assigned_keeps table key old (set ∷ sets) new last each is e =
    by (val set.value old) e (λ item h. assigned_keeps table key old sets (stored table set.column new item) last each.1 (stored_keeps table key new set.column item each.0.3 is) h)
  where
    by : (o : Outcome) → then_with o (λ item. assigned table old sets (stored table set.column new item)) ≡ Ok last
        → ((item : Item) → assigned table old sets (stored table set.column new item) ≡ Ok last → IsKeyed table key last) → IsKeyed table key last
    by (Err fault) h rest = absurd cc
    by (Ok item) h rest = rest item h

-- ---- cells that a change makes

before_kept : (row old : Option (List Value)) (b : Before) → old_row row (kept old b) ≡ old_row old b
before_kept row None Same = refl
before_kept row (Some r) Same = refl
before_kept row old (Was r) = refl
before_kept row old Absent = refl

pub same_before : (cell : Cell) (f : Fate) → before_of (changed_by f cell) ≡ before_of cell
same_before cell Stays = refl
same_before cell (Fails fault) = refl
same_before cell (Becomes row) = before_kept row cell.row cell.before

pub same_key_by : (cell : Cell) (f : Fate) → (changed_by f cell).key ≡ cell.key
same_key_by cell Stays = refl
same_key_by cell (Fails fault) = refl
same_key_by cell (Becomes row) = refl

-- the statement may be made on the table
module _ (table : TableDef) (cell : Cell) (is : IfSome cell.row (IsKeyed table cell.key)) (row : List Value) (its : IsKeyed table cell.key row) where
  abbrev Keeps : Fate → Type 0
  Keeps f = IfSome (now_of (changed_by f cell)) (IsKeyed table cell.key)

  by_check : (new : List Value) (o : Option Fault) → IsKeyed table cell.key new → Keeps (checked_fate new o)
  by_check new (Some f) k = is
  by_check new None k = k

  by_new : (sets : List Assign) (r : Result (List Value) EvalFault) → AllByRecursion (IsAssign table) sets → updated table sets row ≡ r → Keeps (new_fate table r)
  by_new sets (Err f) each e = is
  by_new sets (Ok new) each e = by_check new (first_failing table.checks new) (assigned_keeps table cell.key row sets row new each its e)

  by_update : (sets : List Assign) (r : Result Bool EvalFault) → AllByRecursion (IsAssign table) sets → Keeps (update_fate table sets r row)
  by_update sets (Err f) each = is
  by_update sets (Ok false) each = is
  by_update sets (Ok true) each = by_new sets (updated table sets row) each refl

  by_delete : (r : Result Bool EvalFault) → Keeps (delete_fate r)
  by_delete (Err f) = is
  by_delete (Ok false) = is
  by_delete (Ok true) = tt

  keeps_row : (s : Statement) → SuitsTable table s → Keeps (row_fate table s row)
  keeps_row (Update t sets predicate access) suits = by_update sets (truth_of (filter_val predicate row)) suits.0.each
  keeps_row (Delete t predicate access) suits = by_delete (truth_of (filter_val predicate row))
  keeps_row (Select t columns predicate access) suits = is
  keeps_row (Insert t r) suits = is
  keeps_row (LockTable t mode) suits = is

pub changed_keeps : (table : TableDef) (s : Statement) (cell : Cell) → SuitsTable table s → IfSome (now_of cell) (IsKeyed table cell.key) → IfSome (now_of (changed table s cell)) (IsKeyed table cell.key)
changed_keeps table s cell suits is = by cell.row refl
  where
    by : (o : Option (List Value)) → cell.row ≡ o → IfSome (now_of (changed_by (fate_at table s o) cell)) (IsKeyed table cell.key)
    by None e = is
    by (Some row) e = keeps_row table cell is row (subst (λ x. IfSome x (IsKeyed table cell.key)) e is) s suits

-- ---- cells alike but for their records

abbrev pub Alike : List Cell → List Cell → Type 0
Alike [] [] = Unit {0}
Alike (c ∷ cs) (d ∷ ds) = (d.key ≡ c.key) × (before_of d ≡ before_of c) × Alike cs ds
Alike cs ds = ⊥

pub alike_same : (cells : List Cell) → Alike cells cells
alike_same [] = tt
alike_same (c ∷ cells) = (refl, refl, alike_same cells)

pub alike_both : (A B C D : List Cell) → Alike A B → Alike C D → Alike (A ++ C) (B ++ D)
alike_both [] [] C D h k = k
alike_both (a ∷ A) (b ∷ B) C D h k = (h.0, h.1, alike_both A B C D h.2 k)
alike_both [] (b ∷ B) C D h k = absurd h
alike_both (a ∷ A) [] C D h k = absurd h

pub alike_changed : (table : TableDef) (s : Statement) (cells : List Cell) → Alike cells (map (changed table s) cells)
alike_changed table s [] = tt
alike_changed table s (c ∷ cells) = (same_key_by c (fate_at table s c.row), same_before c (fate_at table s c.row), alike_changed table s cells)

alike_befores : (old new : List Cell) → Alike old new → befores new ≡ befores old
alike_befores [] [] h = refl
alike_befores (c ∷ cs) (d ∷ ds) h = ap (λ o. cons_option o (befores ds)) h.1 ∙ ap (cons_option (before_of c)) (alike_befores cs ds h.2)
alike_befores [] (d ∷ ds) h = absurd h
alike_befores (c ∷ cs) [] h = absurd h

pub alike_keys : (old new : List Cell) → Alike old new → keys new ≡ keys old
alike_keys [] [] h = refl
alike_keys (c ∷ cs) (d ∷ ds) h = ap (λ k. k ∷ keys ds) h.0 ∙ ap (λ ks. c.key ∷ ks) (alike_keys cs ds h.2)
alike_keys [] (d ∷ ds) h = absurd h
alike_keys (c ∷ cs) [] h = absurd h

alike_keyed : (table : TableDef) (old new : List Cell) → Alike old new → AllByRecursion (λ c. IfSome (before_of c) (IsKeyed table c.key)) old → AllByRecursion (λ c. IfSome (before_of c) (IsKeyed table c.key)) new
alike_keyed table [] [] h is = tt
alike_keyed table (c ∷ cs) (d ∷ ds) h is =
    (subst (λ k. IfSome (before_of d) (IsKeyed table k)) (sym h.0) (subst (λ o. IfSome o (IsKeyed table c.key)) (sym h.1) is.0), alike_keyed table cs ds h.2 is.1)
alike_keyed table [] (d ∷ ds) h is = absurd h
alike_keyed table (c ∷ cs) [] h is = absurd h

pub restorable : (table : TableDef) (old new : List Cell) → Alike old new → Restorable table old new
restorable table old new h = record {
  before = alike_befores old new h;
  keeps = λ is. record { rise = subst Rise (sym (alike_keys old new h)) is.rise; keyed = alike_keyed table old new h is.keyed };
}

-- ---- records now

pub now_changed : (table : TableDef) (s : Statement) (cells : List Cell) → SuitsTable table s → AllByRecursion (λ c. IfSome (now_of c) (IsKeyed table c.key)) cells → AllByRecursion (λ c. IfSome (now_of c) (IsKeyed table c.key)) (map (changed table s) cells)
now_changed table s [] suits is = tt
now_changed table s (c ∷ cells) suits is =
    (subst (λ k. IfSome (now_of (changed table s c)) (IsKeyed table k)) (sym (same_key_by c (fate_at table s c.row))) (changed_keeps table s c suits is.0), now_changed table s cells suits is.1)
