-- Where a key stands among the cells, and what an INSERT there makes of them.
use Rattle.std.proofs.Common.{◌≡◌, ℕ, suc, ◌+◌, ◌<◌, ◌≤◌, List, [], ◌∷◌, ◌++◌, length, map, take, drop, get_or, true, false, Option, Some, None, refl, ap, sym, ◌∙◌, subst, append_assoc, arith}
use Rattle.std.specs.Prelude.{slice_set, option_map, IfSome}
use Rattle.std.specs.List.{AllByRecursion, cons_option}
use Rattle.std.specs.Option.{is_some}
use Rattle.std.specs.List.Sorted.{IsPartitionPoint}
use Rattle.std.proofs.lemmas.List.{drop_more, length-map, take-append-drop}
use Rattle.std.proofs.lemmas.List.Elements.{filter_map-append}
use Rattle.sql_base.specs.Keys.{key_eq, key_lt, Rise}
use Rattle.sql_base.specs.OnRows.{first_failing}
use Rattle.sql_base.specs.Rows.{key_of, kinds, IsRow}
use Rattle.sql_base.proofs.KeyColumns.{are_of_kinds-length}
use Rattle.sql_base.specs.declared.faults.Fault.{Fault}
use Rattle.sql_base.specs.declared.outcomes.Abort.{Abort}
use Rattle.sql_base.specs.declared.outcomes.Abort.TheVariants.{Duplicate, Faulted}
use Rattle.sql_base.specs.declared.tables.TableDef.{TableDef}
use Rattle.sql_base.specs.declared.values.Value.{Value}
use Rattle.sql_base.proofs.KeyOrders.{lt-trans}
use Rattle.one_thread.specs.One.{duplicate, sooner}
use Rattle.one_thread.specs.Scaffold.Cells.{before_of, befores, kept, now_of, nows, old_row, replaced, AreCells, IsKeyed}
use Rattle.one_thread.specs.Scaffold.Inserting.{filled, insert_abort, Finds, Inserted}
use Rattle.one_thread.specs.declared.inserting.Spot.{Spot}
use Rattle.one_thread.specs.declared.inserting.Spot.TheVariants.{Taken, Empty, New}
use Rattle.one_thread.specs.declared.cells.Before.{Before}
use Rattle.one_thread.specs.declared.cells.Before.TheVariants.{Same, Was, Absent}
use Rattle.one_thread.specs.declared.cells.Cell.{Cell}
use Rattle.one_thread.proofs.Rising.{keys}
use Rattle.one_thread.proofs.Parts.{all_above, all_drop, all_take, none_equal, one_equal, parts_at, placed_between, rise_between, rise_drop, rows_have, set_at, AllAbove, AllBelow}
use Rattle.sql_base.proofs.Orderings.{key_lt-other}
use Rattle.sql_base.proofs.ListFacts.{all_joined, all_left, all_right}
use Rattle.sql_base.proofs.Truths.{none-is}

-- ---- finding the place

abbrev pub Point : List ℕ → List Cell → ℕ → Type 0
Point key cells at = IsPartitionPoint (λ cell. key_lt cell.key key ≡ true) (λ cell. key_lt cell.key key ≡ false) cells at

pub behind_is : (cells : List Cell) (at : ℕ) (d : Cell) → at < length cells → drop at cells ≡ get_or cells at d ∷ drop (suc at) cells
behind_is cells at d lt = let next : at + 1 ≡ suc at = omega arith in drop_more cells at d lt ∙ ap (λ n. get_or cells at d ∷ drop n cells) next

pub below_front : (key : List ℕ) (cells : List Cell) (at : ℕ) → at ≤ length cells → Point key cells at → AllBelow key (take at cells)
below_front key cells at le point = all_take (λ c. key_lt c.key key ≡ true) cells at le (λ k d lt. point.0 k d (omega arith) lt)

pub at_end : (key : List ℕ) (cells : List Cell) (at : ℕ) → at ≡ length cells → AllAbove key (drop at cells)
at_end key cells at end = all_drop (λ c. key_lt key c.key ≡ true) cells at (λ k d le lt. absurd (omega (arith, end)))

pub above_new : (key : List ℕ) (cells : List Cell) (at : ℕ) (d : Cell) → at < length cells → Rise (keys cells) → Point key cells at → key_eq (get_or cells at d).key key ≡ false → AllAbove key (drop at cells)
above_new key cells at d lt rise point differ =
    let c = get_or cells at d in
    let over : key_lt key c.key ≡ true = key_lt-other c.key key (point.1 at d (omega arith) lt) differ in
    let is = behind_is cells at d lt in
    subst (AllAbove key) (sym is) (over, all_above key c (drop (suc at) cells) (λ a h. lt-trans key c.key a over h) (subst (λ cs. Rise (keys cs)) is (rise_drop cells at rise)))

pub above_same : (key : List ℕ) (cells : List Cell) (at : ℕ) (d : Cell) → at < length cells → Rise (keys cells) → (get_or cells at d).key ≡ key → AllAbove key (drop (suc at) cells)
above_same key cells at d lt rise same =
    let c = get_or cells at d in
    all_above key c (drop (suc at) cells) (λ a h. subst (λ k. key_lt k a ≡ true) same h) (subst (λ cs. Rise (keys cs)) (behind_is cells at d lt) (rise_drop cells at rise))

-- ---- what comes of it

or_abort : (o : Option Fault) (key : List ℕ) (d : Option Abort) → o ≡ None → d ≡ None → sooner d (option_map (Faulted key) o) ≡ None
or_abort o key d none free = rw (none, free) refl

pub inserted : (table : TableDef) (row : List Value) (key : List ℕ) (A mid B : List Cell) (x : Cell) → key ≡ key_of table row → x.key ≡ key → x.row ≡ Some row → length row ≡ length table.columns
    → nows mid ≡ [] → befores mid ≡ befores (x ∷ []) → (AllByRecursion (λ c. IfSome (before_of c) (IsKeyed table c.key)) mid → IfSome (before_of x) (IsKeyed table x.key))
    → AreCells table now_of (A ++ (mid ++ B)) → Rise (keys (A ++ x ∷ B)) → AllBelow key A → AllAbove key B → first_failing table.checks row ≡ None → Inserted table row (A ++ (mid ++ B)) (A ++ x ∷ B)
inserted table row key A mid B x key-is x-key x-row long empty same kept are rise below over passes =
    let IsNow : Cell → Type 0 = λ c. IfSome (now_of c) (IsKeyed table c.key) in
    let IsBefore : Cell → Type 0 = λ c. IfSome (before_of c) (IsKeyed table c.key) in
    let in_A = all_left IsNow A (mid ++ B) are.keyed in
    let in_B = all_right IsNow mid B (all_right IsNow A (mid ++ B) are.keyed) in
    let old : nows (A ++ (mid ++ B)) ≡ nows A ++ nows B = filter_map-append now_of A (mid ++ B) ∙ ap (λ rows. nows A ++ rows) (filter_map-append now_of mid B ∙ ap (λ rows. rows ++ nows B) empty) in
    let one : nows (x ∷ B) ≡ row ∷ nows B = rw x-row refl in
    let new : nows (A ++ x ∷ B) ≡ nows A ++ row ∷ nows B = filter_map-append now_of A (x ∷ B) ∙ ap (λ rows. nows A ++ rows) one in
    let lower = rows_have table key now_of (λ k. key_lt k key ≡ true) A in_A below in
    let upper = rows_have table key now_of (λ k. key_lt key k ≡ true) B in_B over in
    let free : duplicate table row (nows A ++ nows B) ≡ None = rw (← key-is, none_equal table key now_of (nows A) (nows B) lower upper) refl in
    record {
      allowed = or_abort (first_failing table.checks row) (key_of table row) (duplicate table row (nows (A ++ (mid ++ B)))) passes (ap (duplicate table row) old ∙ free);
      rows = new ∙ sym (placed_between table key now_of row (nows A) (nows B) (sym key-is) lower upper) ∙ ap (λ rows. Rattle.one_thread.specs.One.row_placed table row rows) (sym old);
      before = filter_map-append before_of A (x ∷ B) ∙ ap (λ rows. befores A ++ rows) (filter_map-append before_of (x ∷ []) B ∙ ap (λ rows. rows ++ befores B) (sym same) ∙ sym (filter_map-append before_of mid B)) ∙ sym (filter_map-append before_of A (mid ++ B));
      now = record { rise = rise; keyed = all_joined IsNow A (x ∷ B) in_A (subst (λ o. IfSome o (IsKeyed table x.key)) (sym x-row) (sym key-is ∙ sym x-key, long), in_B) };
      keeps = λ h. record {
        rise = rise;
        keyed = all_joined IsBefore A (x ∷ B) (all_left IsBefore A (mid ++ B) h.keyed)
            (kept (all_left IsBefore mid B (all_right IsBefore A (mid ++ B) h.keyed)), all_right IsBefore mid B (all_right IsBefore A (mid ++ B) h.keyed));
      };
    }

-- a record with the key stands already
pub taken : (table : TableDef) (row r : List Value) (key : List ℕ) (cells : List Cell) (at : ℕ) (d : Cell) → key ≡ key_of table row → at < length cells → (get_or cells at d).key ≡ key → (get_or cells at d).row ≡ Some r
    → AllByRecursion (λ c. IfSome (now_of c) (IsKeyed table c.key)) cells → insert_abort table row (nows cells) ≡ Some (Duplicate key)
taken table row r key cells at d key-is lt same full are =
    let IsNow : Cell → Type 0 = λ c. IfSome (now_of c) (IsKeyed table c.key) in
    let c = get_or cells at d in
    let split : take at cells ++ c ∷ drop (suc at) cells ≡ cells = parts_at cells at d lt in
    let here : IfSome c.row (IsKeyed table c.key) = (all_right IsNow (take at cells) (c ∷ drop (suc at) cells) (subst (AllByRecursion IsNow) (sym split) are)).0 in
    let its : IsKeyed table c.key r = subst (λ o. IfSome o (IsKeyed table c.key)) full here in
    let one : nows (c ∷ drop (suc at) cells) ≡ r ∷ nows (drop (suc at) cells) = rw full refl in
    let rows : nows cells ≡ nows (take at cells) ++ r ∷ nows (drop (suc at) cells) = ap nows (sym split) ∙ filter_map-append now_of (take at cells) (c ∷ drop (suc at) cells) ∙ ap (λ rs. nows (take at cells) ++ rs) one in
    rw (rows, ← key-is, one_equal table key now_of (nows (take at cells)) (nows (drop (suc at) cells)) r (its.0 ∙ same)) refl

before_replaced : (row : List Value) (old : Option (List Value)) (b : Before) → old ≡ None → old_row (Some row) (kept old b) ≡ old_row old b
before_replaced row None Same e = refl
before_replaced row None (Was r) e = refl
before_replaced row None Absent e = refl
before_replaced row (Some r) b e = absurd cc

-- the cell at a place has the row from now on
pub put_there : (row : List Value) (cells : List Cell) (at : ℕ) (d new : Cell) → at < length cells → new ≡ replaced (get_or cells at d) (Some row)
    → slice_set cells at new ≡ take at cells ++ map (λ cell. replaced cell (Some row)) (take 1 (drop at cells)) ++ drop (suc at) cells
put_there row cells at d new lt is =
    let one : map (λ (cell : Cell). replaced cell (Some row)) (take 1 (drop at cells)) ≡ new ∷ [] = ap (λ cs. map (λ (cell : Cell). replaced cell (Some row)) (take 1 cs)) (behind_is cells at d lt) ∙ ap (λ (c : Cell). c ∷ []) (sym is) in
    set_at cells at new lt ∙ sym (ap (λ cs. take at cells ++ cs ++ drop (suc at) cells) one ∙ append_assoc (take at cells) (new ∷ []) (drop (suc at) cells))

-- ---- an INSERT at a spot

pub row-length : (table : TableDef) (row : List Value) → IsRow table row → length row ≡ length table.columns
row-length table row is = sym (are_of_kinds-length (kinds table) row is) ∙ length-map table.columns (λ column. column.kind)

some_from : (o : Option (List Value)) → is_some o ≡ true → (r : List Value) × (o ≡ Some r)
some_from (Some r) e = (r, refl)
some_from None e = absurd cc

nowhere : Cell
nowhere = record { key = []; row = None; before = Same }

pub taken_at : (table : TableDef) (row : List Value) (key : List ℕ) (cells : List Cell) → key ≡ key_of table row → AreCells table now_of cells → Finds key cells Taken → insert_abort table row (nows cells) ≡ Some (Duplicate key)
taken_at table row key cells key-is are found =
    let has = found.2 nowhere in
    let full = some_from (get_or cells found.0 nowhere).row has.1 in
    taken table row full.0 key cells found.0 nowhere key-is found.1 has.0 full.1 are.keyed

new_at : (table : TableDef) (row : List Value) (key : List ℕ) (cells : List Cell) (at : ℕ) → key ≡ key_of table row → length row ≡ length table.columns → AreCells table now_of cells → Finds key cells (New at) → first_failing table.checks row ≡ None
    → Inserted table row cells (filled key row (New at) cells)
new_at table row key cells at key-is long are found passes =
    let x : Cell = record { key = key; row = Some row; before = Absent } in
    let whole : take at cells ++ drop at cells ≡ cells = take-append-drop at cells in
    let parts : AreCells table now_of (take at cells ++ drop at cells) = subst (AreCells table now_of) (sym whole) are in
    subst (λ cs. Inserted table row cs (take at cells ++ x ∷ drop at cells)) whole
    (inserted table row key (take at cells) [] (drop at cells) x key-is refl refl long refl refl (λ h. tt) parts (rise_between key x (take at cells) (drop at cells) refl parts.rise found.1.0 found.1.1) found.1.0 found.1.1 passes)

same_keys : (A B : List Cell) (c x : Cell) → x.key ≡ c.key → keys (A ++ x ∷ B) ≡ keys (A ++ c ∷ B)
same_keys [] B c x e = ap (λ k. k ∷ keys B) e
same_keys (a ∷ A) B c x e = ap (λ ks. a.key ∷ ks) (same_keys A B c x e)

empty_at : (table : TableDef) (row : List Value) (key : List ℕ) (cells : List Cell) (at : ℕ) → key ≡ key_of table row → length row ≡ length table.columns → AreCells table now_of cells → Finds key cells (Empty at) → first_failing table.checks row ≡ None
    → Inserted table row cells (filled key row (Empty at) cells)
empty_at table row key cells at key-is long are found passes =
    let c = get_or cells at nowhere in
    let has = found.1 nowhere in
    let none : c.row ≡ None = none-is c.row has.1 in
    let x : Cell = replaced c (Some row) in
    let whole : take at cells ++ c ∷ drop (suc at) cells ≡ cells = parts_at cells at nowhere found.0 in
    let parts : AreCells table now_of (take at cells ++ c ∷ drop (suc at) cells) = subst (AreCells table now_of) (sym whole) are in
    let rise : Rise (keys (take at cells ++ x ∷ drop (suc at) cells)) = subst Rise (sym (same_keys (take at cells) (drop (suc at) cells) c x refl)) parts.rise in
    let was : before_of x ≡ before_of c = before_replaced row c.row c.before none in
    let made : Inserted table row (take at cells ++ c ∷ drop (suc at) cells) (take at cells ++ x ∷ drop (suc at) cells) =
    inserted table row key (take at cells) (c ∷ []) (drop (suc at) cells) x key-is has.0 refl long (rw none refl) (ap (λ o. cons_option o []) (sym was)) (λ h. subst (λ o. IfSome o (IsKeyed table c.key)) (sym was) h.0) parts rise found.2.0 found.2.1 passes in
    subst (λ new. Inserted table row cells new) (sym (set_at cells at x found.0) ∙ put_there row cells at nowhere x found.0 refl)
    (subst (λ cs. Inserted table row cs (take at cells ++ x ∷ drop (suc at) cells)) whole made)

pub filled_at : (table : TableDef) (row : List Value) (key : List ℕ) (cells : List Cell) (spot : Spot) → (spot ≡ Taken → ⊥) → key ≡ key_of table row → IsRow table row → AreCells table now_of cells → Finds key cells spot → first_failing table.checks row ≡ None
    → Inserted table row cells (filled key row spot cells)
filled_at table row key cells Taken other key-is is are found passes = absurd (other refl)
filled_at table row key cells (New at) other key-is is are found passes = new_at table row key cells at key-is (row-length table row is) are found passes
filled_at table row key cells (Empty at) other key-is is are found passes = empty_at table row key cells at key-is (row-length table row is) are found passes

-- no record has the key
free : (table : TableDef) (row : List Value) (key : List ℕ) (A mid B : List Cell) → key ≡ key_of table row → nows mid ≡ [] → AllByRecursion (λ c. IfSome (now_of c) (IsKeyed table c.key)) (A ++ (mid ++ B)) → AllBelow key A → AllAbove key B
    → duplicate table row (nows (A ++ (mid ++ B))) ≡ None
free table row key A mid B key-is empty are below over =
    let IsNow : Cell → Type 0 = λ c. IfSome (now_of c) (IsKeyed table c.key) in
    let old : nows (A ++ (mid ++ B)) ≡ nows A ++ nows B = filter_map-append now_of A (mid ++ B) ∙ ap (λ rows. nows A ++ rows) (filter_map-append now_of mid B ∙ ap (λ rows. rows ++ nows B) empty) in
    let lower = rows_have table key now_of (λ k. key_lt k key ≡ true) A (all_left IsNow A (mid ++ B) are) below in
    let upper = rows_have table key now_of (λ k. key_lt key k ≡ true) B (all_right IsNow mid B (all_right IsNow A (mid ++ B) are)) over in
    rw (old, ← key-is, none_equal table key now_of (nows A) (nows B) lower upper) refl

free_at : (table : TableDef) (row : List Value) (key : List ℕ) (cells : List Cell) (spot : Spot) → (spot ≡ Taken → ⊥) → key ≡ key_of table row → AreCells table now_of cells → Finds key cells spot → duplicate table row (nows cells) ≡ None
free_at table row key cells Taken other key-is are found = absurd (other refl)
free_at table row key cells (New at) other key-is are found =
    let IsNow : Cell → Type 0 = λ c. IfSome (now_of c) (IsKeyed table c.key) in
    let whole : take at cells ++ drop at cells ≡ cells = take-append-drop at cells in
    subst (λ cs. duplicate table row (nows cs) ≡ None) whole (free table row key (take at cells) [] (drop at cells) key-is refl (subst (AllByRecursion IsNow) (sym whole) are.keyed) found.1.0 found.1.1)
free_at table row key cells (Empty at) other key-is are found =
    let IsNow : Cell → Type 0 = λ c. IfSome (now_of c) (IsKeyed table c.key) in
    let c = get_or cells at nowhere in
    let none : c.row ≡ None = none-is c.row (found.1 nowhere).1 in
    let whole : take at cells ++ c ∷ drop (suc at) cells ≡ cells = parts_at cells at nowhere found.0 in
    subst (λ cs. duplicate table row (nows cs) ≡ None) whole (free table row key (take at cells) (c ∷ []) (drop (suc at) cells) key-is (rw none refl) (subst (AllByRecursion IsNow) (sym whole) are.keyed) found.2.0 found.2.1)

-- a CHECK fails on the row
pub fails_at : (table : TableDef) (row : List Value) (key : List ℕ) (cells : List Cell) (spot : Spot) (fault : Fault) → (spot ≡ Taken → ⊥) → key ≡ key_of table row → AreCells table now_of cells → Finds key cells spot
    → first_failing table.checks row ≡ Some fault → insert_abort table row (nows cells) ≡ Some (Faulted key fault)
fails_at table row key cells spot fault other key-is are found fails = rw (free_at table row key cells spot other key-is are found, fails, ← key-is) refl
