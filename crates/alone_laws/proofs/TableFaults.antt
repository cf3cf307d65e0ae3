-- A statement whose first fault in its range is this fails in one thread by it.
use Rattle.std.proofs.Common.{◌≡◌, ◌<◌, ◌≤◌, ◌+◌, ℕ, suc, List, [], ◌∷◌, ◌++◌, length, filter, Bool, true, false, cond, ◌||◌, Option, Some, None, Err, inl, inr, refl, ap, sym, ◌∙◌, subst, arith, append_assoc}
use Rattle.std.specs.Prelude.{◌⊎◌}
use Rattle.std.specs.List.{AllByRecursion, list_any}
use Rattle.std.proofs.lemmas.Bool.{false≢true}
use Rattle.std.proofs.lemmas.List.Elements.{filter-append}
use Rattle.sql_base.specs.Keys.{key_eq}
use Rattle.sql_base.specs.OnRows.{first_failing, updated}
use Rattle.sql_base.specs.Rows.{key_of}
use Rattle.sql_base.specs.Val.{filter_val}
use Rattle.sql_base.specs.declared.expressions.Expr.{Expr}
use Rattle.sql_base.specs.declared.faults.Fault.{Fault}
use Rattle.sql_base.specs.declared.outcomes.Abort.{Abort}
use Rattle.sql_base.specs.declared.outcomes.Abort.TheVariants.{Faulted, Duplicate}
use Rattle.sql_base.specs.declared.statements.Statement.{Statement}
use Rattle.sql_base.specs.declared.statements.Statement.TheVariants.{Select, Update, Delete, Insert, LockTable}
use Rattle.sql_base.specs.declared.tables.TableDef.{TableDef}
use Rattle.sql_base.specs.declared.values.Value.{Value}
use Rattle.key_sequenced.specs.Cells.{Keyed}
use Rattle.one_thread.specs.One.{Done, done_unless, fault_on, first_fault, new_row_fault, one_on, statement_fault}
use Rattle.partition_map.specs.Map.{part_of}
use Rattle.range_finder.specs.Range.{is_in, range}
use Rattle.run_record.specs.Tiles.{FaultFree}
use Rattle.serial_passes.specs.Scaffold.Pieces.{AreOf, in_range}
use Rattle.serial_passes.proofs.Blocks.{AreKeyed, ranged, rows_in}
use Rattle.serial_passes.proofs.Placings.{IsAbsent, absent_of, no_duplicate}
use Rattle.serial_passes.proofs.Sweeping.{Sweeps}
use Rattle.serial_passes.proofs.Tables.{AllFrom, joined, rows_of, rows_of-joined}
use Rattle.sql_base.proofs.ListFacts.{all_joined, any-push_left, any-push_right}

-- of the records in the range of a statement, this is the first that faults
pub record RangeFails (table : TableDef) (statement : Statement) (v : List Keyed) (key : List ℕ) (fault : Fault) : Type 0 where
  pub keyed : AreKeyed table v
  pub front : List Keyed
  pub first : Keyed
  pub back : List Keyed
  pub split : ranged table statement v ≡ front ++ first ∷ back
  pub fine : AllByRecursion (FaultFree table statement) front
  pub key_is : first.key ≡ key
  pub faults : statement_fault table statement first.row ≡ Some fault

-- the first fault among rows
module _ (table : TableDef) (predicate : Option Expr) (met : List Value → Option Fault) (key : List ℕ) (fault : Fault) where
  abbrev on : Keyed → Option Fault
  on k = fault_on (filter_val predicate k.row) (met k.row)

  abbrev lies : Keyed → Bool
  lies k = is_in (range table predicate) k.key

  found_first : (ks front : List Keyed) (first : Keyed) (back : List Keyed) → AreKeyed table ks → filter lies ks ≡ front ++ first ∷ back
      → AllByRecursion (λ k. on k ≡ None) front → first.key ≡ key → on first ≡ Some fault
      → first_fault table predicate met (rows_in ks) ≡ Some (Faulted key fault)
  found_first [] [] first back keyed split fine key_is faults = absurd (cc)
  found_first [] (f ∷ front) first back keyed split fine key_is faults = absurd (cc)
  found_first (k ∷ ks) front first back (here, keyed) split fine key_is faults =
      by_range (is_in (range table predicate) k.key) refl front split fine (λ more rest_split rest_fine. found_first ks more first back keyed rest_split rest_fine key_is faults)
    where
      at_key : (b : Bool) → is_in (range table predicate) k.key ≡ b → is_in (range table predicate) (key_of table k.row) ≡ b
      at_key b e = subst (λ key. is_in (range table predicate) key ≡ b) here e

      by_range : (b : Bool) → is_in (range table predicate) k.key ≡ b → (front : List Keyed)
          → cond b (k ∷ filter lies ks) (filter lies ks) ≡ front ++ first ∷ back
          → AllByRecursion (λ k. on k ≡ None) front
          → ((more : List Keyed) → filter lies ks ≡ more ++ first ∷ back → AllByRecursion (λ k. on k ≡ None) more
          → first_fault table predicate met (rows_in ks) ≡ Some (Faulted key fault))
          → first_fault table predicate met (rows_in (k ∷ ks)) ≡ Some (Faulted key fault)
      by_range true e [] split fine later =
          let same : k ≡ first = cc in
          let faulty : on k ≡ Some fault = subst (λ x. on x ≡ Some fault) (sym same) faults in
          let own : key_of table k.row ≡ key = sym here ∙ ap (λ (x : Keyed). x.key) same ∙ key_is in
          rw (at_key true e, faulty) (ap (λ x. Some (Faulted x fault)) own)
      by_range true e (f ∷ front) split fine later =
          let same : k ≡ f = cc in
          let rest : filter lies ks ≡ front ++ first ∷ back = cc in
          let none : on k ≡ None = subst (λ x. on x ≡ None) (sym same) fine.0 in
          rw (at_key true e, none) (later front rest fine.1)
      by_range false e front split fine later = rw (at_key false e) (later front split fine)

fails_done : (abort : Option Abort) (a : Abort) (before : List (List Value)) (done : Done) → abort ≡ Some a → (done_unless abort before done).given ≡ Err a
fails_done abort a before done e = ap (λ o. (done_unless o before done).given) e

-- so the statement fails in one thread
pub one_fails : (table : TableDef) (statement : Statement) (v : List Keyed) (key : List ℕ) (fault : Fault) → Sweeps statement → RangeFails table statement v key fault → (one_on table statement (rows_in v)).given ≡ Err (Faulted key fault)
one_fails table (Select t columns predicate access) v key fault sweeps f =
    fails_done (first_fault table predicate (λ row. None) (rows_in v)) (Faulted key fault) (rows_in v) _ (found_first table predicate (λ row. None) key fault v f.front f.first f.back f.keyed f.split f.fine f.key_is f.faults)
one_fails table (Update t sets predicate access) v key fault sweeps f =
    fails_done (first_fault table predicate (λ row. new_row_fault table (updated table sets row)) (rows_in v)) (Faulted key fault) (rows_in v) _
    (found_first table predicate (λ row. new_row_fault table (updated table sets row)) key fault v f.front f.first f.back f.keyed f.split f.fine f.key_is f.faults)
one_fails table (Delete t predicate access) v key fault sweeps f =
    fails_done (first_fault table predicate (λ row. None) (rows_in v)) (Faulted key fault) (rows_in v) _ (found_first table predicate (λ row. None) key fault v f.front f.first f.back f.keyed f.split f.fine f.key_is f.faults)
one_fails table (Insert t row) v key fault sweeps f = absurd sweeps
one_fails table (LockTable t mode) v key fault sweeps f = absurd sweeps

-- behind records without a fault, and before any
fails_after : (table : TableDef) (statement : Statement) (u v : List Keyed) (key : List ℕ) (fault : Fault) → AreKeyed table u → AllByRecursion (FaultFree table statement) (ranged table statement u) → RangeFails table statement v key fault
    → RangeFails table statement (u ++ v) key fault
fails_after table statement u v key fault keyed fine f = record {
  keyed = all_joined (λ k. k.key ≡ key_of table k.row) u v keyed f.keyed;
  front = ranged table statement u ++ f.front;
  first = f.first;
  back = f.back;
  split = filter-append (λ k. in_range table statement k.key) u v ∙ ap (λ ks. ranged table statement u ++ ks) f.split ∙ sym (append_assoc (ranged table statement u) f.front (f.first ∷ f.back));
  fine = all_joined (FaultFree table statement) (ranged table statement u) f.front fine f.fine;
  key_is = f.key_is;
  faults = f.faults;
}

fails_before : (table : TableDef) (statement : Statement) (u v : List Keyed) (key : List ℕ) (fault : Fault) → RangeFails table statement u key fault → AreKeyed table v → RangeFails table statement (u ++ v) key fault
fails_before table statement u v key fault f keyed = record {
  keyed = all_joined (λ k. k.key ≡ key_of table k.row) u v f.keyed keyed;
  front = f.front;
  first = f.first;
  back = f.back ++ ranged table statement v;
  split = filter-append (λ k. in_range table statement k.key) u v ∙ ap (λ ks. ks ++ ranged table statement v) f.split ∙ append_assoc f.front (f.first ∷ f.back) (ranged table statement v);
  fine = f.fine;
  key_is = f.key_is;
  faults = f.faults;
}

-- one partition of a statement that fails at another
pub record PartFails (table : TableDef) (statement : Statement) (m : ℕ) (key : List ℕ) (fault : Fault) (j : ℕ) (v w : List Keyed) : Type 0 where
  pub keyed : AreKeyed table v
  pub below : j < m → AllByRecursion (FaultFree table statement) (ranged table statement v)
  pub here : j ≡ m → RangeFails table statement v key fault

module _ (table : TableDef) (statement : Statement) (m : ℕ) (key : List ℕ) (fault : Fault) where
  all_keyed : (i : ℕ) (bx by : List (List Keyed)) → AllFrom (PartFails table statement m key fault) i bx by → AreKeyed table (joined bx)
  all_keyed i [] [] all = tt
  all_keyed i (x ∷ xs) (y ∷ ys) (here, all) = all_joined (λ k. k.key ≡ key_of table k.row) x (joined xs) here.keyed (all_keyed (suc i) xs ys all)
  all_keyed i [] (y ∷ ys) all = absurd all
  all_keyed i (x ∷ xs) [] all = absurd all

  block_fails : (i : ℕ) (bx by : List (List Keyed)) → i ≤ m → m < i + length bx → AllFrom (PartFails table statement m key fault) i bx by → RangeFails table statement (joined bx) key fault
  block_fails i [] [] low high all = absurd (omega arith)
  block_fails i (x ∷ xs) (y ∷ ys) low high (here, all) = by_place (grind arith) (λ more. block_fails (suc i) xs ys more (omega arith) all)
    where
      by_place : (i < m) ⊎ (i ≡ m) → (suc i ≤ m → RangeFails table statement (joined xs) key fault) → RangeFails table statement (x ++ joined xs) key fault
      by_place (inl before) rest = fails_after table statement x (joined xs) key fault here.keyed (here.below before) (rest (omega arith))
      by_place (inr same) rest = fails_before table statement x (joined xs) key fault (here.here same) (all_keyed (suc i) xs ys all)
  block_fails i [] (y ∷ ys) low high all = absurd all
  block_fails i (x ∷ xs) [] low high all = absurd all

  pub parts_fail : (bx by : List (List Keyed)) → Sweeps statement → m < length bx → AllFrom (PartFails table statement m key fault) 0 bx by → (one_on table statement (rows_of bx)).given ≡ Err (Faulted key fault)
  parts_fail bx by sweeps high all =
      ap (λ rows. (one_on table statement rows).given) (rows_of-joined bx) ∙ one_fails table statement (joined bx) key fault sweeps (block_fails 0 bx by (omega arith) (omega arith) all)

-- one partition of an INSERT that fails
pub record InsertFails (table : TableDef) (row : List Value) (abort : Abort) (j : ℕ) (v w : List Keyed) : Type 0 where
  pub are : AreOf table j v
  pub here : j ≡ part_of table (key_of table row) → (abort ≡ Duplicate (key_of table row)) × (list_any (λ k. key_eq k.key (key_of table row)) v ≡ true)
      ⊎ ((fault : Fault) × (abort ≡ Faulted (key_of table row) fault) × IsAbsent (key_of table row) v × (first_failing table.checks row ≡ Some fault))

module _ (table : TableDef) (t : ℕ) (row : List Value) (abort : Abort) where
  abbrev All : ℕ → List (List Keyed) → List (List Keyed) → Type 0
  All i bx by = AllFrom (InsertFails table row abort) i bx by

  keyed_in : (i : ℕ) (ks : List Keyed) → AreOf table i ks → AreKeyed table ks
  keyed_in i [] h = tt
  keyed_in i (k ∷ ks) h = (h.0.0, keyed_in i ks h.1)

  joined_keyed : (i : ℕ) (bx by : List (List Keyed)) → All i bx by → AreKeyed table (joined bx)
  joined_keyed i [] [] all = tt
  joined_keyed i (x ∷ xs) (y ∷ ys) (here, all) = all_joined (λ k. k.key ≡ key_of table k.row) x (joined xs) (keyed_in i x here.are) (joined_keyed (suc i) xs ys all)
  joined_keyed i [] (y ∷ ys) all = absurd all
  joined_keyed i (x ∷ xs) [] all = absurd all

  any_rows : (ks : List Keyed) → AreKeyed table ks → list_any (λ k. key_eq k.key (key_of table row)) ks ≡ true → list_any (λ r. key_eq (key_of table r) (key_of table row)) (rows_in ks) ≡ true
  any_rows [] keyed h = absurd (false≢true h)
  any_rows (k ∷ ks) (here, keyed) h = by_test (key_eq k.key (key_of table row)) refl h (any_rows ks keyed)
    where
      by_test : (b : Bool) → key_eq k.key (key_of table row) ≡ b → (b || list_any (λ k. key_eq k.key (key_of table row)) ks) ≡ true
          → (list_any (λ k. key_eq k.key (key_of table row)) ks ≡ true → list_any (λ r. key_eq (key_of table r) (key_of table row)) (rows_in ks) ≡ true)
          → (key_eq (key_of table k.row) (key_of table row) || list_any (λ r. key_eq (key_of table r) (key_of table row)) (rows_in ks)) ≡ true
      by_test true e h rest = rw (subst (λ key. key_eq key (key_of table row) ≡ true) here e) refl
      by_test false e h rest = rw (subst (λ key. key_eq key (key_of table row) ≡ false) here e) (rest h)

  -- what the partition of the key tells holds of all
  abbrev Told : List Keyed → Type 0
  Told ks = (abort ≡ Duplicate (key_of table row)) × (list_any (λ k. key_eq k.key (key_of table row)) ks ≡ true)
      ⊎ ((fault : Fault) × (abort ≡ Faulted (key_of table row) fault) × IsAbsent (key_of table row) ks × (first_failing table.checks row ≡ Some fault))

  told_before : (x rest : List Keyed) → IsAbsent (key_of table row) x → Told rest → Told (x ++ rest)
  told_before x rest absent (inl h) = inl (h.0, any-push_right (λ k. key_eq k.key (key_of table row)) x rest h.1)
  told_before x rest absent (inr h) = inr (h.0, h.1, all_joined (λ k. key_eq k.key (key_of table row) ≡ false) x rest absent h.2, h.3)

  told_behind : (x rest : List Keyed) → Told x → IsAbsent (key_of table row) rest → Told (x ++ rest)
  told_behind x rest (inl h) absent = inl (h.0, any-push_left (λ k. key_eq k.key (key_of table row)) x rest h.1)
  told_behind x rest (inr h) absent = inr (h.0, h.1, all_joined (λ k. key_eq k.key (key_of table row) ≡ false) x rest h.2 absent, h.3)

  absent_behind : (i : ℕ) (bx by : List (List Keyed)) → part_of table (key_of table row) < i → All i bx by → IsAbsent (key_of table row) (joined bx)
  absent_behind i [] [] lt all = tt
  absent_behind i (x ∷ xs) (y ∷ ys) lt (here, all) =
      all_joined (λ k. key_eq k.key (key_of table row) ≡ false) x (joined xs) (absent_of table (key_of table row) i (λ same. omega arith) x here.are) (absent_behind (suc i) xs ys (omega arith) all)
  absent_behind i [] (y ∷ ys) lt all = absurd all
  absent_behind i (x ∷ xs) [] lt all = absurd all

  told_all : (i : ℕ) (bx by : List (List Keyed)) → i ≤ part_of table (key_of table row) → part_of table (key_of table row) < i + length bx → All i bx by → Told (joined bx)
  told_all i [] [] low high all = absurd (omega arith)
  told_all i (x ∷ xs) (y ∷ ys) low high (here, all) = by_place (grind arith) (λ more. told_all (suc i) xs ys more (omega arith) all)
    where
      by_place : (i < part_of table (key_of table row)) ⊎ (i ≡ part_of table (key_of table row)) → (suc i ≤ part_of table (key_of table row) → Told (joined xs)) → Told (x ++ joined xs)
      by_place (inl before) rest = told_before x (joined xs) (absent_of table (key_of table row) i (λ same. let less : i < part_of table (key_of table row) = before in omega arith) x here.are) (rest (omega arith))
      by_place (inr same) rest = told_behind x (joined xs) (here.here same) (absent_behind (suc i) xs ys (let is : i ≡ part_of table (key_of table row) = same in omega arith) all)
  told_all i [] (y ∷ ys) low high all = absurd all
  told_all i (x ∷ xs) [] low high all = absurd all

  insert_given : (ks : List Keyed) → AreKeyed table ks → Told ks → (one_on table (Insert t row) (rows_in ks)).given ≡ Err abort
  insert_given ks keyed (inl h) =
      let found = any_rows ks keyed h.1 in
      rw found (ap (λ (a : Abort). Err a) (sym h.0))
  insert_given ks keyed (inr h) =
      let none = no_duplicate table row ks keyed h.2 in
      rw (none, h.3) (ap (λ (a : Abort). Err a) (sym h.1))

  pub insert_fails : (bx by : List (List Keyed)) → part_of table (key_of table row) < length bx → All 0 bx by → (one_on table (Insert t row) (rows_of bx)).given ≡ Err abort
  insert_fails bx by high all =
      ap (λ rows. (one_on table (Insert t row) rows).given) (rows_of-joined bx) ∙ insert_given (joined bx) (joined_keyed 0 bx by all) (told_all 0 bx by (omega arith) (omega arith) all)
