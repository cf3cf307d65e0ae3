-- Cells before a place and from it on, and the rows that stand in them.
use Rattle.std.proofs.Common.{◌≡◌, ℕ, zero, suc, ◌<◌, ◌≤◌, List, [], ◌∷◌, ◌++◌, length, take, drop, get_or, Bool, true, false, ◌||◌, Option, Some, None, refl, ap, sym, subst, arith}
use Rattle.std.specs.Prelude.{slice_set, IfSome}
use Rattle.std.specs.List.{AllByRecursion, cons_option, filter_map, insert, list_any}
use Rattle.std.specs.Ordering.{is_eq, is_lt}
use Rattle.std.specs.declared.cmp.Ordering.{Ordering}
use Rattle.std.specs.declared.cmp.Ordering.TheVariants.{Less, Equal, Greater}
use Rattle.std.proofs.lemmas.Bool.{false≢true}
use Rattle.sql_base.specs.Keys.{key_eq, key_lt, Rise}
use Rattle.sql_base.specs.Rows.{key_of}
use Rattle.sql_base.specs.declared.tables.TableDef.{TableDef}
use Rattle.sql_base.specs.declared.values.Value.{Value}
use Rattle.sql_base.proofs.KeyOrders.{key_eq-refl, lt-trans}
use Rattle.one_thread.specs.One.{row_placed}
use Rattle.one_thread.specs.Scaffold.Cells.{IsKeyed}
use Rattle.one_thread.specs.declared.cells.Cell.{Cell}
use Rattle.one_thread.proofs.Rising.{keys, rise-rest}
use Rattle.sql_base.proofs.Orderings.{key_gt-differs, key_lt-back, key_lt-differs}

-- ---- facts of all elements

pub all_take : {X : Type 0} (P : X → Type 0) (xs : List X) (i : ℕ) → i ≤ length xs → ((k : ℕ) (d : X) → k < i → P (get_or xs k d)) → AllByRecursion P (take i xs)
all_take P [] zero le h = tt
all_take P [] (suc i) le h = absurd (omega arith)
all_take P (x ∷ xs) zero le h = tt
all_take P (x ∷ xs) (suc i) le h = (h 0 x (omega arith), all_take P xs i (omega arith) (λ k d lt. h (suc k) d (omega arith)))

pub all_of : {X : Type 0} (P : X → Type 0) (xs : List X) → ((k : ℕ) (d : X) → k < length xs → P (get_or xs k d)) → AllByRecursion P xs
all_of P [] h = tt
all_of P (x ∷ xs) h = (h 0 x (omega arith), all_of P xs (λ k d lt. h (suc k) d (omega arith)))

pub all_drop : {X : Type 0} (P : X → Type 0) (xs : List X) (i : ℕ) → ((k : ℕ) (d : X) → i ≤ k → k < length xs → P (get_or xs k d)) → AllByRecursion P (drop i xs)
all_drop P [] zero h = tt
all_drop P [] (suc i) h = tt
all_drop P (x ∷ xs) zero h = all_of P (x ∷ xs) (λ k d lt. h k d (omega arith) lt)
all_drop P (x ∷ xs) (suc i) h = all_drop P xs i (λ k d le lt. h (suc k) d (omega arith) (omega arith))

-- ---- a list at a place

pub parts_at : {X : Type 0} (xs : List X) (i : ℕ) (d : X) → i < length xs → take i xs ++ get_or xs i d ∷ drop (suc i) xs ≡ xs
parts_at [] i d lt = absurd (omega arith)
parts_at (x ∷ xs) zero d lt = refl
parts_at (x ∷ xs) (suc i) d lt = ap (λ ys. x ∷ ys) (parts_at xs i d (omega arith))

pub set_at : {X : Type 0} (xs : List X) (i : ℕ) (y : X) → i < length xs → slice_set xs i y ≡ take i xs ++ y ∷ drop (suc i) xs
set_at [] i y lt = absurd (omega arith)
set_at (x ∷ xs) zero y lt = refl
set_at (x ∷ xs) (suc i) y lt = ap (λ ys. x ∷ ys) (set_at xs i y (omega arith))

pub insert_at : {X : Type 0} (xs : List X) (i : ℕ) (y : X) → insert xs i y ≡ take i xs ++ y ∷ drop i xs
insert_at xs i y = refl

-- ---- keys below and key_lt-other one

neither : (o : Ordering) → is_lt o ≡ false → is_eq o ≡ false → o ≡ Greater
neither Less h k = absurd (false≢true (sym h))
neither Equal h k = absurd (false≢true (sym k))
neither Greater h k = refl

abbrev pub AllBelow : List ℕ → List Cell → Type 0
AllBelow key cells = AllByRecursion (λ c. key_lt c.key key ≡ true) cells

abbrev pub AllAbove : List ℕ → List Cell → Type 0
AllAbove key cells = AllByRecursion (λ c. key_lt key c.key ≡ true) cells

pub rise_drop : (cells : List Cell) (i : ℕ) → Rise (keys cells) → Rise (keys (drop i cells))
rise_drop [] zero h = h
rise_drop [] (suc i) h = tt
rise_drop (c ∷ cells) zero h = h
rise_drop (c ∷ cells) (suc i) h = rise_drop cells i (rise-rest c cells h)

-- the cells behind one that isn't below the key stand key_lt-other it
pub all_above : (key : List ℕ) (c : Cell) (cells : List Cell) → ((a : List ℕ) → key_lt c.key a ≡ true → key_lt key a ≡ true) → Rise (keys (c ∷ cells)) → AllAbove key cells
all_above key c [] under h = tt
all_above key c (x ∷ cells) under h = (under x.key h.0, all_above key x cells (λ a lt. lt-trans key x.key a (under x.key h.0) lt) h.1)

-- the keys rise with one more at its place
pub rise_between : (key : List ℕ) (x : Cell) (A B : List Cell) → x.key ≡ key → Rise (keys (A ++ B)) → AllBelow key A → AllAbove key B → Rise (keys (A ++ x ∷ B))
rise_between key x [] [] e h below over = tt
rise_between key x [] (b ∷ B) e h below over = (subst (λ k. key_lt k b.key ≡ true) (sym e) over.0, h)
rise_between key x (a ∷ []) [] e h below over = (subst (λ k. key_lt a.key k ≡ true) (sym e) below.0, tt)
rise_between key x (a ∷ []) (b ∷ B) e h below over = (subst (λ k. key_lt a.key k ≡ true) (sym e) below.0, (subst (λ k. key_lt k b.key ≡ true) (sym e) over.0, h.1))
rise_between key x (a ∷ b ∷ A) B e h below over = (h.0, rise_between key x (b ∷ A) B e h.1 below.1 over)

-- ---- rows below and key_lt-other a key

module _ (table : TableDef) (key : List ℕ) (row_of : Cell → Option (List Value)) where
  abbrev IsThere : Cell → Type 0
  IsThere c = IfSome (row_of c) (IsKeyed table c.key)

  row_by : (Q : List ℕ → Type 0) (k : List ℕ) (o : Option (List Value)) (rows : List (List Value)) → IfSome o (IsKeyed table k) → Q k → AllByRecursion (λ r. Q (key_of table r)) rows → AllByRecursion (λ r. Q (key_of table r)) (cons_option o rows)
  row_by Q k (Some row) rows is q rest = (subst Q (sym is.0) q, rest)
  row_by Q k None rows is q rest = rest

  -- what holds of the keys of cells holds of the keys of their rows
  pub rows_have : (Q : List ℕ → Type 0) (cells : List Cell) → AllByRecursion IsThere cells → AllByRecursion (λ c. Q c.key) cells → AllByRecursion (λ r. Q (key_of table r)) (filter_map row_of cells)
  rows_have Q [] are h = tt
  rows_have Q (c ∷ cells) are h = row_by Q c.key (row_of c) (filter_map row_of cells) are.0 h.0 (rows_have Q cells are.1 h.1)

  pub placed_between : (row : List Value) (xs ys : List (List Value)) → key_of table row ≡ key → AllByRecursion (λ r. key_lt (key_of table r) key ≡ true) xs → AllByRecursion (λ r. key_lt key (key_of table r) ≡ true) ys
      → row_placed table row (xs ++ ys) ≡ xs ++ row ∷ ys
  placed_between row [] [] e below over = refl
  placed_between row [] (y ∷ ys) e below over = rw (e, over.0) refl
  placed_between row (x ∷ xs) ys e below over = rw (e, key_lt-back (key_of table x) key below.0) (ap (λ rows. x ∷ rows) (placed_between row xs ys e below.1 over))

  pub none_equal : (xs ys : List (List Value)) → AllByRecursion (λ r. key_lt (key_of table r) key ≡ true) xs → AllByRecursion (λ r. key_lt key (key_of table r) ≡ true) ys → list_any (λ r. key_eq (key_of table r) key) (xs ++ ys) ≡ false
  none_equal [] [] below over = refl
  none_equal [] (y ∷ ys) below over = rw (key_gt-differs (key_of table y) key over.0) (none_equal [] ys below over.1)
  none_equal (x ∷ xs) ys below over = rw (key_lt-differs (key_of table x) key below.0) (none_equal xs ys below.1 over)

  pub one_equal : (xs ys : List (List Value)) (row : List Value) → key_of table row ≡ key → list_any (λ r. key_eq (key_of table r) key) (xs ++ row ∷ ys) ≡ true
  one_equal [] ys row e = rw (e, key_eq-refl key) refl
  one_equal (x ∷ xs) ys row e = by (key_eq (key_of table x) key) (one_equal xs ys row e)
    where
      by : (b : Bool) → list_any (λ r. key_eq (key_of table r) key) (xs ++ row ∷ ys) ≡ true → (b || list_any (λ r. key_eq (key_of table r) key) (xs ++ row ∷ ys)) ≡ true
      by true h = refl
      by false h = h
