-- The way down the tree of a table: behind so many bytes, the locks that can overlap a prefix end there or go on by its next byte.
use Rattle.std.proofs.Common.{◌≡◌, ℕ, zero, suc, ◌+◌, ◌≤◌, ◌<◌, List, [], ◌∷◌, ◌++◌, length, filter, Bool, true, false, cond, Some, None, ◌⊎◌, inl, inr, refl, ap, sym, ◌∙◌, eqb, arith}
use Rattle.std.specs.Prelude.{◌||◌, find, get_or, nat_eq, nat_lt, slice_get}
use Rattle.std.specs.List.{list_any, starts_with, AllByRecursion}
use Rattle.std.specs.List.Sorted.{IsNonDecreasingBy}
use Rattle.std.specs.Cmp.Lexicographic.{slice_cmp}
use Rattle.std.specs.Ordering.{is_le, is_lt, nat_cmp, ordering_then}
use Rattle.std.specs.declared.cmp.Ordering.{Ordering}
use Rattle.std.specs.declared.cmp.Ordering.TheVariants.{Less, Equal, Greater}
use Rattle.std.proofs.lemmas.Bool.{and_from, and_parts, eq-eqb, eqb-true, false≢true, or_cases, or_left, or_right}
use Rattle.std.proofs.lemmas.Cmp.{ranked}
use Rattle.sql_base.specs.Locks.{overlaps, InTableOrder}
use Rattle.sql_base.specs.declared.lock_names.Lock.{Lock}
use Rattle.sql_base.proofs.ListFacts.{all-weaker, all_of, all_of_both, all_passed, all_through}
use Rattle.sql_base.proofs.ListSearches.{find-none, none-any}
use Rattle.sql_base.proofs.Orderings.{then-same}
use Rattle.sql_base.proofs.Truths.{if_not_true}
use Rattle.lock_tables.specs.Runs.{branch, branch_of, ends_at, goes_on_by, IsNode, IsUnder}
use Rattle.lock_tables.proofs.TableOrders.{order-filter, order-rest, order-without}

-- branches rise in table order
pub then-le : (r s : Ordering) → is_lt (ordering_then r s) ≡ true → is_le r ≡ true
then-le Less s h = refl
then-le Equal s h = refl
then-le Greater s h = absurd (false≢true h)

pub le-number : (m n : ℕ) (o : Ordering) → is_le (ordering_then (nat_cmp m n) o) ≡ true → m ≤ n
le-number m n o h = at (nat_cmp m n) refl h
  where
    at : (c : Ordering) → nat_cmp m n ≡ c → is_le (ordering_then c o) ≡ true → m ≤ n
    at Less e h = let less = ranked m n Less (sym e) in omega (arith, less)
    at Equal e h = let same = ranked m n Equal (sym e) in omega (arith, same)
    at Greater e h = absurd (false≢true h)

branch-rises : (path a b : List ℕ) → starts_with nat_eq a path ≡ true → starts_with nat_eq b path ≡ true → is_le (slice_cmp nat_cmp a b) ≡ true
    → branch_of (slice_get a (length path)) ≤ branch_of (slice_get b (length path))
branch-rises [] [] b h k le = omega arith
branch-rises [] (x ∷ a) [] h k le = absurd (false≢true le)
branch-rises [] (x ∷ a) (y ∷ b) h k le = let least = le-number x y (slice_cmp nat_cmp a b) le in omega (arith, least)
branch-rises (z ∷ path) [] b h k le = absurd (false≢true h)
branch-rises (z ∷ path) (x ∷ a) [] h k le = absurd (false≢true k)
branch-rises (z ∷ path) (x ∷ a) (y ∷ b) h k le =
    let one = and_parts (eqb z x) (starts_with nat_eq a path) h in
    let two = and_parts (eqb z y) (starts_with nat_eq b path) k in
    let same : x ≡ y = sym (eqb-true z x one.0) ∙ eqb-true z y two.0 in
    branch-rises path a b one.1 two.1 (ap is_le (sym (then-same x y (slice_cmp nat_cmp a b) same)) ∙ le)

first-least : (path : List ℕ) (l : Lock) (run : List Lock) → IsNode path (l ∷ run) → (j : ℕ) (d : Lock) → j < length run → branch (length path) l ≤ branch (length path) (get_or run j d)
first-least path l [] h j d lt = absurd (omega arith)
first-least path l (m ∷ run) h zero d lt = branch-rises path l.prefix m.prefix h.0.0 h.0.1.0 (then-le (slice_cmp nat_cmp l.prefix m.prefix) _ h.1.0)
first-least path l (m ∷ run) h (suc j) d lt = first-least path l run ((h.0.0, h.0.1.1), order-without l m run h.1) j d (omega arith)

pub rises : (path : List ℕ) (run : List Lock) → IsNode path run → IsNonDecreasingBy (branch (length path)) run
rises path [] h i j d le lt = absurd (omega arith)
rises path (l ∷ run) h zero zero d le lt = omega arith
rises path (l ∷ run) h zero (suc j) d le lt = first-least path l run h j d (omega arith)
rises path (l ∷ run) h (suc i) zero d le lt = absurd (omega arith)
rises path (l ∷ run) h (suc i) (suc j) d le lt = rises path run (h.0.1, order-rest l run h.1) i j d (omega arith) (omega arith)

-- all locks are under no bytes, and those that go on by a byte are under it
pub at-root : (locks : List Lock) → InTableOrder locks → IsNode [] locks
at-root locks order = (all_of (IsUnder []) (λ l. refl) locks, order)

under-next : (path a : List ℕ) (byte : ℕ) → starts_with nat_eq a path ≡ true → nat_eq (branch_of (slice_get a (length path))) (byte + 1) ≡ true → starts_with nat_eq a (path ++ byte ∷ []) ≡ true
under-next [] [] byte h k = let same = eqb-true 0 (byte + 1) k in absurd (omega (arith, same))
under-next [] (x ∷ a) byte h k = let same = eqb-true (x + 1) (byte + 1) k in and_from (eqb byte x) true (eq-eqb byte x (omega (arith, same))) refl
under-next (z ∷ path) [] byte h k = absurd (false≢true h)
under-next (z ∷ path) (x ∷ a) byte h k =
    let one = and_parts (eqb z x) (starts_with nat_eq a path) h in
    and_from (eqb z x) (starts_with nat_eq a (path ++ byte ∷ [])) one.0 (under-next path a byte one.1 k)

pub at-next : (path : List ℕ) (byte : ℕ) (run : List Lock) → IsNode path run → IsNode (path ++ byte ∷ []) (filter (goes_on_by (length path) byte) run)
at-next path byte run h =
    let q = goes_on_by (length path) byte in
    (all_through q (IsUnder (path ++ byte ∷ [])) run (all-weaker (IsUnder path) (λ l. q l ≡ true → IsUnder (path ++ byte ∷ []) l) (λ l under on. under-next path l.prefix byte under on) run h.0), order-filter q run h.1)

-- granules that overlap go on by the same byte, unless one ends
both-overlap : (y x : ℕ) (b a : List ℕ) → overlaps (y ∷ b) (x ∷ a) ≡ true → (y ≡ x) × (overlaps b a ≡ true)
both-overlap y x b a h = at (or_cases (starts_with nat_eq (y ∷ b) (x ∷ a)) (starts_with nat_eq (x ∷ a) (y ∷ b)) h)
  where
    at : (starts_with nat_eq (y ∷ b) (x ∷ a) ≡ true) ⊎ (starts_with nat_eq (x ∷ a) (y ∷ b) ≡ true) → (y ≡ x) × (overlaps b a ≡ true)
    at (inl e) = let one = and_parts (eqb x y) (starts_with nat_eq b a) e in (sym (eqb-true x y one.0), or_left (starts_with nat_eq b a) (starts_with nat_eq a b) one.1)
    at (inr e) = let one = and_parts (eqb y x) (starts_with nat_eq a b) e in (eqb-true y x one.0, or_right (starts_with nat_eq b a) (starts_with nat_eq a b) one.1)

ends-or-goes : (path prefix a : List ℕ) (byte : ℕ) → starts_with nat_eq prefix path ≡ true → starts_with nat_eq a path ≡ true → slice_get prefix (length path) ≡ Some byte → overlaps prefix a ≡ true
    → (nat_lt (branch_of (slice_get a (length path))) 1 ≡ true) ⊎ (nat_eq (branch_of (slice_get a (length path))) (byte + 1) ≡ true)
ends-or-goes [] [] a byte p h at over = absurd (cc)
ends-or-goes [] (y ∷ prefix) [] byte p h at over = inl refl
ends-or-goes [] (y ∷ prefix) (x ∷ a) byte p h at over =
    let first : y ≡ byte = cc in
    let same = both-overlap y x prefix a over in
    inr (eq-eqb (x + 1) (byte + 1) (ap (λ n. n + 1) (sym same.0 ∙ first)))
ends-or-goes (z ∷ path) [] a byte p h at over = absurd (false≢true p)
ends-or-goes (z ∷ path) (y ∷ prefix) [] byte p h at over = absurd (false≢true h)
ends-or-goes (z ∷ path) (y ∷ prefix) (x ∷ a) byte p h at over =
    ends-or-goes path prefix a byte (and_parts (eqb z y) (starts_with nat_eq prefix path) p).1 (and_parts (eqb z x) (starts_with nat_eq a path) h).1 at (both-overlap y x prefix a over).1

-- a search that filtering out what doesn't pass leaves as it is
pub find-kept : {X : Type 0} (p q : X → Bool) (xs : List X) → AllByRecursion (λ x. q x ≡ false → p x ≡ false) xs → find p (filter q xs) ≡ find p xs
find-kept p q [] h = refl
find-kept p q (x ∷ xs) h = at (q x) refl (find-kept p q xs h.1)
  where
    at : (b : Bool) → q x ≡ b → find p (filter q xs) ≡ find p xs → find p (filter q (x ∷ xs)) ≡ find p (x ∷ xs)
    at true e rest = rw e (ap (λ o. cond (p x) (Some x) o) rest)
    at false e rest = rw (e, h.0 e) rest

pub any-kept : {X : Type 0} (p q : X → Bool) (xs : List X) → AllByRecursion (λ x. q x ≡ false → p x ≡ false) xs → list_any p (filter q xs) ≡ list_any p xs
any-kept p q [] h = refl
any-kept p q (x ∷ xs) h = at (q x) refl (any-kept p q xs h.1)
  where
    at : (b : Bool) → q x ≡ b → list_any p (filter q xs) ≡ list_any p xs → list_any p (filter q (x ∷ xs)) ≡ list_any p (x ∷ xs)
    at true e rest = rw e (ap (λ t. p x || t) rest)
    at false e rest = rw (e, h.0 e) rest

-- what only locks that overlap a prefix can pass is passed by none but those that end here or go on by its next byte
module _ (p : Lock → Bool) (prefix : List ℕ) (meets : (l : Lock) → p l ≡ true → overlaps prefix l.prefix ≡ true) (path : List ℕ) (byte : ℕ) (run : List Lock)
    (on : starts_with nat_eq prefix path ≡ true) (next : slice_get prefix (length path) ≡ Some byte) (node : IsNode path run) where
  abbrev ended : List Lock
  ended = filter (ends_at (length path)) run

  abbrev going : List Lock
  going = filter (goes_on_by (length path) byte) run

  one-passes : (l : Lock) → IsUnder path l → (ends_at (length path) l ≡ true → p l ≡ false) → goes_on_by (length path) byte l ≡ false → p l ≡ false
  one-passes l under ends elsewhere = if_not_true (p l) (λ e. at e (ends-or-goes path prefix l.prefix byte on under next (meets l e)))
    where
      at : p l ≡ true → (ends_at (length path) l ≡ true) ⊎ (goes_on_by (length path) byte l ≡ true) → ⊥
      at e (inl here) = false≢true (sym (ends here) ∙ e)
      at e (inr there) = false≢true (sym elsewhere ∙ there)

  none-elsewhere : AllByRecursion (λ l. p l ≡ false) ended → AllByRecursion (λ l. goes_on_by (length path) byte l ≡ false → p l ≡ false) run
  none-elsewhere h =
      all_of_both (IsUnder path) (λ l. ends_at (length path) l ≡ true → p l ≡ false) (λ l. goes_on_by (length path) byte l ≡ false → p l ≡ false) one-passes run node.0
      (all_passed (ends_at (length path)) (λ l. p l ≡ false) run h)

  pub find-going : find p ended ≡ None → find p going ≡ find p run
  find-going h = find-kept p (goes_on_by (length path) byte) run (none-elsewhere (find-none p ended h))

  pub any-going : list_any p ended ≡ false → list_any p going ≡ list_any p run
  any-going h = any-kept p (goes_on_by (length path) byte) run (none-elsewhere (none-any p ended h))

-- what only locks that a prefix begins with can pass is passed by none below it
ends-whole : (path a : List ℕ) → starts_with nat_eq a path ≡ true → starts_with nat_eq path a ≡ true → nat_lt (branch_of (slice_get a (length path))) 1 ≡ true
ends-whole [] [] h k = refl
ends-whole [] (x ∷ a) h k = absurd (false≢true k)
ends-whole (z ∷ path) [] h k = absurd (false≢true h)
ends-whole (z ∷ path) (x ∷ a) h k = ends-whole path a (and_parts (eqb z x) (starts_with nat_eq a path) h).1 (and_parts (eqb x z) (starts_with nat_eq path a) k).1

pub any-ended : (p : Lock → Bool) (path : List ℕ) (run : List Lock) → ((l : Lock) → p l ≡ true → starts_with nat_eq path l.prefix ≡ true) → IsNode path run
    → list_any p (filter (ends_at (length path)) run) ≡ list_any p run
any-ended p path run meets node =
    any-kept p (ends_at (length path)) run
    (all-weaker (IsUnder path) (λ l. ends_at (length path) l ≡ false → p l ≡ false)
    (λ l under further. if_not_true (p l) (λ e. false≢true (sym further ∙ ends-whole path l.prefix under (meets l e)))) run node.0)
