-- A run of locks, split where a test turns.
use Rattle.std.proofs.Common.{◌≡◌, ℕ, zero, suc, ◌+◌, ◌≤◌, List, [], ◌∷◌, length, take, drop, filter, not, Bool, true, false, refl, ap, sym, arith}
use Rattle.std.specs.Prelude.{◌&&◌, nat_eq, nat_lt}
use Rattle.std.specs.List.{prefix_len, AllByRecursion}
use Rattle.std.specs.List.Sorted.{IsPartitionPoint}
use Rattle.std.proofs.lemmas.Bool.Decides.{nat_tests}
use Rattle.std.proofs.lemmas.List.Sums.{prefix_len_is}
use Rattle.std.proofs.lemmas.List.Elements.{recursion_from_All}
use Rattle.sql_base.specs.declared.lock_names.Lock.{Lock}
use Rattle.sql_base.proofs.ListFacts.{all-weaker, filter-none, filter-twice, filter-whole}
use Rattle.lock_tables.specs.Runs.{branch, goes_on_by}

module _ {X : Type 0} (p : X → Bool) where
  abbrev IsPoint : List X → ℕ → Type 0
  IsPoint xs i = IsPartitionPoint (λ x. p x ≡ true) (λ x. p x ≡ false) xs i

  point-rest : (x : X) (xs : List X) (i : ℕ) → IsPoint (x ∷ xs) (suc i) → IsPoint xs i
  point-rest x xs i h = (λ k d from lt. h.0 (suc k) d (omega arith) (omega arith), λ k d from lt. h.1 (suc k) d (omega arith) (omega arith))

  none-pass : (xs : List X) → IsPoint xs zero → AllByRecursion (λ x. p x ≡ false) xs
  none-pass xs h = recursion_from_All (λ x. p x ≡ false) xs (λ k d lt. h.1 k d (omega arith) lt)

  -- those before the point are those that pass
  pub front-kept : (xs : List X) (i : ℕ) → i ≤ length xs → IsPoint xs i → take i xs ≡ filter p xs
  front-kept [] zero le h = refl
  front-kept [] (suc i) le h = refl
  front-kept (x ∷ xs) zero le h = sym (filter-none p (x ∷ xs) (none-pass (x ∷ xs) h))
  front-kept (x ∷ xs) (suc i) le h = rw (h.0 zero x (omega arith) (omega arith)) (ap (λ ys. x ∷ ys) (front-kept xs i (omega arith) (point-rest x xs i h)))

  -- and those behind it are the others
  pub back-kept : (xs : List X) (i : ℕ) → i ≤ length xs → IsPoint xs i → drop i xs ≡ filter (λ x. not (p x)) xs
  back-kept [] zero le h = refl
  back-kept [] (suc i) le h = refl
  back-kept (x ∷ xs) zero le h = sym (filter-whole (λ y. not (p y)) (x ∷ xs) (all-weaker (λ y. p y ≡ false) (λ y. not (p y) ≡ true) (λ y e. ap not e) (x ∷ xs) (none-pass (x ∷ xs) h)))
  back-kept (x ∷ xs) (suc i) le h = rw (h.0 zero x (omega arith) (omega arith)) (back-kept xs i (omega arith) (point-rest x xs i h))

  -- they are as many as pass from the first on
  pub point-is : (xs : List X) (i : ℕ) (d : X) → i ≤ length xs → IsPoint xs i → i ≡ prefix_len p xs
  point-is xs i d le h = sym (prefix_len_is p xs i d le (λ k lt. h.0 k d (omega arith) lt) (λ lt. h.1 i d (omega arith) lt))

-- not before a branch and before the next one is on it
on_branch : (n bound : ℕ) → (not (nat_lt n bound) && nat_lt n (bound + 1)) ≡ nat_eq n bound
on_branch n bound = grind (arith, nat_tests)

pub next-kept : (depth byte : ℕ) (run : List Lock) → filter (λ l. nat_lt (branch depth l) (byte + 1 + 1)) (filter (λ l. not (nat_lt (branch depth l) (byte + 1))) run) ≡ filter (goes_on_by depth byte) run
next-kept depth byte run =
    filter-twice (λ l. not (nat_lt (branch depth l) (byte + 1))) (λ l. nat_lt (branch depth l) (byte + 1 + 1)) (goes_on_by depth byte) (λ l. on_branch (branch depth l) (byte + 1)) run
