-- Sums over a list that changes at one place.
use Rattle.std.proofs.Common.{◌≡◌, ◌≢◌, ℕ, zero, suc, ◌+◌, ◌≤◌, List, [], ◌∷◌, set, sym, ap, refl, arith}
use Rattle.std.specs.List.{sum_by}
use Rattle.std.proofs.lemmas.List.Sums.{sum_by-cons}
use mathlib.Core.Option.{some, some-injective, some-ne-none}
use lib.ListN.{get_elem?}

module _ {A : Type 0} (f : A → ℕ) where
  pub sum_by-set : (xs : List A) (place : ℕ) (old new : A) → get_elem? xs place ≡ some old → sum_by f (set xs place new) + f old ≡ sum_by f xs + f new
  sum_by-set [] place old new e = absurd (some-ne-none old (sym e))
  sum_by-set (x ∷ xs) zero old new e =
      omega (arith, sum_by-cons f x xs, sum_by-cons f new xs, ap f (some-injective x old e))
  sum_by-set (x ∷ xs) (suc place) old new e =
      omega (arith, sum_by-cons f x xs, sum_by-cons f x (set xs place new), sum_by-set xs place old new e)

  -- a term is at most the sum, and so are two terms together
  pub term_le : (xs : List A) (place : ℕ) (x : A) → get_elem? xs place ≡ some x → f x ≤ sum_by f xs
  term_le [] place x e = absurd (some-ne-none x (sym e))
  term_le (y ∷ ys) zero x e = omega (arith, sum_by-cons f y ys, ap f (some-injective y x e))
  term_le (y ∷ ys) (suc place) x e = omega (arith, sum_by-cons f y ys, term_le ys place x e)

  pub terms_le : (xs : List A) (i j : ℕ) (x y : A) → i ≢ j → get_elem? xs i ≡ some x → get_elem? xs j ≡ some y → f x + f y ≤ sum_by f xs
  terms_le [] i j x y apart e d = absurd (some-ne-none x (sym e))
  terms_le (z ∷ zs) zero zero x y apart e d = absurd (apart refl)
  terms_le (z ∷ zs) zero (suc j) x y apart e d =
      omega (arith, sum_by-cons f z zs, ap f (some-injective z x e), term_le zs j y d)
  terms_le (z ∷ zs) (suc i) zero x y apart e d =
      omega (arith, sum_by-cons f z zs, ap f (some-injective z y d), term_le zs i x e)
  terms_le (z ∷ zs) (suc i) (suc j) x y apart e d =
      omega (arith, sum_by-cons f z zs, terms_le zs i j x y (λ h. apart (ap suc h)) e d)

  -- where every other term is 0, the sum is the one term
  pub sum_by-single : (xs : List A) (place : ℕ) (x : A) → get_elem? xs place ≡ some x
      → ((j : ℕ) (y : A) → j ≢ place → get_elem? xs j ≡ some y → f y ≡ 0) → sum_by f xs ≡ f x
  sum_by-single [] place x e zeros = absurd (some-ne-none x (sym e))
  sum_by-single (y ∷ ys) zero x e zeros =
      omega (arith, sum_by-cons f y ys, ap f (some-injective y x e), sum_by-none ys (λ j z d. zeros (suc j) z (λ h. omega arith) d))
    where
      sum_by-none : (zs : List A) → ((j : ℕ) (z : A) → get_elem? zs j ≡ some z → f z ≡ 0) → sum_by f zs ≡ 0
      sum_by-none [] none = refl
      sum_by-none (z ∷ zs) none = omega (arith, sum_by-cons f z zs, none 0 z refl, sum_by-none zs (λ j w d. none (suc j) w d))
  sum_by-single (y ∷ ys) (suc place) x e zeros =
      omega (arith, sum_by-cons f y ys, zeros 0 y (λ h. omega arith) refl, sum_by-single ys place x e (λ j z apart d. zeros (suc j) z (λ h. apart (omega arith)) d))
