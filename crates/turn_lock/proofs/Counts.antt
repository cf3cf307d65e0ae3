-- How often a number stands in a list.
use Rattle.std.proofs.Common.{◌≡◌, ◌≢◌, ℕ, zero, suc, ◌+◌, ◌<◌, ◌≤◌, List, [], ◌∷◌, ◌++◌, length, get_or, sym, refl, ap, ◌∙◌, cond, eqb, eq-eqb, ne_eqb, arith, Contains}
use Rattle.std.specs.List.{flat_map, range_with_len}
use Rattle.std.specs.List.Sorted.{IsPermutation}
use Rattle.std.proofs.lemmas.List.Recursion.{is_sum_by}
use Rattle.std.proofs.lemmas.List.Sorted.{sum_by-IsPermutation}
use mathlib.Core.Logic.{dite}
use mathlib.Core.Option.{some, some-injective, some-ne-none}
use native.Mathlib.Decide.{ℕ_discrete}
use lib.ListN.{get_elem?}

abbrev pub total : {A : Type 0} → (A → ℕ) → List A → ℕ
total f [] = 0
total f (x ∷ xs) = f x + total f xs

-- 1 where they are the same, else 0
abbrev pub only : ℕ → ℕ → ℕ
only x y = cond (eqb x y) 1 0

-- how often x stands among these
abbrev pub times : ℕ → List ℕ → ℕ
times x ys = total (only x) ys

pub only-same : (x : ℕ) → only x x ≡ 1
only-same x = ap (λ b. cond b 1 0) (eq-eqb x x refl)

pub only-other : (x y : ℕ) → x ≢ y → only x y ≡ 0
only-other x y n = ap (λ b. cond b 1 0) (ne_eqb x y n)

module _ {A : Type 0} (g : A → ℕ) where
  pub total-append : (l m : List A) → total g (l ++ m) ≡ total g l + total g m
  total-append [] m = omega arith
  total-append (x ∷ xs) m = omega (arith, total-append xs m)

  pub term_le : (l : List A) (j : ℕ) (v : A) → get_elem? l j ≡ some v → g v ≤ total g l
  term_le [] j v e = absurd (some-ne-none v (sym e))
  term_le (x ∷ xs) zero v e = omega (arith, ap g (some-injective x v e))
  term_le (x ∷ xs) (suc j) v e = omega (arith, term_le xs j v e)

  -- two terms at different places
  pub terms_le : (l : List A) (j k : ℕ) (v u : A) → k ≢ j → get_elem? l j ≡ some v → get_elem? l k ≡ some u → g v + g u ≤ total g l
  terms_le [] j k v u n e d = absurd (some-ne-none v (sym e))
  terms_le (x ∷ xs) zero zero v u n e d = absurd (n refl)
  terms_le (x ∷ xs) zero (suc k) v u n e d = omega (arith, ap g (some-injective x v e), term_le xs k u d)
  terms_le (x ∷ xs) (suc j) zero v u n e d = omega (arith, ap g (some-injective x u d), term_le xs j v e)
  terms_le (x ∷ xs) (suc j) (suc k) v u n e d = omega (arith, terms_le xs j k v u (λ h. n (ap suc h)) e d)

pub times-first : (x : ℕ) (xs : List ℕ) → 1 ≤ times x (x ∷ xs)
times-first x xs = omega (arith, only-same x)

pub nowhere : (xs : List ℕ) → ((x : ℕ) → times x xs ≡ 0) → xs ≡ []
nowhere [] h = refl
nowhere (x ∷ xs) h = absurd (omega (arith, h x, times-first x xs))

times-at : (x : ℕ) (xs : List ℕ) (k : ℕ) → k < length xs → get_or xs k x ≡ x → 1 ≤ times x xs
times-at x [] k below e = absurd (omega arith)
times-at x (y ∷ ys) zero below e = omega (arith, only-same x, ap (only x) e)
times-at x (y ∷ ys) (suc k) below e = omega (arith, times-at x ys k (omega arith) e)

pub times-Contains : (x : ℕ) (xs : List ℕ) → Contains xs x → 1 ≤ times x xs
times-Contains x xs h = times-at x xs h.0 h.1 h.2

pub times-flat_map : {A : Type 0} (f : A → List ℕ) (x : ℕ) (l : List A) → times x (flat_map f l) ≡ total (λ v. times x (f v)) l
times-flat_map f x [] = refl
times-flat_map f x (v ∷ l) = omega (arith, total-append (only x) (f v) (flat_map f l), times-flat_map f x l)

pub times-IsPermutation : (x : ℕ) (xs ys : List ℕ) → IsPermutation xs ys → times x xs ≡ times x ys
times-IsPermutation x xs ys h = is_sum_by (times x) (only x) refl (λ y l. refl) xs ∙ sym (sum_by-IsPermutation (only x) xs ys h) ∙ sym (is_sum_by (times x) (only x) refl (λ y l. refl) ys)

-- a number stands among n numbers from a on once if it is one of them, else never
pub times-range_below : (x a n : ℕ) → x < a → times x (range_with_len a n) ≡ 0
times-range_below x a zero h = refl
times-range_below x a (suc n) h = omega (arith, only-other x a (λ e. omega arith), times-range_below x (a + 1) n (omega arith))

pub times-range_above : (x a n : ℕ) → a + n ≤ x → times x (range_with_len a n) ≡ 0
times-range_above x a zero h = refl
times-range_above x a (suc n) h = omega (arith, only-other x a (λ e. omega arith), times-range_above x (a + 1) n (omega arith))

pub times-range_le : (x a n : ℕ) → times x (range_with_len a n) ≤ 1
times-range_le x a zero = omega arith
times-range_le x a (suc n) = dite (ℕ_discrete x a)
    (λ e. omega (arith, ap (only x) e, only-same x, times-range_below x (a + 1) n (omega arith)))
    (λ ne. omega (arith, only-other x a ne, times-range_le x (a + 1) n))
