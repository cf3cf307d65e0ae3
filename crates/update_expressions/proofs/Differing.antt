-- Columns that differ.
use Rattle.std.proofs.Common.{◌≡◌, ◌≤◌, ◌<◌, ◌++◌, ℕ, ◌+◌, zero, suc, List, [], ◌∷◌, length, drop, get_or, map, Bool, true, false, refl, ap, sym, ◌∙◌, arith, ◌⊎◌, inl, inr}
use Rattle.std.specs.Prelude.{nat_eq, not, ◌&&◌, ◌||◌}
use Rattle.std.specs.List.{AllByRecursion, IsDistinct, list_any, range_with_len}
use Rattle.std.proofs.lemmas.Bool.{and_parts, and_from, not-true, eqb-false, cases_order}
use Rattle.std.proofs.lemmas.Cmp.{nat_eq_equiv}
use Rattle.std.proofs.lemmas.List.{drop_more}
use Rattle.std.proofs.lemmas.List.Folds.{list_any-append}
use Rattle.std.proofs.lemmas.Map.Made.{length-le_from_is_member}
use Rattle.std.proofs.lemmas.List.FromFn.{length-range_with_len}
use Rattle.sql_base.specs.Tables.{all_differ}
use Rattle.sql_base.proofs.Truths.{neither_holds}

module _ {A : Type 0} (f : A → ℕ) where
  pub any-map : (test : ℕ → Bool) (xs : List A) → list_any (λ x. test (f x)) xs ≡ list_any test (map f xs)
  any-map test [] = refl
  any-map test (x ∷ xs) = ap (λ b. test (f x) || b) (any-map test xs)

  -- columns compared where they stand
  pub all_differ-map : (xs : List A) → all_differ (λ a b. nat_eq (f a) (f b)) xs ≡ all_differ nat_eq (map f xs)
  all_differ-map [] = refl
  all_differ-map (x ∷ xs) =
      ap (λ b. not b && all_differ (λ a b. nat_eq (f a) (f b)) xs) (any-map (nat_eq (f x)) xs) ∙ ap (λ b. not (list_any (nat_eq (f x)) (map f xs)) && b) (all_differ-map xs)

-- one more behind columns that differ
pub differ-push : (xs : List ℕ) (y : ℕ) → all_differ nat_eq xs ≡ true → list_any (λ x. nat_eq x y) xs ≡ false → all_differ nat_eq (xs ++ y ∷ []) ≡ true
differ-push [] y differ new = refl
differ-push (x ∷ xs) y differ new =
    let apart = and_parts (not (list_any (nat_eq x) xs)) (all_differ nat_eq xs) differ in
    let others = neither_holds (nat_eq x y) (list_any (λ z. nat_eq z y) xs) new in
    let none : list_any (nat_eq x) (xs ++ y ∷ []) ≡ false =
    list_any-append (nat_eq x) xs (y ∷ []) ∙ ap (λ b. b || (nat_eq x y || false)) (not-true (list_any (nat_eq x) xs) apart.0) ∙ ap (λ b. b || false) others.0 in
    and_from (not (list_any (nat_eq x) (xs ++ y ∷ []))) (all_differ nat_eq (xs ++ y ∷ [])) (ap not none) (differ-push xs y apart.1 others.1)

apart_from : (x : ℕ) (ys : List ℕ) → list_any (nat_eq x) ys ≡ false → AllByRecursion (λ y. nat_eq x y ≡ false) ys
apart_from x [] none = tt
apart_from x (y ∷ ys) none = let parts = neither_holds (nat_eq x y) (list_any (nat_eq x) ys) none in (parts.0, apart_from x ys parts.1)

distinct : (xs : List ℕ) → all_differ nat_eq xs ≡ true → IsDistinct nat_eq xs
unfolding IsDistinct
distinct [] differ = tt
distinct (x ∷ xs) differ =
    let parts = and_parts (not (list_any (nat_eq x) xs)) (all_differ nat_eq xs) differ in
    (apart_from x xs (not-true (list_any (nat_eq x) xs) parts.0), distinct xs parts.1)

above : (a q : ℕ) → a ≤ q → nat_eq q a ≡ false → a + 1 ≤ q
above a q low e = by (cases_order a q)
  where
    by : (a ≡ q) ⊎ ((a < q) ⊎ (q < a)) → a + 1 ≤ q
    by (inl same) = absurd (eqb-false q a e (sym same))
    by (inr (inl less)) = omega arith
    by (inr (inr more)) = absurd (omega arith)

or_later : (a b : Bool) → (a ≡ false → b ≡ true) → (a || b) ≡ true
or_later true b later = refl
or_later false b later = later refl

counted_in : (n a q : ℕ) → a ≤ q → q < a + n → list_any (nat_eq q) (range_with_len a n) ≡ true
counted_in zero a q low high = absurd (omega arith)
counted_in (suc n) a q low high = or_later (nat_eq q a) (list_any (nat_eq q) (range_with_len (a + 1) n)) (λ e. counted_in n (a + 1) q (above a q low e) (omega arith))

-- numbers below n that differ are n at most
pub few : (n : ℕ) (xs : List ℕ) → all_differ nat_eq xs ≡ true → ((x : ℕ) → list_any (nat_eq x) xs ≡ true → x < n) → length xs ≤ n
few n xs differ below =
    omega (arith, length-range_with_len 0 n, length-le_from_is_member nat_eq_equiv xs (range_with_len 0 n) (distinct xs differ) (λ q held. counted_in n 0 q (omega arith) (omega (arith, below q held))))

-- what is left from a place on differs; so does the whole
pub differ-step : {A : Type 0} (same : A → A → Bool) (xs : List A) (i : ℕ) (x : A) → i < length xs → x ≡ get_or xs i x
    → all_differ same (drop i xs) ≡ (not (list_any (same x) (drop (i + 1) xs)) && all_differ same (drop (i + 1) xs))
differ-step same xs i x within is = ap (all_differ same) (drop_more xs i x within ∙ ap (λ y. y ∷ drop (i + 1) xs) (sym is))
