-- Entries at rising places: where two lists have the same ones, they are one list.
use Rattle.std.proofs.Common.{◌≡◌, ◌≤◌, ◌+◌, ℕ, zero, List, [], ◌∷◌, map, Bool, true, false, refl, ap, sym, inl, inr, arith}
use Rattle.std.specs.Prelude.{◌⊎◌, filter, Contains}
use Rattle.std.specs.List.{AllByRecursion, enumerate_from}
use Rattle.turn_lock.specs.Pass.{RisesFrom}
use Rattle.sql_base.proofs.ListFacts.{Contains-further, all-weaker, all_in, first_or_behind}

module _ {X : Type 0} where
  rises_from : (least : ℕ) (ps : List (ℕ × X)) → RisesFrom least ps → AllByRecursion (λ p. least ≤ p.0) ps
  rises_from least [] h = tt
  rises_from least (p ∷ ps) h = (h.0, all-weaker (λ q. p.0 + 1 ≤ q.0) (λ q. least ≤ q.0) (λ q le. omega (arith, le, h.0)) ps (rises_from (p.0 + 1) ps h.1))

  -- from a lower number
  rises_lower : (low from : ℕ) (ps : List (ℕ × X)) → low ≤ from → RisesFrom from ps → RisesFrom low ps
  rises_lower low from [] le h = tt
  rises_lower low from (p ∷ ps) le h = (omega (arith, le, h.0), h.1)

  pub rises_enumerated : (n : ℕ) (xs : List X) → RisesFrom n (enumerate_from n xs)
  rises_enumerated n [] = tt
  rises_enumerated n (x ∷ xs) = (omega arith, rises_enumerated (n + 1) xs)

  pub rises_filtered : (q : ℕ × X → Bool) (least : ℕ) (ps : List (ℕ × X)) → RisesFrom least ps → RisesFrom least (filter q ps)
  rises_filtered q least [] h = tt
  rises_filtered q least (p ∷ ps) h = by_test (q p) refl (rises_filtered q (p.0 + 1) ps h.1)
    where
      by_test : (b : Bool) → q p ≡ b → RisesFrom (p.0 + 1) (filter q ps) → RisesFrom least (filter q (p ∷ ps))
      by_test true t rest = rw t (h.0, rest)
      by_test false t rest = rw t (rises_lower least (p.0 + 1) (filter q ps) (omega (arith, h.0)) rest)

  pub same_rising : (least : ℕ) (xs ys : List (ℕ × X)) → RisesFrom least xs → RisesFrom least ys → ((p : ℕ × X) → Contains xs p → Contains ys p) → ((p : ℕ × X) → Contains ys p → Contains xs p) → xs ≡ ys
  same_rising least [] [] a b to from = refl
  same_rising least [] (y ∷ ys) a b to from = let none = from y (zero, omega arith, refl) in absurd (omega (arith, none.1))
  same_rising least (x ∷ xs) [] a b to from = let none = to x (zero, omega arith, refl) in absurd (omega (arith, none.1))
  same_rising least (x ∷ xs) (y ∷ ys) a b to from =
      of_tails (same_head (first_or_behind y x ys (to x (zero, omega arith, refl))) (first_or_behind x y xs (from y (zero, omega arith, refl)))) (λ rises t f. same_rising (x.0 + 1) xs ys a.1 rises t f)
    where
      in_xs : (p : ℕ × X) → Contains xs p → x.0 + 1 ≤ p.0
      in_xs p c = all_in (λ (q : ℕ × X). x.0 + 1 ≤ q.0) p xs c (rises_from (x.0 + 1) xs a.1)

      in_ys : (p : ℕ × X) → Contains ys p → y.0 + 1 ≤ p.0
      in_ys p c = all_in (λ (q : ℕ × X). y.0 + 1 ≤ q.0) p ys c (rises_from (y.0 + 1) ys b.1)

      same_head : (y ≡ x) ⊎ Contains ys x → (x ≡ y) ⊎ Contains xs y → x ≡ y
      same_head (inl same) other = sym same
      same_head (inr behind) (inl same) = same
      same_head (inr behind) (inr before) = let m = in_ys x behind in let n = in_xs y before in absurd (omega (arith, m, n))

      to_tail : x.0 ≡ y.0 → (p : ℕ × X) → Contains xs p → Contains ys p
      to_tail numbers p c = by_place (first_or_behind y p ys (to p (Contains-further x p xs c)))
        where
          by_place : (y ≡ p) ⊎ Contains ys p → Contains ys p
          by_place (inl first) = let n : y.0 ≡ p.0 = ap (λ (q : ℕ × X). q.0) first in let above = in_xs p c in absurd (omega (arith, n, numbers, above))
          by_place (inr behind) = behind

      from_tail : x.0 ≡ y.0 → (p : ℕ × X) → Contains ys p → Contains xs p
      from_tail numbers p c = by_place (first_or_behind x p xs (from p (Contains-further y p ys c)))
        where
          by_place : (x ≡ p) ⊎ Contains xs p → Contains xs p
          by_place (inl first) = let n : x.0 ≡ p.0 = ap (λ (q : ℕ × X). q.0) first in let above = in_ys p c in absurd (omega (arith, n, numbers, above))
          by_place (inr behind) = behind

      of_tails : x ≡ y → (RisesFrom (x.0 + 1) ys → ((p : ℕ × X) → Contains xs p → Contains ys p) → ((p : ℕ × X) → Contains ys p → Contains xs p) → xs ≡ ys) → x ∷ xs ≡ y ∷ ys
      of_tails same rest =
          let numbers : x.0 ≡ y.0 = ap (λ (p : ℕ × X). p.0) same in
          let tails = rest (rises_lower (x.0 + 1) (y.0 + 1) ys (omega (arith, numbers)) b.1) (to_tail numbers) (from_tail numbers) in
          (λ i. same i ∷ tails i)

  -- what passes a test stands in a list, at its place
  pub filtered_places : (q : X → Bool) (n : ℕ) (xs : List X) → map (λ p. p.1) (filter (λ (p : ℕ × X). q p.1) (enumerate_from n xs)) ≡ filter q xs
  filtered_places q n [] = refl
  filtered_places q n (x ∷ xs) = by_test (q x) refl (filtered_places q (n + 1) xs)
    where
      by_test : (b : Bool) → q x ≡ b → map (λ p. p.1) (filter (λ (p : ℕ × X). q p.1) (enumerate_from (n + 1) xs)) ≡ filter q xs → map (λ p. p.1) (filter (λ (p : ℕ × X). q p.1) (enumerate_from n (x ∷ xs))) ≡ filter q (x ∷ xs)
      by_test true t rest = rw t (ap (λ (ys : List X). x ∷ ys) rest)
      by_test false t rest = rw t rest
