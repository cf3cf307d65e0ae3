-- Lists in which one place is changed.
use Rattle.std.proofs.Common.{◌≡◌, ◌<◌, ℕ, zero, suc, List, [], ◌∷◌, length, Some, refl, ap, subst, inl, inr, arith}
use Rattle.std.specs.Prelude.{◌⊎◌, slice_get, slice_set}
use Rattle.std.specs.List.{AllZip}

module _ {X : Type 0} where
  -- what stands in the changed list is new, or stood there before
  pub set_cases : (xs : List X) (i j : ℕ) (y z : X) → slice_get (slice_set xs i y) j ≡ Some z → ((j ≡ i) × (z ≡ y)) ⊎ (slice_get xs j ≡ Some z)
  set_cases [] i j y z is = absurd (cc)
  set_cases (x ∷ xs) zero zero y z is = inl (refl, cc)
  set_cases (x ∷ xs) zero (suc j) y z is = inr is
  set_cases (x ∷ xs) (suc i) zero y z is = inr is
  set_cases (x ∷ xs) (suc i) (suc j) y z is = elim (set_cases xs i j y z is) [ inl h ↦ inl (ap suc h.0, h.1) | inr g ↦ inr g ]

  -- what stood in the list is the one that was changed, or still stands there
  pub kept_cases : (xs : List X) (i j : ℕ) (x y w : X) → slice_get xs i ≡ Some x → slice_get xs j ≡ Some w → ((w ≡ x) × (slice_get (slice_set xs i y) j ≡ Some y)) ⊎ (slice_get (slice_set xs i y) j ≡ Some w)
  kept_cases [] i j x y w at_i at_j = absurd (cc)
  kept_cases (z ∷ xs) zero zero x y w at_i at_j = inl (cc, refl)
  kept_cases (z ∷ xs) zero (suc j) x y w at_i at_j = inr at_j
  kept_cases (z ∷ xs) (suc i) zero x y w at_i at_j = inr at_j
  kept_cases (z ∷ xs) (suc i) (suc j) x y w at_i at_j = kept_cases xs i j x y w at_i at_j

  -- the place that is changed
  pub set_get : (xs : List X) (i : ℕ) (y : X) → i < length xs → slice_get (slice_set xs i y) i ≡ Some y
  set_get [] i y within = absurd (omega (arith, within))
  set_get (x ∷ xs) zero y within = refl
  set_get (x ∷ xs) (suc i) y within = set_get xs i y (omega (arith, within))

module _ {X Y : Type 0} (R : X → Y → Type 0) where
  -- of two lists side by side, one place is changed
  pub zip_set : (xs : List X) (ys : List Y) (i : ℕ) (y z : Y) → slice_get ys i ≡ Some y → ((x : X) → R x y → R x z) → AllZip R xs ys → AllZip R xs (slice_set ys i z)
  zip_set [] [] i y z at to h = absurd (cc)
  zip_set [] (v ∷ ys) i y z at to h = absurd h
  zip_set (x ∷ xs) [] i y z at to h = absurd h
  zip_set (x ∷ xs) (v ∷ ys) zero y z at to h = let same : v ≡ y = cc in (to x (subst (R x) same h.0), h.1)
  zip_set (x ∷ xs) (v ∷ ys) (suc i) y z at to h = (h.0, zip_set xs ys i y z at to h.1)

  -- what stands side by side
  pub zip_at : (xs : List X) (ys : List Y) (i : ℕ) (x : X) (y : Y) → AllZip R xs ys → slice_get xs i ≡ Some x → slice_get ys i ≡ Some y → R x y
  zip_at [] ys i x y h at there = absurd (cc)
  zip_at (v ∷ xs) [] i x y h at there = absurd h
  zip_at (v ∷ xs) (w ∷ ys) zero x y h at there =
      let left : v ≡ x = cc in
      let right : w ≡ y = cc in
      subst (λ z. R x z) right (subst (λ z. R z w) left h.0)
  zip_at (v ∷ xs) (w ∷ ys) (suc i) x y h at there = zip_at xs ys i x y h.1 at there
