-- Lists in which one place is changed, and facts of each place.
use Rattle.std.proofs.Common.{◌≡◌, ◌≢◌, ℕ, zero, suc, List, [], ◌∷◌, ◌++◌, map, Some, Bool, true, false, refl, ap, sym, ◌∙◌, subst}
use Rattle.std.specs.Prelude.{fold, slice_get, slice_set, ◌||◌, ◌⊎◌}
use Rattle.std.proofs.Common.{inl, inr}
use Rattle.std.proofs.lemmas.List.Folds.{list_any-append}
use Rattle.std.specs.List.{AllZip, list_any}
use Rattle.requester_fs.specs.Beginnings.{EachAt}

pub same_or : (m n : ℕ) → (m ≡ n) ⊎ (m ≢ n)
same_or zero zero = inl refl
same_or zero (suc n) = inr (λ e. absurd (cc))
same_or (suc m) zero = inr (λ e. absurd (cc))
same_or (suc m) (suc n) = elim (same_or m n) [ inl e ↦ inl (ap suc e) | inr d ↦ inr (λ e. d (cc)) ]

module _ {X : Type 0} where
  pub get_set_same : (xs : List X) (i : ℕ) (x y : X) → slice_get xs i ≡ Some x → slice_get (slice_set xs i y) i ≡ Some y
  get_set_same [] i x y is = absurd (cc)
  get_set_same (z ∷ xs) zero x y is = refl
  get_set_same (z ∷ xs) (suc i) x y is = get_set_same xs i x y is

  pub get_set_other : (xs : List X) (i j : ℕ) (y : X) → j ≢ i → slice_get (slice_set xs i y) j ≡ slice_get xs j
  get_set_other [] i j y differ = refl
  get_set_other (z ∷ xs) zero zero y differ = absurd (differ refl)
  get_set_other (z ∷ xs) zero (suc j) y differ = refl
  get_set_other (z ∷ xs) (suc i) zero y differ = refl
  get_set_other (z ∷ xs) (suc i) (suc j) y differ = get_set_other xs i j y (λ same. differ (ap suc same))

  pub each_set : (P Q : ℕ → X → Type 0) (xs : List X) (at : ℕ) (x y : X) → slice_get xs at ≡ Some x → Q at y → ((i : ℕ) (z : X) → i ≢ at → slice_get xs i ≡ Some z → P i z → Q i z) → EachAt P xs → EachAt Q (slice_set xs at y)
  each_set P Q xs at x y here own others each i z found = decide (same_or i at)
    where
      decide : (i ≡ at) ⊎ (i ≢ at) → Q i z
      decide (inl e) =
          let its : Some y ≡ Some z = sym (get_set_same xs at x y here) ∙ ap (slice_get (slice_set xs at y)) (sym e) ∙ found in
          let is : y ≡ z = cc in
          subst (λ (j : ℕ). Q j z) (sym e) (subst (Q at) is own)
      decide (inr d) = let was = sym (get_set_other xs at i y d) ∙ found in others i z d was (each i z was)

  pub each_map : (P Q : ℕ → X → Type 0) (xs : List X) → ((i : ℕ) (z : X) → slice_get xs i ≡ Some z → P i z → Q i z) → EachAt P xs → EachAt Q xs
  each_map P Q xs to each i z found = to i z found (each i z found)

module _ {X Y : Type 0} (f : X → Y) where
  pub map_set_same : (xs : List X) (i : ℕ) (x y : X) → slice_get xs i ≡ Some x → f y ≡ f x → map f (slice_set xs i y) ≡ map f xs
  map_set_same [] i x y is same = refl
  map_set_same (z ∷ xs) zero x y is same = let at : z ≡ x = cc in ap (λ w. w ∷ map f xs) (same ∙ ap f (sym at))
  map_set_same (z ∷ xs) (suc i) x y is same = ap (λ ys. f z ∷ ys) (map_set_same xs i x y is same)

  pub get_map : (xs : List X) (i : ℕ) (x : X) → slice_get xs i ≡ Some x → slice_get (map f xs) i ≡ Some (f x)
  get_map [] i x is = absurd (cc)
  get_map (z ∷ xs) zero x is = let at : z ≡ x = cc in ap (λ w. Some (f w)) at
  get_map (z ∷ xs) (suc i) x is = get_map xs i x is

  pub get_back : (xs : List X) (i : ℕ) (y : Y) → slice_get (map f xs) i ≡ Some y → (x : X) × (slice_get xs i ≡ Some x) × (f x ≡ y)
  get_back [] i y is = absurd (cc)
  get_back (z ∷ xs) zero y is = (z, refl, cc)
  get_back (z ∷ xs) (suc i) y is = get_back xs i y is

pub fold_one : {A X : Type 0} (f : A → X → A) (a : A) (xs : List X) (x : X) → fold f a (xs ++ x ∷ []) ≡ f (fold f a xs) x
fold_one f a [] x = refl
fold_one f a (y ∷ xs) x = fold_one f (f a y) xs x

pub any_one : {X : Type 0} (p : X → Bool) (xs : List X) (x : X) → list_any p (xs ++ x ∷ []) ≡ (list_any p xs || p x)
any_one p xs x = list_any-append p xs (x ∷ []) ∙ ap (λ (b : Bool). list_any p xs || b) (or_false (p x))
  where
    or_false : (b : Bool) → (b || false) ≡ b
    or_false true = refl
    or_false false = refl

pub zip_append : {X Y : Type 0} (R : X → Y → Type 0) (xs us : List X) (ys vs : List Y) → AllZip R xs ys → AllZip R us vs → AllZip R (xs ++ us) (ys ++ vs)
zip_append R [] us [] vs h k = k
zip_append R [] us (y ∷ ys) vs h k = absurd h
zip_append R (x ∷ xs) us [] vs h k = absurd h
zip_append R (x ∷ xs) us (y ∷ ys) vs h k = (h.0, zip_append R xs us ys vs h.1 k)

pub zip_map : {X Y : Type 0} (R S : X → Y → Type 0) (xs : List X) (ys : List Y) → ((x : X) (y : Y) → R x y → S x y) → AllZip R xs ys → AllZip S xs ys
zip_map R S [] [] to h = tt
zip_map R S [] (y ∷ ys) to h = absurd h
zip_map R S (x ∷ xs) [] to h = absurd h
zip_map R S (x ∷ xs) (y ∷ ys) to h = (to x y h.0, zip_map R S xs ys to h.1)
