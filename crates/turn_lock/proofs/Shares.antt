-- What the elements of a list have together, where one of them changes.
use Rattle.std.proofs.Common.{◌≡◌, ◌≢◌, ℕ, zero, suc, ◌+◌, List, [], ◌∷◌, ◌++◌, length, set, sym, refl, ap, ◌∙◌, subst, append_assoc, arith}
use Rattle.std.specs.List.{flat_map, range_with_len, enumerate_from}
use Rattle.std.specs.List.Sorted.{IsPermutation}
use Rattle.std.proofs.lemmas.List.{append-nil}
use Rattle.std.proofs.lemmas.List.Sorted.{IsPermutation-sym, IsPermutation-trans, IsPermutation-append_comm, IsPermutation-append_right}
use mathlib.Core.Option.{some, some-injective, some-ne-none}
use lib.ListN.{get_elem?}
use Rattle.atomic_table.proofs.Lists.{set_else}

range_with_len-suc : (a n : ℕ) → range_with_len a (suc n) ≡ range_with_len a n ++ (a + n) ∷ []
range_with_len-suc a zero = ap (λ (k : ℕ). k ∷ []) (omega arith)
range_with_len-suc a (suc n) = ap (λ l. a ∷ l) (range_with_len-suc (a + 1) n ∙ ap (λ (k : ℕ). range_with_len (a + 1) n ++ k ∷ []) (omega arith))

pub range_with_len-snoc : (a n : ℕ) → range_with_len a (n + 1) ≡ range_with_len a n ++ (a + n) ∷ []
range_with_len-snoc a n = let e : n + 1 ≡ suc n = omega arith in ap (range_with_len a) e ∙ range_with_len-suc a n

pub enumerate_from-snoc : {E : Type 0} (n : ℕ) (log : List E) (e : E) → enumerate_from n (log ++ e ∷ []) ≡ enumerate_from n log ++ (n + length log, e) ∷ []
enumerate_from-snoc n [] e = ap (λ (k : ℕ). (k, e) ∷ []) (omega arith)
enumerate_from-snoc n (x ∷ log) e = ap (λ l. (n, x) ∷ l) (enumerate_from-snoc (n + 1) log e ∙ ap (λ (k : ℕ). enumerate_from (n + 1) log ++ (k, e) ∷ []) (omega arith))

-- two lists that were joined in either order
pub IsPermutation-turned : {A : Type 0} (xs ys zs : List A) → IsPermutation xs zs → IsPermutation (xs ++ ys) (ys ++ zs)
IsPermutation-turned xs ys zs h = IsPermutation-trans _ _ _ (IsPermutation-append_comm xs ys) (IsPermutation-append_right ys xs zs h)

pub set-set_comm : {A : Type 0} (l : List A) (i j : ℕ) (a b : A) → j ≢ i → set (set l i a) j b ≡ set (set l j b) i a
set-set_comm [] i j a b n = refl
set-set_comm (x ∷ xs) zero zero a b n = absurd (n refl)
set-set_comm (x ∷ xs) zero (suc j) a b n = refl
set-set_comm (x ∷ xs) (suc i) zero a b n = refl
set-set_comm (x ∷ xs) (suc i) (suc j) a b n = ap (λ l. x ∷ l) (set-set_comm xs i j a b (λ e. n (ap suc e)))

module _ {X A : Type 0} (f : X → List A) where
  pub flat_map-set_same : (l : List X) (j : ℕ) (v w : X) → get_elem? l j ≡ some v → f w ≡ f v → flat_map f (set l j w) ≡ flat_map f l
  flat_map-set_same [] j v w at e = absurd (some-ne-none v (sym at))
  flat_map-set_same (x ∷ xs) zero v w at e = ap (λ l. l ++ flat_map f xs) (e ∙ ap f (sym (some-injective x v at)))
  flat_map-set_same (x ∷ xs) (suc j) v w at e = ap (λ l. f x ++ l) (flat_map-set_same xs j v w at e)

  -- one element has got more
  pub flat_map-set_more : (l : List X) (j : ℕ) (v w : X) (more : List A) → get_elem? l j ≡ some v → f w ≡ f v ++ more → IsPermutation (flat_map f (set l j w)) (flat_map f l ++ more)
  flat_map-set_more [] j v w more at e = absurd (some-ne-none v (sym at))
  flat_map-set_more (x ∷ xs) zero v w more at e =
      let is : f w ≡ f x ++ more = e ∙ ap (λ y. f y ++ more) (sym (some-injective x v at)) in
      rw (is, append_assoc, append_assoc) (IsPermutation-append_right (f x) _ _ (IsPermutation-append_comm more (flat_map f xs)))
  flat_map-set_more (x ∷ xs) (suc j) v w more at e = rw append_assoc (IsPermutation-append_right (f x) _ _ (flat_map-set_more xs j v w more at e))

  -- one element has nothing left
  pub flat_map-set_none : (l : List X) (j : ℕ) (v none-left : X) → get_elem? l j ≡ some v → f none-left ≡ [] → IsPermutation (flat_map f l) (flat_map f (set l j none-left) ++ f v)
  flat_map-set_none [] j v z at e = absurd (some-ne-none v (sym at))
  flat_map-set_none (x ∷ xs) zero v z at e =
      rw (e, sym (some-injective x v at)) (IsPermutation-append_comm (f x) (flat_map f xs))
  flat_map-set_none (x ∷ xs) (suc j) v z at e = rw append_assoc (IsPermutation-append_right (f x) _ _ (flat_map-set_none xs j v z at e))

  -- one element has taken over what another had
  pub flat_map-set_moved : (l : List X) (i j : ℕ) (v w both none-left : X) → get_elem? l i ≡ some v → j ≢ i → get_elem? l j ≡ some w → f both ≡ f v ++ f w → f none-left ≡ []
      → IsPermutation (flat_map f (set (set l i both) j none-left)) (flat_map f l)
  flat_map-set_moved l i j v w b z at n at' is empty =
      subst (λ m. IsPermutation (flat_map f m) (flat_map f l)) (sym (set-set_comm l i j b z n))
      (IsPermutation-trans _ _ _
      (flat_map-set_more (set l j z) i v b (f w) (set_else l j i z (λ e. n (sym e)) ∙ at) is)
      (IsPermutation-sym _ _ (flat_map-set_none l j w z at' empty)))

  pub flat_map-snoc_none : (l : List X) (v : X) → f v ≡ [] → flat_map f (l ++ v ∷ []) ≡ flat_map f l
  flat_map-snoc_none [] v e = ap (λ m. m ++ []) e
  flat_map-snoc_none (x ∷ xs) v e = ap (λ m. f x ++ m) (flat_map-snoc_none xs v e)

  nothing : (l : List X) → ((i : ℕ) (u : X) → get_elem? l i ≡ some u → f u ≡ []) → flat_map f l ≡ []
  nothing [] h = refl
  nothing (x ∷ xs) h = ap (λ m. m ++ flat_map f xs) (h 0 x refl) ∙ nothing xs (λ i u e. h (suc i) u e)

  -- one element has all
  pub flat_map-alone : (l : List X) (j : ℕ) (v : X) → get_elem? l j ≡ some v → ((i : ℕ) (u : X) → i ≢ j → get_elem? l i ≡ some u → f u ≡ []) → flat_map f l ≡ f v
  flat_map-alone [] j v at h = absurd (some-ne-none v (sym at))
  flat_map-alone (x ∷ xs) zero v at h = ap (λ m. f x ++ m) (nothing xs (λ i u e. h (suc i) u (λ z. omega arith) e)) ∙ append-nil (f x) ∙ ap f (some-injective x v at)
  flat_map-alone (x ∷ xs) (suc j) v at h = ap (λ m. m ++ flat_map f xs) (h 0 x (λ z. omega arith) refl) ∙ flat_map-alone xs j v at (λ i u n e. h (suc i) u (λ z. n (omega arith)) e)
