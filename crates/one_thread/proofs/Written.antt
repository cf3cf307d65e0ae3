-- A list whose elements are written one after the other.
use Rattle.std.proofs.Common.{◌≡◌, ◌<◌, ◌+◌, ℕ, zero, suc, List, [], ◌∷◌, ◌++◌, length, get_or, take, drop, map, refl, ap, ◌∙◌, arith}
use Rattle.std.specs.Prelude.{slice_set}

-- the elements below i are f of what they were
abbrev pub so_far : {A : Type 0} → (A → A) → List A → ℕ → List A
so_far f xs i = map f (take i xs) ++ drop i xs

pub not_yet : {A : Type 0} (f : A → A) (xs : List A) (i : ℕ) (d : A) → get_or (so_far f xs i) i d ≡ get_or xs i d
not_yet f [] zero d = refl
not_yet f [] (suc i) d = refl
not_yet f (x ∷ xs) zero d = refl
not_yet f (x ∷ xs) (suc i) d = not_yet f xs i d

one_more : {A : Type 0} (f : A → A) (xs : List A) (i : ℕ) (d : A) → i < length xs → slice_set (so_far f xs i) i (f (get_or xs i d)) ≡ so_far f xs (suc i)
one_more f [] i d lt = absurd (omega arith)
one_more f (x ∷ xs) zero d lt = refl
one_more f (x ∷ xs) (suc i) d lt = ap (λ ys. f x ∷ ys) (one_more f xs i d (omega arith))

pub written : {A : Type 0} (f : A → A) (xs ys : List A) (i : ℕ) (d new : A) → i < length xs → ys ≡ so_far f xs i → new ≡ f (get_or ys i d) → slice_set ys i new ≡ so_far f xs (i + 1)
written f xs ys i d new lt is to =
    let here : get_or ys i d ≡ get_or xs i d = ap (λ zs. get_or zs i d) is ∙ not_yet f xs i d in
    let next : suc i ≡ i + 1 = omega arith in
    ap (λ zs. slice_set zs i new) is ∙ ap (slice_set (so_far f xs i) i) (to ∙ ap f here) ∙ one_more f xs i d lt ∙ ap (so_far f xs) next
