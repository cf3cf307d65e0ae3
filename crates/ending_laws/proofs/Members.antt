-- What holds of all elements, of lists and of lists joined.
use Rattle.std.proofs.Common.{ℕ, zero, suc, List, [], ◌∷◌, refl, arith}
use Rattle.std.specs.Prelude.{flat_map, Contains}
use Rattle.std.specs.List.{AllByRecursion}
use Rattle.sql_base.proofs.ListFacts.{all-weaker, all_left, all_right}

-- each element is in its list
pub all_contained : {A : Type 0} (xs : List A) → AllByRecursion (Contains xs) xs
all_contained [] = tt
all_contained (x ∷ xs) = ((zero, omega arith, refl), all-weaker (Contains xs) (Contains (x ∷ xs)) (λ y h. (suc h.0, omega (arith, h.1), h.2)) xs (all_contained xs))

-- what holds of joined lists holds of each
pub all_parts : {A B : Type 0} (P : B → Type 0) (f : A → List B) (xs : List A) → AllByRecursion P (flat_map f xs) → AllByRecursion (λ x. AllByRecursion P (f x)) xs
all_parts P f [] h = tt
all_parts P f (x ∷ xs) h = (all_left P (f x) (flat_map f xs) h, all_parts P f xs (all_right P (f x) (flat_map f xs) h))

-- what holds for each number holds so of each element
pub all_swapped : {A : Type 0} (L : ℕ → Type 0) (R : ℕ → A → Type 0) (xs : List A) → ((n : ℕ) → L n → AllByRecursion (R n) xs) → AllByRecursion (λ x. (n : ℕ) → L n → R n x) xs
all_swapped L R [] f = tt
all_swapped L R (x ∷ xs) f = ((λ n l. (f n l).0), all_swapped L R xs (λ n l. (f n l).1))
