-- Lists by their places.
use Rattle.std.proofs.Common.{◌≡◌, ℕ, zero, suc, List, [], ◌∷◌, ◌++◌, length, drop, None, refl, subst}
use Rattle.std.specs.Prelude.{slice_get, IfSome}
use Rattle.std.specs.List.{AllByRecursion}
use Rattle.std.proofs.lemmas.Option.{same_Some}
use Rattle.requester_fs.specs.Beginnings.{EachAt}

pub drop_none : {A : Type 0} (xs : List A) (n : ℕ) → slice_get xs n ≡ None → drop n xs ≡ []
drop_none [] zero is = refl
drop_none [] (suc n) is = refl
drop_none (y ∷ ys) zero is = absurd (cc is)
drop_none (y ∷ ys) (suc n) is = drop_none ys n is

-- what holds of each holds of the one at a place
pub all_at : {A : Type 0} (P : A → Type 0) (xs : List A) (n : ℕ) → AllByRecursion P xs → IfSome (slice_get xs n) P
all_at P [] zero all = tt
all_at P [] (suc n) all = tt
all_at P (y ∷ ys) zero all = all.0
all_at P (y ∷ ys) (suc n) all = all_at P ys n all.1

-- one more at the end
pub each_more : {A : Type 0} (P : ℕ → A → Type 0) (xs : List A) (x : A) → EachAt P xs → P (length xs) x → EachAt P (xs ++ x ∷ [])
each_more P [] x each last zero y at = subst (P 0) (same_Some x y at) last
each_more P [] x each last (suc at) y there = absurd (cc there)
each_more P (z ∷ xs) x each last zero y at = each zero y at
each_more P (z ∷ xs) x each last (suc at) y there = each_more (λ n a. P (suc n) a) xs x (λ n a h. each (suc n) a h) last at y there
