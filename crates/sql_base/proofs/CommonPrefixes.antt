-- How many bytes two strings have in common.
use Rattle.std.proofs.Common.{◌≡◌, ◌≤◌, ◌<◌, ℕ, List, [], ◌∷◌, length, drop, min, refl, ap, ◌∙◌, arith, ◌⊎◌, inl, inr}
use Rattle.std.specs.Prelude.{nat_eq}
use Rattle.std.specs.List.{common_prefix_len}
use Rattle.std.proofs.lemmas.Bool.{cases_lt}
use Rattle.std.proofs.lemmas.List.{drop_all}

none_behind : (a : List ℕ) → common_prefix_len nat_eq a [] ≡ 0
none_behind [] = refl
none_behind (x ∷ a) = refl

-- behind the end of one of them nothing
pub prefix_end : (a b : List ℕ) (n : ℕ) → min (length a) (length b) ≤ n → common_prefix_len nat_eq (drop n a) (drop n b) ≡ 0
prefix_end a b n h = by (cases_lt n (length a))
  where
    by : (n < length a) ⊎ (length a ≤ n) → common_prefix_len nat_eq (drop n a) (drop n b) ≡ 0
    by (inl less) = ap (common_prefix_len nat_eq (drop n a)) (drop_all n b (omega arith)) ∙ none_behind (drop n a)
    by (inr end) = ap (λ (xs : List ℕ). common_prefix_len nat_eq xs (drop n b)) (drop_all n a end)
