-- Each action of a run leaves less to do.
use Rattle.std.proofs.Common.{◌≡◌, ◌+◌, ℕ, zero, suc, List, [], ◌∷◌, true, false, Some, ap, arith}
use Rattle.std.specs.Prelude.{slice_get, slice_set, sum_by}
use Rattle.std.proofs.lemmas.List.Sums.{sum_by-cons}
use Rattle.ending_laws.specs.Measures.{AnswersFall, RunsFall, SendingsFall}

pub sendings_fall : SendingsFall
sendings_fall answers losses few = (omega (arith, few), omega (arith, few), λ fewer less. omega (arith, few, less))

pub answers_fall : AnswersFall
answers_fall answers losses true fewer less = omega (arith, less)
answers_fall answers losses false fewer less = omega (arith, less)

-- one element of a sum changes
sum-set : {A : Type 0} (f : A → ℕ) (xs : List A) (at : ℕ) (x new : A) → slice_get xs at ≡ Some x → sum_by f (slice_set xs at new) + f x ≡ sum_by f xs + f new
sum-set f [] at x new here = absurd (cc here)
sum-set f (y ∷ xs) zero x new here =
    let same : f y ≡ f x = ap f (cc here) in
    omega (arith, same, sum_by-cons f y xs, sum_by-cons f new xs)
sum-set f (y ∷ xs) (suc at) x new here = omega (arith, sum-set f xs at x new here, sum_by-cons f y xs, sum_by-cons f y (slice_set xs at new))

pub runs_fall : (S D : Type 0) → RunsFall S D
runs_fall S D session mail sessions partitions at s after here = (
  λ less. omega (arith, less, sum-set session sessions at s after here),
  λ part d now there less. omega (arith, less, sum-set session sessions at s after here, sum-set mail partitions part d now there),
)
