-- Numbers counted from 0, one more.
use Rattle.std.proofs.Common.{◌≡◌, ℕ, ◌+◌, [], ◌∷◌, ◌++◌, ap, ◌∙◌, arith}
use Rattle.std.specs.List.{range_with_len}
use Rattle.sql_base.proofs.ListFacts.{range-push}

pub counted_more : (n : ℕ) → range_with_len 0 (n + 1) ≡ range_with_len 0 n ++ n ∷ []
counted_more n = let last : 0 + n ≡ n = omega arith in range-push 0 n ∙ ap (λ k. range_with_len 0 n ++ k ∷ []) last
