-- The last cells of a block on their way to another.
use Rattle.std.proofs.Common.{◌≡◌, ℕ, ◌+◌, List, ◌++◌}
use Rattle.std.specs.Prelude.{reverse}
use Rattle.key_sequenced.specs.declared.Cell.{Cell}

-- so many have gone
pub record IsMoving (all full behind : List Cell) (full_len behind_len counter : ℕ) : Type 0 where
  pub cells : full ++ reverse behind ≡ all
  pub left : full_len + counter ≡ 96
  pub gone : behind_len + 32 ≡ counter
