-- What a source in memory still gives.
use Rattle.std.specs.Prelude.{ℕ, List}
use Rattle.outside.specs.Calls.{CallRecord}

-- the bytes left, and the calls so far
pub record Supply : Type 0 where
  pub left : List ℕ
  pub calls : CallRecord
