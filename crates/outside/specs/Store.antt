-- What a sink in memory holds.
use Rattle.std.specs.Prelude.{ℕ, List}
use Rattle.outside.specs.Calls.{CallRecord}

-- the bytes taken, the room for more, and the calls so far
pub record Store : Type 0 where
  pub taken : List ℕ
  pub room : ℕ
  pub calls : CallRecord
