-- What contracts see of a held value.
use Rattle.turn_lock.specs.Pass.{PassState}

-- a value, and the pass that took it, as it was then
pub record HeldState (V E R : Type 0) : Type 0 where
  pub value : V
  pub taker : PassState E R
