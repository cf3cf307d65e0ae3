-- What wires are known to tell.
use Rattle.std.specs.Prelude.{◌≡◌, ℕ, List, slice_get, slice_set, Some}
use Rattle.outside.specs.Wire.{Answers}
use Rattle.outside.specs.declared.wire.Passage.{Passage}
use Rattle.driver_laws.specs.Carrying.{Telling}

-- one wire has told an answer, and all others stay as they are
pub record HasTold (at : ℕ) (answer : Passage) (old new : List Telling) : Type 0 where
  pub wire : Telling
  pub others : List Passage
  pub is : slice_get old at ≡ Some wire
  pub answers : Answers wire.first wire.round answer others
  pub left : new ≡ slice_set old at (record { first = others; round = wire.round })
