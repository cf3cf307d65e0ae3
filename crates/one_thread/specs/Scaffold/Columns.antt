-- The values of a row, one after the other.
use Rattle.std.specs.Prelude.{ℕ, List, ◌∷◌, flat_map}
use Rattle.sql_base.specs.declared.values.Value.{Value}
use Rattle.one_thread.specs.Text.{value_text}

-- each behind a blank
abbrev pub spaced_values : List Value → List ℕ
spaced_values values = flat_map (λ (value : Value). 0x20 ∷ value_text value) values
