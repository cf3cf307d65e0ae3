-- Worked rows of the partition map.
use Rattle.std.proofs.Common.{◌≡◌, ℕ, pos, List, [], ◌∷◌, refl}
use Rattle.std.specs.Prelude.{codes}
use Rattle.partition_map.specs.Map.{cut, part_of, just_below}
use Rattle.sql_base.specs.declared.tables.ColumnKind.TheVariants.{Int}
use Rattle.sql_base.specs.declared.tables.TableDef.{TableDef}
use Rattle.sql_base.specs.declared.values.Value.TheVariants as value

-- a table of numbers, with the first key 1000
abbrev halves : TableDef
halves = record { name = codes "t"; columns = record { name = codes "k"; kind = Int } ∷ []; key = 0 ∷ []; checks = []; firsts = (value.Int (pos 1000) ∷ []) ∷ [] }

abbrev high : List ℕ
high = 0xFF ∷ 0xFF ∷ 0xFF ∷ 0xFF ∷ 0xFF ∷ 0xFF ∷ 0xFF ∷ 0xFF ∷ []

abbrev key : ℕ → ℕ → List ℕ
key a b = 0x80 ∷ 0 ∷ 0 ∷ 0 ∷ 0 ∷ 0 ∷ a ∷ b ∷ []

-- the range k >= 999
cut_at_1000 : cut halves (record { low = key 0x03 0xE7; high = high }) ≡ record { part = 0; range = record { low = key 0x03 0xE7; high = key 0x03 0xE7 } } ∷ record { part = 1; range = record { low = key 0x03 0xE8; high = high } } ∷ []
cut_at_1000 = refl

within_the_second : cut halves (record { low = key 0x03 0xE8; high = high }) ≡ record { part = 1; range = record { low = key 0x03 0xE8; high = high } } ∷ []
within_the_second = refl

first_key_is_in_the_second : part_of halves (key 0x03 0xE8) ≡ 1
first_key_is_in_the_second = refl

key_below_is_in_the_first : part_of halves (key 0x03 0xE7) ≡ 0
key_below_is_in_the_first = refl

below_a_round_key : just_below (0x80 ∷ 1 ∷ 0 ∷ 0 ∷ []) ≡ 0x80 ∷ 0 ∷ 0xFF ∷ 0xFF ∷ []
below_a_round_key = refl
