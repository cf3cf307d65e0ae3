-- The partition of a key is one of its table.
use Rattle.std.proofs.Common.{◌+◌, ◌<◌, List, arith, length, ℕ}
use Rattle.std.proofs.lemmas.List.{length-map}
use Rattle.std.proofs.lemmas.List.Sums.{count_by-le-length}
use Rattle.sql_base.specs.Keys.{key_le}
use Rattle.sql_base.specs.Tables.{first_key, first_keys}
use Rattle.sql_base.specs.declared.tables.TableDef.{TableDef}
use Rattle.partition_map.specs.Map.{part_of}

pub part_within : (table : TableDef) (key : List ℕ) → part_of table key < length table.firsts + 1
part_within table key = omega (arith, count_by-le-length (λ first. key_le first key) (first_keys table), length-map table.firsts (first_key table))
