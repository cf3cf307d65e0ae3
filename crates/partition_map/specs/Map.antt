-- How the keys of a table lie in its partitions.
use Rattle.std.specs.Prelude.{ℕ, ◌+◌, List, [], ◌∷◌, length, replicate, reverse, filter_map, count_by, Option, Some, None, slice_get, unwrap_or, option_map, if◌then◌else◌, zero, suc}
use Rattle.std.specs.List.{range_with_len}
use Rattle.sql_base.specs.Keys.{key_le, key_max, key_min}
use Rattle.sql_base.specs.Rows.{key_width}
use Rattle.sql_base.specs.Tables.{first_keys}
use Rattle.sql_base.specs.declared.key_ranges.KeyRange.{KeyRange}
use Rattle.sql_base.specs.declared.tables.TableDef.{TableDef}
use Rattle.partition_map.specs.declared.Piece.{Piece}

-- the least and the greatest key of a table
abbrev pub least_key : TableDef → List ℕ
least_key table = replicate (key_width table) 0x00

abbrev pub greatest_key : TableDef → List ℕ
greatest_key table = replicate (key_width table) 0xFF

-- the byte string just below one of the same length, both with the last byte first
abbrev pub below_reversed : List ℕ → List ℕ
below_reversed [] = []
below_reversed (zero ∷ bytes) = 0xFF ∷ below_reversed bytes
below_reversed (suc b ∷ bytes) = b ∷ bytes

abbrev pub just_below : List ℕ → List ℕ
just_below key = reverse (below_reversed (reverse key))

-- the partition of a key: as many first keys as aren't above it
abbrev pub part_of : TableDef → List ℕ → ℕ
part_of table key = count_by (λ first. key_le first key) (first_keys table)

-- the least and the greatest key of a partition
abbrev pub low_of : TableDef → ℕ → List ℕ
low_of table zero = least_key table
low_of table (suc i) = unwrap_or (slice_get (first_keys table) i) (least_key table)

abbrev pub high_of : TableDef → ℕ → List ℕ
high_of table part = unwrap_or (option_map just_below (slice_get (first_keys table) part)) (greatest_key table)

-- the part of the range that lies in the partition, or none where it is empty
abbrev pub piece_of : TableDef → KeyRange → ℕ → Option Piece
piece_of table range part =
    let low = key_max range.low (low_of table part) in
    let high = key_min range.high (high_of table part) in
    if key_le low high then Some (record { part = part; range = record { low = low; high = high } }) else None

-- the pieces of a range, in rising partitions
abbrev pub cut : TableDef → KeyRange → List Piece
cut table range = filter_map (piece_of table range) (range_with_len 0 (length table.firsts + 1))
