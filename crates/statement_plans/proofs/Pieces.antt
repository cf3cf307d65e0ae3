-- The pieces of a range lie in partitions of their table.
use Rattle.std.proofs.Common.{◌≤◌, ◌<◌, ℕ, zero, suc, ◌+◌, List, length, cond, Some, None, Bool, true, false, arith}
use Rattle.std.specs.Prelude.{filter_map}
use Rattle.std.specs.List.{AllByRecursion, cons_option, range_with_len}
use Rattle.sql_base.specs.Keys.{key_le, key_max, key_min}
use Rattle.sql_base.specs.declared.key_ranges.KeyRange.{KeyRange}
use Rattle.sql_base.specs.declared.tables.TableDef.{TableDef}
use Rattle.partition_map.specs.Map.{cut, high_of, low_of, piece_of}
use Rattle.partition_map.specs.declared.Piece.{Piece}

abbrev pub IsBelow : ℕ → Piece → Type 0
IsBelow end piece = piece.part < end

module _ (table : TableDef) (range : KeyRange) (end : ℕ) where
  abbrev pieces_from : ℕ → ℕ → List Piece
  pieces_from a n = filter_map (piece_of table range) (range_with_len a n)

  below_by : (a n : ℕ) (b : Bool) (found : KeyRange) → a < end → AllByRecursion (IsBelow end) (pieces_from (a + 1) n)
      → AllByRecursion (IsBelow end) (cons_option (cond b (Some (record { part = a; range = found })) None) (pieces_from (a + 1) n))
  below_by a n true found lt rest = (lt, rest)
  below_by a n false found lt rest = rest

  below_from : (n a : ℕ) → a + n ≤ end → AllByRecursion (IsBelow end) (pieces_from a n)
  below_from zero a le = tt
  below_from (suc n) a le =
      let low = key_max range.low (low_of table a) in
      let high = key_min range.high (high_of table a) in
      below_by a n (key_le low high) (record { low = low; high = high }) (omega arith) (below_from n (a + 1) (omega arith))

pub pieces_below : (table : TableDef) (range : KeyRange) → AllByRecursion (IsBelow (length table.firsts + 1)) (cut table range)
pieces_below table range = below_from table range (length table.firsts + 1) (length table.firsts + 1) 0 (omega arith)
