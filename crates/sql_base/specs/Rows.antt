-- Rows, their packed bytes and their keys.
use Rattle.std.specs.Prelude.{◌≡◌, ℕ, ◌^◌, ◌-◌, ℤ, pos, negsuc, List, [], ◌∷◌, ◌++◌, length, replicate, map, flat_map, filter_map, sum_by, slice_get, take, drop, bit_xor, Option, Some, None, option_map, option_and_then, Bool, true, false, ◌&&◌, ◌==◌, nat_lt, if◌then◌else◌}
use Rattle.std.specs.List.{list_all, AllByRecursion}
use Rattle.std.specs.Int.{w64, cast_unsigned, cast_signed, to_be_bytes, from_be_bytes, is_in_range}
use Rattle.sql_base.specs.Keys.{Rise}
use Rattle.sql_base.specs.declared.values.Value.{Value}
use Rattle.sql_base.specs.declared.values.Value.TheVariants as value
use Rattle.sql_base.specs.declared.tables.ColumnKind.{ColumnKind}
use Rattle.sql_base.specs.declared.tables.ColumnKind.TheVariants.{Int, Char}
use Rattle.sql_base.specs.declared.tables.TableDef.{TableDef}

-- how many bytes a value of a column has
abbrev pub width : ColumnKind → ℕ
width Int = 8
width (Char n) = n

-- a text with as many blanks behind it as fill n bytes
abbrev pub padded : ℕ → List ℕ → List ℕ
padded n text = text ++ replicate (n - length text) 32

-- a value in a packed row: a number as 8 bytes big-endian two's complement, a text as its bytes
abbrev pub packed_value : Value → List ℕ
packed_value (value.Int n) = to_be_bytes w64 (cast_unsigned w64 n)
packed_value (value.Text text) = text

-- a value in a key: a number with its sign bit inverted, a text with blanks up to the width of its column
abbrev pub key_value : ColumnKind → Value → List ℕ
key_value kind (value.Int n) = to_be_bytes w64 (bit_xor (cast_unsigned w64 n) (2 ^ 63))
key_value kind (value.Text text) = padded (width kind) text

-- the elements at these places, in their order
abbrev pub chosen : {A : Type 0} → List ℕ → List A → List A
chosen places xs = filter_map (slice_get xs) places

-- the packed row of the named columns, in their order
abbrev pub packed : List ℕ → List Value → List ℕ
packed columns row = flat_map packed_value (chosen columns row)

abbrev pub kinds : TableDef → List ColumnKind
kinds table = map (λ column. column.kind) table.columns

-- the kinds of the key columns, in the order of PRIMARY KEY
abbrev pub key_kinds : TableDef → List ColumnKind
key_kinds table = chosen table.key (kinds table)

-- how many bytes a key and a packed row of the table have
abbrev pub key_width : TableDef → ℕ
key_width table = sum_by width (key_kinds table)

abbrev pub row_width : TableDef → ℕ
row_width table = sum_by width (kinds table)

-- the values of leading key columns, one after the other
abbrev pub key_values : List ColumnKind → List Value → List ℕ
key_values (kind ∷ kinds) (v ∷ vs) = key_value kind v ++ key_values kinds vs
key_values (kind ∷ kinds) [] = []
key_values [] vs = []

-- the key of a row
abbrev pub key_of : TableDef → List Value → List ℕ
key_of table row = key_values (key_kinds table) (chosen table.key row)

abbrev pub in_i64 : ℤ → Bool
in_i64 (pos n) = nat_lt n (2 ^ 63)
in_i64 (negsuc n) = nat_lt n (2 ^ 63)

abbrev pub is_printable : List ℕ → Bool
is_printable text = list_all (is_in_range 32 126) text

-- a value that a column of this kind may hold
abbrev pub is_of_kind : ColumnKind → Value → Bool
is_of_kind Int (value.Int n) = in_i64 n
is_of_kind (Char width) (value.Text text) = (length text == width) && is_printable text
is_of_kind Int (value.Text text) = false
is_of_kind (Char width) (value.Int n) = false

-- the values that columns of these kinds may hold
abbrev pub are_of_kinds : List ColumnKind → List Value → Bool
are_of_kinds (kind ∷ kinds) (v ∷ vs) = is_of_kind kind v && are_of_kinds kinds vs
are_of_kinds [] [] = true
are_of_kinds (kind ∷ kinds) [] = false
are_of_kinds [] (v ∷ vs) = false

-- a row of the table
abbrev pub IsRow : TableDef → List Value → Type 0
IsRow table row = are_of_kinds (kinds table) row ≡ true

-- the records of a table: rows whose keys strictly rise
abbrev pub AreRecords : TableDef → List (List Value) → Type 0
AreRecords table rows = AllByRecursion (IsRow table) rows × Rise (map (key_of table) rows)

-- the value whose bytes in a packed row these are
abbrev pub unpacked_value : ColumnKind → List ℕ → Option Value
unpacked_value Int bytes = Some (value.Int (cast_signed w64 (from_be_bytes w64 bytes)))
unpacked_value (Char n) bytes = if is_printable bytes then Some (value.Text bytes) else None

-- the row of these kinds whose packed columns the bytes are
abbrev pub unpacked : List ColumnKind → List ℕ → Option (List Value)
unpacked [] [] = Some []
unpacked [] (b ∷ bs) = None
unpacked (kind ∷ kinds) bytes =
    if nat_lt (length bytes) (width kind)
    then None
    else option_and_then (λ v. option_map (λ vs. v ∷ vs) (unpacked kinds (drop (width kind) bytes))) (unpacked_value kind (take (width kind) bytes))
