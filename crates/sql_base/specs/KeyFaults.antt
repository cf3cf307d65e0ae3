-- Which values have a key, and what keeps the others from one.
use Rattle.std.specs.Prelude.{ℕ, nat_lt, List, [], ◌∷◌, length, filter_map, slice_get, Option, Some, None, option_and_then, Bool, true, false, not, ◌&&◌, if◌then◌else◌}
use Rattle.sql_base.specs.Rows.{is_printable, kinds}
use Rattle.sql_base.specs.declared.keys.KeyFault.{KeyFault}
use Rattle.sql_base.specs.declared.keys.KeyFault.TheVariants.{TextTooLong, NotPrintable}
use Rattle.sql_base.specs.declared.tables.ColumnKind.{ColumnKind}
use Rattle.sql_base.specs.declared.tables.ColumnKind.TheVariants.{Int, Char}
use Rattle.sql_base.specs.declared.tables.TableDef.{TableDef}
use Rattle.sql_base.specs.declared.values.Value.{Value}
use Rattle.sql_base.specs.declared.values.Value.TheVariants as value

-- a number where a number belongs, a text where a text does
abbrev pub has_kind : ColumnKind → Value → Bool
has_kind Int (value.Int n) = true
has_kind (Char width) (value.Text text) = true
has_kind Int (value.Text text) = false
has_kind (Char width) (value.Int n) = false

-- as many values as kinds, each of its kind
abbrev pub have_kinds : List ColumnKind → List Value → Bool
have_kinds (kind ∷ kinds) (v ∷ vs) = has_kind kind v && have_kinds kinds vs
have_kinds [] [] = true
have_kinds (kind ∷ kinds) [] = false
have_kinds [] (v ∷ vs) = false

-- what keeps a value out of a key: a text that is too long, or that isn't printable
abbrev pub key_fault : ℕ → ColumnKind → Value → Option KeyFault
key_fault column Int v = None
key_fault column (Char width) (value.Int n) = None
key_fault column (Char width) (value.Text text) =
    if nat_lt width (length text)
    then Some (TextTooLong column)
    else if not (is_printable text) then Some (NotPrintable column) else None

abbrev pub key_fault_at : TableDef → List Value → ℕ → Option KeyFault
key_fault_at table row column =
    option_and_then (λ kind. option_and_then (key_fault column kind) (slice_get row column)) (slice_get (kinds table) column)

-- the fault of the first key column that shows one
abbrev pub first_key_fault : TableDef → List Value → Option KeyFault
first_key_fault table row = slice_get (filter_map (key_fault_at table row) table.key) 0
