-- Which bytes are the code of a SET list.
use Rattle.std.specs.Prelude.{ℕ, zero, suc, nat_le, nat_lt, nat_eq, List, [], ◌∷◌, length, drop, map, slice_get, Option, Some, None, option_map, option_and_then, Bool, true, false, not, ◌&&◌, if◌then◌else◌}
use Rattle.std.specs.List.{list_any}
use Rattle.sql_base.specs.Codes.{counted}
use Rattle.sql_base.specs.Kinds.{Kind, OfNumber, OfText, OfTruth}
use Rattle.sql_base.specs.Rows.{kinds}
use Rattle.sql_base.specs.Tables.{all_differ}
use Rattle.sql_base.specs.declared.statements.Assign.{Assign}
use Rattle.sql_base.specs.declared.tables.ColumnKind.{ColumnKind}
use Rattle.sql_base.specs.declared.tables.ColumnKind.TheVariants.{Int, Char}
use Rattle.sql_base.specs.declared.tables.TableDef.{TableDef}
use Rattle.predicate_codes.specs.Decoding.{Operand, counted_at, read_code}

-- a value of this kind can be stored in the column
abbrev pub can_store : Option ColumnKind → Kind → Bool
can_store (Some Int) OfNumber = true
can_store (Some Int) (OfText w) = false
can_store (Some Int) OfTruth = false
can_store (Some (Char width)) (OfText w) = nat_le w width
can_store (Some (Char width)) OfNumber = false
can_store (Some (Char width)) OfTruth = false
can_store None kind = false

-- the assignment of the value to a column, if the column isn't a key column and can store it
abbrev pub assign_of : TableDef → ℕ → Operand → Option Assign
assign_of table column o =
    if not (list_any (nat_eq column) table.key) && can_store (slice_get (kinds table) column) o.kind
    then Some (record { column = column; value = o.tree })
    else None

-- that many assignments, and nothing behind them
abbrev pub assigns_in : TableDef → ℕ → List ℕ → Option (List Assign)
assigns_in table zero [] = Some []
assigns_in table zero (b ∷ code) = None
assigns_in table (suc n) [] = None
assigns_in table (suc n) (column ∷ code) =
    option_and_then
    (λ bytes.
    option_and_then
    (λ set. option_map (λ sets. set ∷ sets) (assigns_in table n (drop (length (counted bytes)) code)))
    (option_and_then (assign_of table column) (read_code table bytes)))
    (counted_at code)

-- one assignment at least, to columns that differ
abbrev pub are_sets : List Assign → Bool
are_sets sets = nat_lt 0 (length sets) && all_differ nat_eq (map (λ (set : Assign). set.column) sets)

-- the SET list for which a code stands
abbrev pub sets_of : TableDef → List ℕ → Option (List Assign)
sets_of table [] = None
sets_of table (count ∷ code) =
    option_and_then
    (λ sets. if are_sets sets && nat_le (length (count ∷ code)) 8192 then Some sets else None)
    (assigns_in table count code)
