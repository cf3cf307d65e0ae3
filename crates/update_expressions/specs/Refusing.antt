-- Which SET lists are refused, and why.
use Rattle.std.specs.Prelude.{ℕ, ◌≤◌, ◌<◌, ◌++◌, nat_eq, nat_lt, List, [], ◌∷◌, length, slice_get, Option, Some, None, if◌then◌else◌}
use Rattle.std.specs.List.{AllByRecursion, list_any}
use Rattle.std.specs.Option.{option_or}
use Rattle.sql_base.specs.Codes.{sets_code}
use Rattle.sql_base.specs.Kinds.{Kind, OfNumber, OfText, OfTruth, IsExpr, kind_of}
use Rattle.sql_base.specs.Rows.{kinds}
use Rattle.sql_base.specs.declared.statements.Assign.{Assign}
use Rattle.sql_base.specs.declared.tables.ColumnKind.{ColumnKind}
use Rattle.sql_base.specs.declared.tables.ColumnKind.TheVariants.{Int, Char}
use Rattle.sql_base.specs.declared.tables.TableDef.{TableDef}
use Rattle.update_expressions.specs.declared.faults.SetFault.{SetFault}
use Rattle.update_expressions.specs.declared.faults.SetFault.TheVariants.{UnknownColumn, KeyColumn, Twice, WrongType, TextTooLong}

-- a SET list of well-typed values, whose code isn't too long
pub record AreTyped (table : TableDef) (sets : List Assign) : Type 0 where
  pub some : 0 < length sets
  pub each : AllByRecursion (λ (set : Assign). (kind : Kind) × IsExpr table kind set.value) sets
  pub code : length (sets_code sets) ≤ 8192

-- what keeps values of a kind out of a column
abbrev pub misfit : ℕ → ColumnKind → Option Kind → Option SetFault
misfit place Int (Some OfNumber) = None
misfit place Int (Some (OfText width)) = Some (WrongType place)
misfit place Int (Some OfTruth) = Some (WrongType place)
misfit place Int None = Some (WrongType place)
misfit place (Char room) (Some (OfText width)) = if nat_lt room width then Some (TextTooLong place) else None
misfit place (Char room) (Some OfNumber) = Some (WrongType place)
misfit place (Char room) (Some OfTruth) = Some (WrongType place)
misfit place (Char room) None = Some (WrongType place)

-- the first of the five faults that an assignment behind others has, in a column of this kind or in none; its place is their number
abbrev pub fault_in : TableDef → List Assign → Assign → Option ColumnKind → Option SetFault
fault_in table before set None = Some (UnknownColumn (length before))
fault_in table before set (Some column) =
    if list_any (nat_eq set.column) table.key
    then Some (KeyColumn (length before))
    else if list_any (λ (s : Assign). nat_eq s.column set.column) before
    then Some (Twice (length before))
    else misfit (length before) column (kind_of table set.value)

abbrev pub set_fault : TableDef → List Assign → Assign → Option SetFault
set_fault table before set = fault_in table before set (slice_get (kinds table) set.column)

-- the fault of the first assignment that has one
abbrev pub fault_behind : TableDef → List Assign → List Assign → Option SetFault
fault_behind table before [] = None
fault_behind table before (set ∷ sets) = option_or (set_fault table before set) (fault_behind table (before ++ set ∷ []) sets)

abbrev pub first_set_fault : TableDef → List Assign → Option SetFault
first_set_fault table sets = fault_behind table [] sets
