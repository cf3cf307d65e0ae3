-- An assignment as it stands in the code of a SET list.
use Rattle.std.specs.Prelude.{ℕ, suc, List, [], ◌∷◌, length, Option, None, option_map, option_and_then}
use Rattle.sql_base.specs.Codes.{counted}
use Rattle.sql_base.specs.declared.statements.Assign.{Assign}
use Rattle.sql_base.specs.declared.tables.TableDef.{TableDef}
use Rattle.predicate_codes.specs.Decoding.{counted_at, read_code}
use Rattle.predicate_codes.specs.SetLists.{assign_of}
use Rattle.update_expressions.specs.declared.verifying.Entry.{Entry}
use Rattle.update_expressions.specs.declared.verifying.VerifiedSet.{VerifiedSet}

abbrev pub set_in : VerifiedSet → Assign
set_in set = record { column = set.column; value = set.value.tree }

-- an assignment, and how many bytes it has
pub record SetEntry : Type 0 where
  pub set : Assign
  pub size : ℕ

abbrev pub entry_of : Entry → SetEntry
entry_of entry = record { set = set_in entry.set; size = entry.size }

-- the assignment in front
abbrev pub entry_in : TableDef → List ℕ → Option SetEntry
entry_in table [] = None
entry_in table (column ∷ code) =
    option_and_then
    (λ bytes.
    option_map
    (λ set. record { set = set; size = suc (length (counted bytes)) })
    (option_and_then (assign_of table column) (read_code table bytes)))
    (counted_at code)
