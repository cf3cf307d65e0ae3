-- Rows, as their words come.
use Rattle.std.specs.Prelude.{ℕ, ℤ, pos, neg_ℤ, ◌+◌, ◌-◌, ◌^◌, min, List, [], ◌∷◌, ◌++◌, length, nat_lt, nat_le, nat_eq, Bool, true, false, not, is_some, Option, Some, None, option_map, option_and_then, slice_get, if◌then◌else◌}
use Rattle.std.specs.List.{list_any}
use Rattle.sql_base.specs.Rows.{kinds, key_of, padded}
use Rattle.sql_base.specs.Keys.{key_lt}
use Rattle.sql_base.specs.OnRows.{first_failing}
use Rattle.sql_base.specs.declared.scripts.Load.{Load}
use Rattle.sql_base.specs.declared.tables.ColumnKind.{ColumnKind}
use Rattle.sql_base.specs.declared.tables.ColumnKind.TheVariants.{Int, Char}
use Rattle.sql_base.specs.declared.tables.TableDef.{TableDef}
use Rattle.sql_base.specs.declared.values.Value.{Value}
use Rattle.sql_base.specs.declared.values.Value.TheVariants as value
use Rattle.statement_words.specs.declared.tokens.Word.{Word}
use Rattle.statement_words.specs.declared.tokens.Word.TheVariants as word
use Rattle.statement_draft.specs.Faults.{noted, noted_as}
use Rattle.statement_draft.specs.Names.{is_long, is_wide, table_named}
use Rattle.statement_draft.specs.declared.faults.Fault.{Fault}
use Rattle.statement_draft.specs.declared.faults.Reason.{Reason}
use Rattle.statement_draft.specs.declared.faults.Reason.TheVariants.{NumberTooWide, TextTooLong, UnknownName, Repeated, WrongType, OverLimit, NotRising, CheckFails}
use Rattle.statement_draft.specs.declared.draft.Draft.{Draft}
use Rattle.statement_draft.specs.declared.draft.NewLoad.{NewLoad}
use Rattle.statement_draft.specs.declared.draft.NewRow.{NewRow}
use Rattle.statement_draft.specs.declared.draft.RowOf.{RowOf}
use Rattle.statement_draft.specs.declared.draft.RowOf.TheVariants as row_of

-- the `(` of a row
abbrev pub row_begins : ℕ → Draft → Draft
row_begins at d = record d { row = record d.row { at = at; values = [] } }

-- a text of a LOAD or an INSERT fills its column with blanks, one of a FIRST KEY stays as it is
abbrev pub fitted : RowOf → Option ColumnKind → Value → Value
fitted row_of.FirstKey kind v = v
fitted row_of.Load (Some (Char n)) (value.Text text) = value.Text (padded n text)
fitted row_of.Insert (Some (Char n)) (value.Text text) = value.Text (padded n text)
fitted of kind v = v

-- what is wrong with a literal of a column of this kind; a FIRST KEY has no literal past the key columns
abbrev pub literal_fault : RowOf → Option ColumnKind → Value → Option Reason
literal_fault row_of.FirstKey None v = Some WrongType
literal_fault of None v = None
literal_fault of (Some Int) (value.Int n) = None
literal_fault of (Some Int) (value.Text text) = Some WrongType
literal_fault of (Some (Char n)) (value.Int m) = Some WrongType
literal_fault of (Some (Char n)) (value.Text text) = if nat_lt n (length text) then Some TextTooLong else None

-- the kind of the column that the next literal is for
abbrev pub next_kind : NewRow → Option ColumnKind
next_kind row = option_and_then (λ kinds. slice_get kinds (length row.values)) row.kinds

-- nothing is wrong with the literals of an unknown table
abbrev pub wrong_with : NewRow → Value → Option Reason
wrong_with row v = option_and_then (λ kinds. literal_fault row.of (slice_get kinds (length row.values)) v) row.kinds

-- a literal that begins at a place
abbrev pub literal_came : Value → ℕ → Draft → Draft
literal_came v at d = record d {
  first = noted_as (wrong_with d.row v) at d.first;
  row = record d.row { values = d.row.values ++ fitted d.row.of (next_kind d.row) v ∷ [] };
}

-- a number without sign
abbrev pub number_came : ℕ → ℕ → Draft → Draft
number_came n at d = literal_came (value.Int (pos (min n (2 ^ 63 - 1)))) at (record d { first = noted (is_wide n) NumberTooWide at d.first })

-- the negative of a number, of which no word is wider than 2 ^ 63
abbrev pub negative : ℕ → ℤ
negative n = neg_ℤ (pos (min n (2 ^ 63)))

-- the number behind the `-`, where the literal began
abbrev pub negative_came : ℕ → Draft → Draft
negative_came n d = literal_came (value.Int (negative n)) d.row.minus d

-- the first word of a literal
abbrev pub literal_begins : Word → ℕ → Draft → Draft
literal_begins (word.Number n) at d = number_came n at d
literal_begins (word.Text text) at d = literal_came (value.Text text) at d
literal_begins w at d = record d { row = record d.row { minus = at } }

-- the kinds of the columns of a table, if it is there
abbrev pub kinds_of : List TableDef → Option ℕ → Option (List ColumnKind)
kinds_of tables table = option_map kinds (option_and_then (slice_get tables) table)

-- the table's name in a LOAD: a table may have one
abbrev pub is_loaded : List Load → Option ℕ → Bool
is_loaded loads None = false
is_loaded loads (Some table) = list_any (λ load. nat_eq table load.table) loads

abbrev pub no_load : NewLoad
no_load = record { table = None; last = None; rows = [] }

abbrev pub load_named : Option ℕ → ℕ → Draft → Draft
load_named table at d = record d {
  first = noted (not (is_some table)) UnknownName at (noted (is_loaded d.loads table) Repeated at d.first);
  load = record { table = table; last = None; rows = [] };
  row = record d.row { of = row_of.Load; kinds = kinds_of d.tables table };
}

abbrev pub load_came : List ℕ → ℕ → Draft → Draft
load_came name at d = load_named (table_named d.tables name) at (record d { first = noted (is_long name) OverLimit at d.first })

-- whether a whole row has another number of literals than its table has columns
abbrev pub miscounts : NewRow → Bool
miscounts row = elim row.kinds [ None ↦ false | Some kinds ↦ not (nat_eq (length row.values) (length kinds)) ]

-- one record more, of 4,000
abbrev pub record_counted : ℕ → Draft → Draft
record_counted at d = record d {
  first = noted (nat_le 4000 d.records) OverLimit at (noted (miscounts d.row) WrongType d.row.at d.first);
  records = min 4000 d.records + 1;
}

abbrev pub is_above : Option (List ℕ) → List ℕ → Bool
is_above None key = true
is_above (Some last) key = key_lt last key

-- a row without fault so far, in the order of keys and under the CHECKs of its table
abbrev pub row_faults : TableDef → NewRow → Option (List ℕ) → Option Fault → Option Fault
row_faults table row last first =
    noted (not (is_above last (key_of table row.values))) NotRising row.at
    (noted (is_some (first_failing table.checks row.values)) CheckFails row.at first)

abbrev pub row_kept : List ℕ → Draft → Draft
row_kept key d = record d {
  load = record d.load { last = Some key; rows = d.load.rows ++ d.row.values ∷ [] };
  row = record d.row { values = [] };
}

abbrev pub row_loaded : TableDef → Draft → Draft
row_loaded table d = row_kept (key_of table d.row.values) (record d { first = row_faults table d.row d.load.last d.first })

-- a row is judged so only where there is no fault: an earlier one stands before it, or in it
abbrev pub row_judged : Option TableDef → Draft → Draft
row_judged None d = d
row_judged (Some table) d = if is_some d.first then d else row_loaded table d

abbrev pub load_row_ends : Draft → Draft
load_row_ends d = row_judged (option_and_then (slice_get d.tables) d.load.table) (record_counted d.row.at d)

abbrev pub load_kept : Option ℕ → Draft → Draft
load_kept None d = d
load_kept (Some table) d = record d {
  loads = d.loads ++ record { table = table; rows = d.load.rows } ∷ [];
  load = no_load;
}

abbrev pub load_ends : Draft → Draft
load_ends d = load_kept d.load.table d
