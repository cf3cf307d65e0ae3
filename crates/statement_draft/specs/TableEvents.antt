-- Limits and tables, as their words come.
use Rattle.std.specs.Prelude.{ℕ, ◌+◌, ◌-◌, min, List, [], ◌∷◌, ◌++◌, length, replicate, nat_lt, nat_le, nat_eq, Bool, true, not, ◌&&◌, ◌||◌, is_some, Option, Some, None, slice_get, if◌then◌else◌}
use Rattle.std.specs.List.{list_any}
use Rattle.sql_base.specs.Rows.{width, key_kinds, key_values}
use Rattle.sql_base.specs.Keys.{key_lt}
use Rattle.sql_base.specs.Scripts.{parts_of}
use Rattle.sql_base.specs.declared.scripts.Limits.{Limits}
use Rattle.sql_base.specs.declared.tables.Column.{Column}
use Rattle.sql_base.specs.declared.tables.ColumnKind.{ColumnKind}
use Rattle.sql_base.specs.declared.tables.ColumnKind.TheVariants.{Char}
use Rattle.statement_grammar.specs.declared.symbols.Limit.{Limit}
use Rattle.statement_grammar.specs.declared.symbols.Limit.TheVariants as limit
use Rattle.statement_draft.specs.Faults.{noted}
use Rattle.statement_draft.specs.Names.{is_long, is_wide, column_named, table_named}
use Rattle.statement_draft.specs.declared.faults.Reason.TheVariants.{NumberTooWide, UnknownName, Repeated, OverLimit, NotRising}
use Rattle.statement_draft.specs.declared.draft.Draft.{Draft}
use Rattle.statement_draft.specs.declared.draft.NewTable.{NewTable}
use Rattle.statement_draft.specs.declared.draft.RowOf.TheVariants as row_of
use Rattle.statement_draft.specs.declared.draft.Scope.TheVariants as scope

-- the least and the greatest number of a limit
abbrev pub least : Limit → ℕ
least limit.Quantum = 1
least limit.Buffer = 320
least limit.Patience = 0
least limit.Servers = 1
least limit.Restart = 0

abbrev pub greatest : Limit → ℕ
greatest limit.Quantum = 1000
greatest limit.Buffer = 32768
greatest limit.Patience = 100
greatest limit.Servers = 4
greatest limit.Restart = 10

abbrev pub is_within : Limit → ℕ → Bool
is_within l n = nat_le (least l) n && nat_le n (greatest l)

abbrev pub with_limit : Limit → ℕ → Limits → Limits
with_limit limit.Quantum n limits = record limits { quantum = n }
with_limit limit.Buffer n limits = record limits { buffer = n }
with_limit limit.Patience n limits = record limits { patience = n }
with_limit limit.Servers n limits = record limits { servers = n }
with_limit limit.Restart n limits = record limits { restart = n }

-- the number of a limit; one out of its range counts as 0
abbrev pub limit_came : Limit → ℕ → ℕ → Draft → Draft
limit_came l n at d = record d {
  first = noted (not (is_within l n)) OverLimit at (noted (is_wide n) NumberTooWide at d.first);
  limits = with_limit l (if is_within l n then n else 0) d.limits;
}

abbrev pub no_table : NewTable
no_table = record {
  def = record { name = []; columns = []; key = []; checks = []; firsts = [] };
  column = [];
  column_at = 0;
  width = 0;
  key_width = 0;
  check_at = 0;
  last = [];
}

-- TABLE: with its partition 0, neither the tables nor the partitions may be too many
abbrev pub table_begins : ℕ → Draft → Draft
table_begins at d = record d {
  first = noted (nat_le 4 (length d.tables) || nat_le 16 (parts_of d.tables)) OverLimit at d.first;
  table = no_table;
}

abbrev pub table_came : List ℕ → ℕ → Draft → Draft
table_came name at d = record d {
  first = noted (is_some (table_named d.tables name)) Repeated at (noted (is_long name) OverLimit at d.first);
  table = record d.table { def = record d.table.def { name = name } };
}

-- the name of a column, of which there may be 32
abbrev pub column_came : List ℕ → ℕ → Draft → Draft
column_came name at d = record d {
  first = noted (is_some (column_named d.table.def.columns name)) Repeated at
      (noted (is_long name || nat_le 32 (length d.table.def.columns)) OverLimit at d.first);
  table = record d.table { column = name; column_at = at };
}

-- n bytes more, counted up to one more than a limit
abbrev pub added_up_to : ℕ → ℕ → ℕ → ℕ
added_up_to most sum n = min (most + 1) (sum + min (most + 1) n)

-- the kind of the last named column, whose values have n bytes: a row may have 256, and a 33rd column isn't kept
abbrev pub kind_came : ColumnKind → ℕ → Draft → Draft
kind_came kind n d = let bytes = added_up_to 256 d.table.width n in record d {
  first = noted (nat_lt 256 bytes) OverLimit d.table.column_at d.first;
  table = record d.table {
    width = bytes;
    def = record d.table.def {
      columns = if nat_lt (length d.table.def.columns) 32
          then d.table.def.columns ++ record { name = d.table.column; kind = kind } ∷ []
          else d.table.def.columns;
    };
  };
}

-- the width of a CHAR, which counts towards the row also where it is out of its range
abbrev pub width_came : ℕ → ℕ → Draft → Draft
width_came n at d = kind_came (Char (min n 255)) n (record d {
  first = noted (not (nat_le 1 n && nat_le n 255)) OverLimit at (noted (is_wide n) NumberTooWide at d.first);
})

-- how many bytes a value of a column has
abbrev pub column_bytes : Option Column → ℕ
column_bytes None = 0
column_bytes (Some column) = width column.kind

-- a column of the key, which may have 32 bytes; one that is named again isn't kept
abbrev pub key_column_found : Option ℕ → ℕ → Draft → Draft
key_column_found None at d = record d { first = noted true UnknownName at d.first }
key_column_found (Some c) at d =
    let bytes = added_up_to 32 d.table.key_width (column_bytes (slice_get d.table.def.columns c)) in
    let again = list_any (nat_eq c) d.table.def.key in record d {
      first = noted again Repeated at (noted (nat_lt 32 bytes) OverLimit at d.first);
      table = record d.table {
        key_width = bytes;
        def = record d.table.def { key = if again then d.table.def.key else d.table.def.key ++ c ∷ [] };
      };
    }

abbrev pub key_column_came : List ℕ → ℕ → Draft → Draft
key_column_came name at d =
    key_column_found (column_named d.table.def.columns name) at (record d { first = noted (is_long name) OverLimit at d.first })

-- CHECK, of which there may be 8
abbrev pub check_begins : ℕ → Draft → Draft
check_begins at d = record d {
  first = noted (nat_le 8 (length d.table.def.checks)) OverLimit at d.first;
  table = record d.table { check_at = at };
  scope = scope.NewTable;
}

-- FIRST: its rows are of the key columns, and rise from above the least key
abbrev pub first_keys_begin : Draft → Draft
first_keys_begin d = record d {
  table = record d.table { last = replicate d.table.key_width 0 };
  row = record d.row { of = row_of.FirstKey; kinds = Some (key_kinds d.table.def) };
}

-- a key of n bytes that begins so, with bytes 00 behind
abbrev pub filled_key : ℕ → List ℕ → List ℕ
filled_key n key = key ++ replicate (n - length key) 0

-- the first key that the row is for; its width is that of the key where there is no fault
abbrev pub row_first_key : Draft → List ℕ
row_first_key d = filled_key d.table.key_width (key_values (key_kinds d.table.def) d.row.values)

-- a whole row of FIRST KEY: one partition more, of 16; its key is judged where there is no fault so far
abbrev pub first_key_rises : Draft → Draft
first_key_rises d = let key = row_first_key d in record d {
  first = noted (not (is_some d.first) && not (key_lt d.table.last key)) NotRising d.row.at d.first;
  table = record d.table { last = key; def = record d.table.def { firsts = d.table.def.firsts ++ d.row.values ∷ [] } };
  row = record d.row { values = [] };
}

abbrev pub first_key_ends : Draft → Draft
first_key_ends d = first_key_rises (record d {
  first = noted (nat_le 15 (parts_of d.tables + length d.table.def.firsts)) OverLimit d.row.at d.first;
})

-- a fifth table isn't kept
abbrev pub table_ends : Draft → Draft
table_ends d = record d { tables = if nat_lt (length d.tables) 4 then d.tables ++ d.table.def ∷ [] else d.tables; table = no_table }
