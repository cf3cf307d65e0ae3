-- Sessions, works and statements, as their words come.
use Rattle.std.specs.Prelude.{ℕ, ◌+◌, ◌*◌, min, List, [], ◌∷◌, ◌++◌, length, nat_lt, nat_le, nat_eq, true, false, not, is_some, Option, Some, None, option_map, option_and_then, slice_get, if◌then◌else◌}
use Rattle.std.specs.List.{list_any}
use Rattle.sql_base.specs.declared.lock_names.Access.{Access}
use Rattle.sql_base.specs.declared.lock_names.Access.TheVariants as access
use Rattle.sql_base.specs.declared.lock_names.Mode.TheVariants as mode
use Rattle.sql_base.specs.declared.expressions.Expr.{Expr}
use Rattle.sql_base.specs.declared.statements.Assign.{Assign}
use Rattle.sql_base.specs.declared.statements.Statement.{Statement}
use Rattle.sql_base.specs.declared.statements.Statement.TheVariants as statement
use Rattle.sql_base.specs.declared.tables.Column.{Column}
use Rattle.sql_base.specs.declared.tables.ColumnKind.{ColumnKind}
use Rattle.sql_base.specs.declared.tables.ColumnKind.TheVariants.{Int, Char}
use Rattle.sql_base.specs.declared.tables.TableDef.{TableDef}
use Rattle.sql_base.specs.declared.values.Value.{Value}
use Rattle.statement_words.specs.declared.keywords.Keyword.TheVariants as keyword
use Rattle.statement_words.specs.declared.tokens.Word.{Word}
use Rattle.statement_grammar.specs.WordsAt.{is_key}
use Rattle.statement_draft.specs.Faults.{noted, noted_as}
use Rattle.statement_draft.specs.Names.{is_long, column_named, table_named}
use Rattle.statement_draft.specs.RowEvents.{kinds_of, record_counted}
use Rattle.statement_draft.specs.Expressions.{bytes_up, expression_judged, no_expression, whole}
use Rattle.statement_draft.specs.declared.faults.Fault.{Fault}
use Rattle.statement_draft.specs.declared.faults.Reason.{Reason}
use Rattle.statement_draft.specs.declared.faults.Reason.TheVariants.{TextTooLong, UnknownName, Repeated, WrongType, OverLimit}
use Rattle.statement_draft.specs.declared.kinds.Kind.{Kind}
use Rattle.statement_draft.specs.declared.kinds.Kind.TheVariants as kind
use Rattle.statement_draft.specs.declared.draft.Draft.{Draft}
use Rattle.statement_draft.specs.declared.draft.NameAt.{NameAt}
use Rattle.statement_draft.specs.declared.draft.NewStatement.{NewStatement}
use Rattle.statement_draft.specs.declared.draft.RowOf.TheVariants as row_of
use Rattle.statement_draft.specs.declared.draft.Scope.{Scope}
use Rattle.statement_draft.specs.declared.draft.Scope.TheVariants as scope
use Rattle.statement_draft.specs.declared.draft.StatementKind.{StatementKind}
use Rattle.statement_draft.specs.declared.draft.StatementKind.TheVariants as statement_kind

-- SESSION: there may be 8
abbrev pub session_begins : ℕ → Draft → Draft
session_begins at d = record d { first = noted (nat_le 8 (length d.sessions)) OverLimit at d.first; session = [] }

-- how often a transaction may run
abbrev pub times : Draft → ℕ
times d = d.limits.restart + 1

-- the statement that a word begins
abbrev pub statement_kind_of : Word → StatementKind
statement_kind_of w =
    if is_key w keyword.Select then statement_kind.Select
    else (if is_key w keyword.Update then statement_kind.Update
    else (if is_key w keyword.Delete then statement_kind.Delete
    else (if is_key w keyword.Insert then statement_kind.Insert
    else statement_kind.Lock)))

abbrev pub no_statement : StatementKind → ℕ → NewStatement
no_statement kind at = record {
  kind = kind;
  at = at;
  table = None;
  names = [];
  columns = [];
  where_at = 0;
  filter = None;
  access = access.Repeatable;
  mode = mode.X;
  sets_at = 0;
  column = None;
  column_at = 0;
  sets = [];
  code = 1;
}

-- a statement begins: run as often as RESTART allows, there may be 500
abbrev pub statement_begins : Word → ℕ → Draft → Draft
statement_begins w at d = let count = min 500 d.statements + 1 in record d {
  first = noted (nat_lt 500 (count * times d)) OverLimit at d.first;
  statements = count;
  statement = no_statement (statement_kind_of w) at;
}

-- COMMIT or ROLLBACK, or a statement
abbrev pub statement_came : Word → ℕ → Draft → Draft
statement_came w at d =
    if is_key w keyword.Commit then record d { commit = true }
    else (if is_key w keyword.Rollback then record d { commit = false }
    else statement_begins w at d)

-- a work begins: run as often as RESTART allows, there may be 1,000
abbrev pub work_begins : Word → ℕ → Draft → Draft
work_begins w at d = let count = min 1000 d.works + 1 in
    statement_came w at (record d { first = noted (nat_lt 1000 (count * times d)) OverLimit at d.first; works = count; work = [] })

-- the columns of a scope by the name of its table
abbrev pub scope_of : Option ℕ → Scope
scope_of None = scope.Unknown
scope_of (Some table) = scope.Table table

-- the table's name in a statement
abbrev pub table_found : Option ℕ → ℕ → Draft → Draft
table_found table at d = record d {
  first = noted (not (is_some table)) UnknownName at d.first;
  scope = scope_of table;
  statement = record d.statement { table = table };
}

abbrev pub table_came : List ℕ → ℕ → Draft → Draft
table_came name at d = table_found (table_named d.tables name) at (record d { first = noted (is_long name) OverLimit at d.first })

-- INSERT: its row is of the table's columns
abbrev pub insert_came : List ℕ → ℕ → Draft → Draft
insert_came name at d = let e = table_came name at d in
    record e { row = record e.row { of = row_of.Insert; kinds = kinds_of e.tables e.statement.table } }

-- a name of a SELECT list, judged once the table is known
abbrev pub selected_came : List ℕ → ℕ → Draft → Draft
selected_came name at d = record d {
  first = noted (is_long name) OverLimit at d.first;
  statement = record d.statement { names = d.statement.names ++ record { name = name; at = at } ∷ [] };
}

-- the columns that are selected so far, and the first fault
pub record Selected : Type 0 where
  pub columns : List ℕ
  pub first : Option Fault

-- one name more
abbrev pub select_found : Option ℕ → ℕ → Selected → Selected
select_found None at s = record s { first = noted true UnknownName at s.first }
select_found (Some c) at s = let again = list_any (nat_eq c) s.columns in
    record { columns = if again then s.columns else s.columns ++ c ∷ []; first = noted again Repeated at s.first }

unfoldable pub selected_from : List Column → List NameAt → Selected → Selected
selected_from columns [] s = s
selected_from columns (n ∷ names) s = selected_from columns names (select_found (column_named columns n.name) n.at s)

-- the places 0, 1, 2 and so on of the columns, counted on from n; there are 32
unfoldable pub places_from : ℕ → List Column → List ℕ
places_from n [] = []
places_from n (c ∷ columns) = if nat_le 32 n then [] else n ∷ places_from (n + 1) columns

-- `*` stands for all columns
abbrev pub selected : List Column → List NameAt → Option Fault → Selected
selected columns [] first = record { columns = places_from 0 columns; first = first }
selected columns (n ∷ names) first = selected_from columns (n ∷ names) (record { columns = []; first = first })

-- the names of a SELECT list are judged where its table is known
abbrev pub names_judged : Option TableDef → Draft → Draft
names_judged None d = d
names_judged (Some table) d = let s = selected table.columns d.statement.names d.first in
    record d { first = s.first; statement = record d.statement { columns = s.columns } }

abbrev pub select_table_came : List ℕ → ℕ → Draft → Draft
select_table_came name at d = let e = table_came name at d in
    names_judged (option_and_then (slice_get e.tables) e.statement.table) e

abbrev pub where_came : ℕ → Draft → Draft
where_came at d = record d { statement = record d.statement { where_at = at } }

abbrev pub sets_begin : ℕ → Draft → Draft
sets_begin at d = record d { statement = record d.statement { sets_at = at } }

-- the table of the statement, if it is known
abbrev pub statement_table : Draft → Option TableDef
statement_table d = option_and_then (slice_get d.tables) d.statement.table

-- a column that is set, if it is one of the table, and the first fault with its own: no key column, and none twice
abbrev pub set_found : TableDef → Option ℕ → ℕ → List ℕ → Option Fault → Option ℕ × Option Fault
set_found table None at before first = (None, noted true UnknownName at first)
set_found table (Some c) at before first =
    (Some c, noted (list_any (nat_eq c) table.key) WrongType at (noted (list_any (nat_eq c) before) Repeated at first))

-- nothing is judged of an unknown table
abbrev pub column_set : Option TableDef → List ℕ → ℕ → List ℕ → Option Fault → Option ℕ × Option Fault
column_set None name at before first = (None, first)
column_set (Some table) name at before first = set_found table (column_named table.columns name) at before first

-- the columns set so far, with one more if there is one
abbrev pub with_column : Option ℕ → List ℕ → List ℕ
with_column None columns = columns
with_column (Some c) columns = columns ++ c ∷ []

abbrev pub set_named : Option ℕ × Option Fault → ℕ → Draft → Draft
set_named found at d = record d {
  first = found.1;
  statement = record d.statement { column = found.0; column_at = at; columns = with_column found.0 d.statement.columns };
}

abbrev pub set_came : List ℕ → ℕ → Draft → Draft
set_came name at d =
    set_named (column_set (statement_table d) name at d.statement.columns (noted (is_long name) OverLimit at d.first)) at d

-- what is wrong with a value of this kind for a column; nothing where either isn't known
abbrev pub set_fault : Option ColumnKind → Option Kind → Option Reason
set_fault (Some Int) (Some kind.Number) = None
set_fault (Some (Char n)) (Some (kind.Text m)) = if nat_lt n m then Some TextTooLong else None
set_fault (Some column) (Some k) = Some WrongType
set_fault column k = None

-- the kind of the column that is set
abbrev pub set_kind : Draft → Option ColumnKind
set_kind d = option_and_then (λ c. option_and_then (λ table. option_map (λ column. column.kind) (slice_get table.columns c)) (statement_table d)) d.statement.column

abbrev pub with_assign : Option ℕ → Option Expr → List Assign → List Assign
with_assign (Some c) (Some value) sets = sets ++ record { column = c; value = value } ∷ []
with_assign column value sets = sets

-- a whole assignment; its value has 3 bytes before it in the code of the list
abbrev pub assign_ends : Draft → Draft
assign_ends d = let e = expression_judged d in let value = whole d.expression in record e {
  first = noted_as (set_fault (set_kind d) value.kind) d.statement.column_at e.first;
  statement = record e.statement {
    sets = with_assign d.statement.column value.tree d.statement.sets;
    code = bytes_up (d.statement.code + 3 + value.code);
  };
  expression = no_expression 0;
}

abbrev pub sets_end : Draft → Draft
sets_end d = record d { first = noted (nat_lt 8192 d.statement.code) OverLimit d.statement.sets_at d.first }

abbrev pub access_named : Word → Access
access_named w = if is_key w keyword.Browse then access.Browse else (if is_key w keyword.Stable then access.Stable else access.Repeatable)

abbrev pub access_came : Word → Draft → Draft
access_came w d = record d { statement = record d.statement { access = access_named w } }

abbrev pub mode_came : Word → Draft → Draft
mode_came w d = record d { statement = record d.statement { mode = if is_key w keyword.Share then mode.S else mode.X } }

-- an INSERT counts as a record, at its INSERT
abbrev pub insert_row_ends : Draft → Draft
insert_row_ends d = record_counted d.statement.at d

abbrev pub statement_drafted : StatementKind → ℕ → NewStatement → List Value → Statement
statement_drafted statement_kind.Select table s row = statement.Select table s.columns s.filter s.access
statement_drafted statement_kind.Update table s row = statement.Update table s.sets s.filter s.access
statement_drafted statement_kind.Delete table s row = statement.Delete table s.filter s.access
statement_drafted statement_kind.Insert table s row = statement.Insert table row
statement_drafted statement_kind.Lock table s row = statement.LockTable table s.mode

abbrev pub statement_kept : Option ℕ → Draft → Draft
statement_kept None d = d
statement_kept (Some table) d = record d {
  work = d.work ++ statement_drafted d.statement.kind table d.statement d.row.values ∷ [];
  statement = no_statement statement_kind.Lock 0;
  row = record d.row { values = [] };
}

abbrev pub statement_ends : Draft → Draft
statement_ends d = statement_kept d.statement.table d

abbrev pub work_ends : Draft → Draft
work_ends d = record d { session = d.session ++ record { statements = d.work; commit = d.commit } ∷ []; work = [] }

-- a ninth session isn't kept
abbrev pub session_ends : Draft → Draft
session_ends d = record d { sessions = if nat_lt (length d.sessions) 8 then d.sessions ++ d.session ∷ [] else d.sessions; session = [] }
