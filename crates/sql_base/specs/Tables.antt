-- The rules that a table declaration and a statement on it meet.
use Rattle.std.specs.Prelude.{◌≡◌, ◌≤◌, ◌<◌, ℕ, ◌-◌, List, [], ◌∷◌, ◌++◌, length, replicate, map, nat_eq, nat_le, Option, Some, None, slice_get, Bool, true, false, not, ◌&&◌}
use Rattle.std.specs.List.{list_any, AllByRecursion}
use Rattle.std.specs.Str.{bytes_eq}
use Rattle.sql_base.specs.Keys.{Rise}
use Rattle.sql_base.specs.Names.{IsShortName}
use Rattle.sql_base.specs.Rows.{kinds, key_kinds, key_width, row_width, key_values, in_i64, is_printable, IsRow}
use Rattle.sql_base.specs.Kinds.{Kind, OfNumber, OfText, OfTruth, IsExpr}
use Rattle.sql_base.specs.Codes.{sets_code}
use Rattle.sql_base.specs.declared.expressions.Expr.{Expr}
use Rattle.sql_base.specs.declared.lock_names.Access.{Access}
use Rattle.sql_base.specs.declared.lock_names.Access.TheVariants.{Browse, Stable, Repeatable}
use Rattle.sql_base.specs.declared.statements.Assign.{Assign}
use Rattle.sql_base.specs.declared.statements.Statement.{Statement}
use Rattle.sql_base.specs.declared.statements.Statement.TheVariants.{Select, Update, Delete, Insert, LockTable}
use Rattle.sql_base.specs.declared.tables.ColumnKind.{ColumnKind}
use Rattle.sql_base.specs.declared.tables.ColumnKind.TheVariants.{Int, Char}
use Rattle.sql_base.specs.declared.tables.TableDef.{TableDef}
use Rattle.sql_base.specs.declared.values.Value.{Value}
use Rattle.sql_base.specs.declared.values.Value.TheVariants as value

-- no two are equal
abbrev pub all_differ : {A : Type 0} → (A → A → Bool) → List A → Bool
all_differ equal [] = true
all_differ equal (x ∷ xs) = not (list_any (equal x) xs) && all_differ equal xs

-- a list of columns that may be named together: one at least, each of the table's, none twice
pub record AreColumns (table : TableDef) (columns : List ℕ) : Type 0 where
  pub some : 0 < length columns
  pub within : AllByRecursion (λ c. c < length table.columns) columns
  pub differ : all_differ nat_eq columns ≡ true

-- a literal that a key column can be compared with or begin at
abbrev pub is_literal_of : ColumnKind → Value → Bool
is_literal_of Int (value.Int n) = in_i64 n
is_literal_of (Char width) (value.Text text) = nat_le (length text) width && is_printable text
is_literal_of Int (value.Text text) = false
is_literal_of (Char width) (value.Int n) = false

-- literals for some leading columns of the key
abbrev pub are_leading : List ColumnKind → List Value → Bool
are_leading kinds [] = true
are_leading (kind ∷ kinds) (v ∷ vs) = is_literal_of kind v && are_leading kinds vs
are_leading [] (v ∷ vs) = false

-- the first key of a partition: what the literals give, and bytes 00 behind it
abbrev pub first_key : TableDef → List Value → List ℕ
first_key table first = let key = key_values (key_kinds table) first in key ++ replicate (key_width table - length key) 0

abbrev pub first_keys : TableDef → List (List ℕ)
first_keys table = map (first_key table) table.firsts

-- the first keys rise strictly from above the least key
pub record AreFirsts (table : TableDef) : Type 0 where
  pub some : AllByRecursion (λ first. 0 < length first) table.firsts
  pub leading : AllByRecursion (λ first. are_leading (key_kinds table) first ≡ true) table.firsts
  pub rise : Rise (replicate (key_width table) 0 ∷ first_keys table)

abbrev pub IsWidth : ColumnKind → Type 0
IsWidth Int = Unit {0}
IsWidth (Char n) = (1 ≤ n) × (n ≤ 255)

-- a table that may be declared
pub record IsTable (table : TableDef) : Type 0 where
  pub name : IsShortName table.name
  pub columns : length table.columns ≤ 32
  pub column_names : AllByRecursion (λ column. IsShortName column.name) table.columns
  pub names_differ : all_differ bytes_eq (map (λ column. column.name) table.columns) ≡ true
  pub widths : AllByRecursion IsWidth (kinds table)
  pub row : row_width table ≤ 256
  pub key : AreColumns table table.key
  pub key_bytes : key_width table ≤ 32
  pub few_checks : length table.checks ≤ 8
  pub checks : AllByRecursion (IsExpr table OfTruth) table.checks
  pub firsts : AreFirsts table

-- a predicate of the table, or none
abbrev pub IsFilter : TableDef → Option Expr → Type 0
IsFilter table None = Unit {0}
IsFilter table (Some e) = IsExpr table OfTruth e

-- a value of this kind can be stored in the column
abbrev pub Stores : ColumnKind → Kind → Type 0
Stores Int OfNumber = Unit {0}
Stores (Char width) (OfText w) = w ≤ width
Stores kind other = ⊥

-- an assignment to a column that isn't a key column
abbrev pub IsAssign : TableDef → Assign → Type 0
IsAssign table set =
    (column : ColumnKind) × (kind : Kind) × (slice_get (kinds table) set.column ≡ Some column)
    × (list_any (nat_eq set.column) table.key ≡ false) × Stores column kind × IsExpr table kind set.value

pub record AreSets (table : TableDef) (sets : List Assign) : Type 0 where
  pub some : 0 < length sets
  pub each : AllByRecursion (IsAssign table) sets
  pub differ : all_differ nat_eq (map (λ set. set.column) sets) ≡ true
  pub code : length (sets_code sets) ≤ 8192

-- BROWSE is for SELECT alone
abbrev pub MayChange : Access → Type 0
MayChange Browse = ⊥
MayChange Stable = Unit {0}
MayChange Repeatable = Unit {0}

-- the table of a statement, by its place
abbrev pub table_of : Statement → ℕ
table_of (Select table columns filter access) = table
table_of (Update table sets filter access) = table
table_of (Delete table filter access) = table
table_of (Insert table row) = table
table_of (LockTable table mode) = table

-- a statement that may be made on its table
abbrev pub SuitsTable : TableDef → Statement → Type 0
SuitsTable table (Select t columns filter access) = AreColumns table columns × IsFilter table filter
SuitsTable table (Update t sets filter access) = AreSets table sets × IsFilter table filter × MayChange access
SuitsTable table (Delete t filter access) = IsFilter table filter × MayChange access
SuitsTable table (Insert t row) = IsRow table row
SuitsTable table (LockTable t mode) = Unit {0}

abbrev pub IsStatement : List TableDef → Statement → Type 0
IsStatement tables statement = (table : TableDef) × (slice_get tables (table_of statement) ≡ Some table) × SuitsTable table statement
