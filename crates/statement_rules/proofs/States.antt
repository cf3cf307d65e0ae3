-- What holds of a draft without fault at each part of the grammar.
use Rattle.std.proofs.Common.{◌≡◌, ◌≤◌, ◌<◌, ◌+◌, ◌*◌, ℕ, min, List, [], ◌∷◌, length, map, true, false, Option, Some, None}
use Rattle.std.specs.Prelude.{nat_eq, sum_by, slice_get, replicate}
use Rattle.std.specs.List.{AllByRecursion, list_any}
use Rattle.std.specs.Str.{bytes_eq}
use Rattle.sql_base.specs.Keys.{Rise}
use Rattle.sql_base.specs.Kinds.{OfTruth, IsExpr}
use Rattle.sql_base.specs.Names.{IsShortName}
use Rattle.sql_base.specs.Rows.{width, chosen, key_kinds, key_width, key_of, kinds, IsRow}
use Rattle.sql_base.specs.OnRows.{first_failing}
use Rattle.sql_base.specs.Scripts.{AreLimits, parts_of, IsLoad}
use Rattle.sql_base.specs.Codes.{sets_code}
use Rattle.sql_base.specs.Tables.{all_differ, are_leading, first_keys, IsAssign, IsStatement, IsTable, IsWidth}
use Rattle.sql_base.specs.declared.statements.Assign.{Assign}
use Rattle.sql_base.specs.declared.scripts.Limits.{Limits}
use Rattle.sql_base.specs.declared.scripts.Load.{Load}
use Rattle.sql_base.specs.declared.scripts.Work.{Work}
use Rattle.sql_base.specs.declared.tables.Column.{Column}
use Rattle.sql_base.specs.declared.tables.ColumnKind.{ColumnKind}
use Rattle.sql_base.specs.declared.tables.TableDef.{TableDef}
use Rattle.statement_draft.specs.Names.{column_named, table_named}
use Rattle.statement_draft.specs.declared.draft.Draft.{Draft}
use Rattle.statement_draft.specs.declared.draft.NewLoad.{NewLoad}
use Rattle.statement_draft.specs.declared.draft.RowOf.{RowOf}
use Rattle.statement_draft.specs.declared.draft.RowOf.TheVariants as row_of
use Rattle.statement_draft.specs.declared.draft.Scope.{Scope}
use Rattle.statement_draft.specs.declared.draft.Scope.TheVariants as scope

-- tables that are kept
pub record TablesSound (tables : List TableDef) : Type 0 where
  pub few : length tables ≤ 4
  pub all : AllByRecursion IsTable tables
  pub differ : all_differ bytes_eq (map (λ table. table.name) tables) ≡ true
  pub parts : parts_of tables ≤ 16

-- before the first LOAD and the first session
pub record Begun (l : Limits) (ts : List TableDef) (loaded : List Load) (kept : List (List Work)) (count : ℕ) : Type 0 where
  pub limits : AreLimits l
  pub tables : TablesSound ts
  pub loads : loaded ≡ []
  pub sessions : kept ≡ []
  pub works : count ≡ 0

abbrev pub Tabling : Draft → Type 0
Tabling d = Begun d.limits d.tables d.loads d.sessions d.works

abbrev pub Tabled : Draft → Type 0
Tabled d = Tabling d × (0 < length d.tables)

-- there is room for a table of this name with so many first keys
pub record Room (tables : List TableDef) (name : List ℕ) (firsts : ℕ) : Type 0 where
  pub new : table_named tables name ≡ None
  pub few : length tables < 4
  pub parts : parts_of tables + firsts < 16

abbrev pub kinds_in : List Column → List ColumnKind
kinds_in columns = map (λ (c : Column). c.kind) columns

-- columns of a table, whose bytes were counted
pub record ColumnsSound (columns : List Column) (sum : ℕ) : Type 0 where
  pub few : length columns ≤ 32
  pub names : AllByRecursion (λ column. IsShortName column.name) columns
  pub differ : all_differ bytes_eq (map (λ column. column.name) columns) ≡ true
  pub widths : AllByRecursion IsWidth (kinds_in columns)
  pub counted : sum_by width (kinds_in columns) ≤ sum
  pub bytes : sum_by width (kinds_in columns) ≤ 256

-- a name that may be that of the next column
pub record NextColumn (columns : List Column) (name : List ℕ) : Type 0 where
  pub short : IsShortName name
  pub new : column_named columns name ≡ None
  pub room : length columns < 32

pub record IsBare (def : TableDef) (key_bytes : ℕ) : Type 0 where
  pub key : def.key ≡ []
  pub checks : def.checks ≡ []
  pub firsts : def.firsts ≡ []
  pub bytes : key_bytes ≡ 0

-- a table with columns alone
pub record InColumns (tables : List TableDef) (def : TableDef) (row_bytes key_bytes : ℕ) : Type 0 where
  pub short : IsShortName def.name
  pub room : Room tables def.name 0
  pub columns : ColumnsSound def.columns row_bytes
  pub bare : IsBare def key_bytes

abbrev pub Columning : Draft → Type 0
Columning d = Tabling d × InColumns d.tables d.table.def d.table.width d.table.key_width

-- columns of a key, whose bytes were counted
pub record KeySound (columns : List Column) (key : List ℕ) (sum : ℕ) : Type 0 where
  pub within : AllByRecursion (λ c. c < length columns) key
  pub differ : all_differ nat_eq key ≡ true
  pub counted : sum ≡ sum_by width (chosen key (kinds_in columns))
  pub bytes : sum ≤ 32

-- a table in whose key so many columns stand at least, without CHECKs
pub record InKey (tables : List TableDef) (def : TableDef) (row_bytes key_bytes least : ℕ) : Type 0 where
  pub short : IsShortName def.name
  pub room : Room tables def.name 0
  pub columns : ColumnsSound def.columns row_bytes
  pub key : KeySound def.columns def.key key_bytes
  pub some : least ≤ length def.key
  pub checks : def.checks ≡ []
  pub firsts : def.firsts ≡ []

abbrev pub Keying : ℕ → Draft → Type 0
Keying least d = Tabling d × InKey d.tables d.table.def d.table.width d.table.key_width least

-- a table with its key, and so many first keys
pub record Declares (tables : List TableDef) (def : TableDef) (row_bytes key_bytes : ℕ) : Type 0 where
  pub short : IsShortName def.name
  pub room : Room tables def.name (length def.firsts)
  pub columns : ColumnsSound def.columns row_bytes
  pub key : KeySound def.columns def.key key_bytes
  pub some : 0 < length def.key
  pub few_checks : length def.checks ≤ 8
  pub checks : AllByRecursion (IsExpr def OfTruth) def.checks

abbrev pub Declared : Draft → Type 0
Declared d = Tabling d × Declares d.tables d.table.def d.table.width d.table.key_width × (d.table.def.firsts ≡ [])

-- the first keys so far, the least key first, and the last of them
abbrev pub last_of : List ℕ → List (List ℕ) → List ℕ
last_of key [] = key
last_of key (next ∷ keys) = last_of next keys

pub record FirstsSound (def : TableDef) (key : List ℕ) : Type 0 where
  pub some : AllByRecursion (λ first. 0 < length first) def.firsts
  pub leading : AllByRecursion (λ first. are_leading (key_kinds def) first ≡ true) def.firsts
  pub rise : Rise (replicate (key_width def) 0 ∷ first_keys def)
  pub last : key ≡ last_of (replicate (key_width def) 0) (first_keys def)

abbrev pub Firsting : Draft → Type 0
Firsting d = Tabling d × Declares d.tables d.table.def d.table.width d.table.key_width × FirstsSound d.table.def d.table.last

-- a table that may be kept
abbrev pub Whole : Draft → Type 0
Whole d = Tabling d × IsTable d.table.def × Room d.tables d.table.def.name (length d.table.def.firsts)

-- LOADs that are kept
pub record LoadsSound (tables : List TableDef) (loads : List Load) : Type 0 where
  pub all : AllByRecursion (IsLoad tables) loads
  pub differ : all_differ nat_eq (map (λ load. load.table) loads) ≡ true

-- behind the tables, before the first session
pub record Loaded (l : Limits) (ts : List TableDef) (loaded : List Load) (kept : List (List Work)) (count : ℕ) : Type 0 where
  pub limits : AreLimits l
  pub tables : TablesSound ts
  pub some : 0 < length ts
  pub loads : LoadsSound ts loaded
  pub sessions : kept ≡ []
  pub works : count ≡ 0

abbrev pub Loading : Draft → Type 0
Loading d = Loaded d.limits d.tables d.loads d.sessions d.works

-- the key of the last row, if there is a row
abbrev pub LastKey : Option (List ℕ) → List (List ℕ) → Type 0
LastKey None [] = Unit {0}
LastKey None (key ∷ keys) = ⊥
LastKey (Some last) [] = ⊥
LastKey (Some last) (key ∷ keys) = last ≡ last_of key keys

-- the LOAD that is being read, and the kinds of its rows
pub record InLoad (tables : List TableDef) (loads : List Load) (load : NewLoad) (purpose : RowOf) (columns : Option (List ColumnKind)) : Type 0 where
  pub place : ℕ
  pub named : load.table ≡ Some place
  pub table : TableDef
  pub there : slice_get tables place ≡ Some table
  pub new : list_any (λ (l : Load). nat_eq place l.table) loads ≡ false
  pub of : purpose ≡ row_of.Load
  pub kinds : columns ≡ Some (kinds table)
  pub rows : AllByRecursion (IsRow table) load.rows
  pub rise : Rise (map (key_of table) load.rows)
  pub last : LastKey load.last (map (key_of table) load.rows)
  pub checks : AllByRecursion (λ row. first_failing table.checks row ≡ None) load.rows

abbrev pub InLoadOf : Draft → Type 0
InLoadOf d = InLoad d.tables d.loads d.load d.row.of d.row.kinds

-- ---- sessions

abbrev pub WorkSound : List TableDef → Work → Type 0
WorkSound tables work = AllByRecursion (IsStatement tables) work.statements

-- between two sessions; every work was counted
pub record Sessioned (l : Limits) (ts : List TableDef) (loaded : List Load) (kept : List (List Work)) (count : ℕ) : Type 0 where
  pub limits : AreLimits l
  pub tables : TablesSound ts
  pub some : 0 < length ts
  pub loads : LoadsSound ts loaded
  pub few : length kept ≤ 8
  pub some_works : AllByRecursion (λ works. 0 < length works) kept
  pub counted : sum_by (λ works. length works) kept ≤ count
  pub within : count * (l.restart + 1) ≤ 1000
  pub statements : AllByRecursion (λ works. AllByRecursion (WorkSound ts) works) kept

abbrev pub Between : Draft → Type 0
Between d = Sessioned d.limits d.tables d.loads d.sessions d.works

-- in a session with these works, behind which so many more have begun
pub record InSession (l : Limits) (ts : List TableDef) (loaded : List Load) (kept : List (List Work)) (session : List Work) (count more : ℕ) : Type 0 where
  pub limits : AreLimits l
  pub tables : TablesSound ts
  pub some : 0 < length ts
  pub loads : LoadsSound ts loaded
  pub few : length kept < 8
  pub some_works : AllByRecursion (λ works. 0 < length works) kept
  pub counted : sum_by (λ works. length works) kept + length session + more ≤ count
  pub within : count * (l.restart + 1) ≤ 1000
  pub statements : AllByRecursion (λ works. AllByRecursion (WorkSound ts) works) kept
  pub works : AllByRecursion (WorkSound ts) session

abbrev pub Working : ℕ → Draft → Type 0
Working more d = InSession d.limits d.tables d.loads d.sessions d.session d.works more

-- in a work with these statements
abbrev pub Stating : Draft → Type 0
Stating d = Working 1 d × AllByRecursion (IsStatement d.tables) d.work

-- the table of a statement is known, and the names of its expressions are columns of it
pub record OnTable (ts : List TableDef) (named_table : Option ℕ) (names : Scope) : Type 0 where
  pub place : ℕ
  pub named : named_table ≡ Some place
  pub table : TableDef
  pub there : slice_get ts place ≡ Some table
  pub scope : names ≡ scope.Table place

abbrev pub Known : Draft → Type 0
Known d = OnTable d.tables d.statement.table d.scope

-- the assignments so far, whose columns and code were counted
pub record SetsSound (table : TableDef) (sets : List Assign) (places : List ℕ) (code_bytes : ℕ) : Type 0 where
  pub each : AllByRecursion (IsAssign table) sets
  pub columns : map (λ set. set.column) sets ≡ places
  pub differ : all_differ nat_eq places ≡ true
  pub code : code_bytes ≡ min 8193 (length (sets_code sets))
