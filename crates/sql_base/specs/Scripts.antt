-- The rules that a script meets.
use Rattle.std.specs.Prelude.{◌≡◌, ◌≤◌, ◌<◌, ℕ, ◌+◌, ◌*◌, List, length, map, sum_by, nat_eq, Some, None, slice_get, true}
use Rattle.std.specs.List.{AllByRecursion}
use Rattle.std.specs.Str.{bytes_eq}
use Rattle.sql_base.specs.Rows.{AreRecords}
use Rattle.sql_base.specs.OnRows.{first_failing}
use Rattle.sql_base.specs.Tables.{all_differ, IsTable, IsStatement}
use Rattle.sql_base.specs.declared.scripts.Limits.{Limits}
use Rattle.sql_base.specs.declared.scripts.Load.{Load}
use Rattle.sql_base.specs.declared.scripts.Script.{Script}
use Rattle.sql_base.specs.declared.tables.TableDef.{TableDef}

-- the number lies from low to high
abbrev pub Lies : ℕ → ℕ → ℕ → Type 0
Lies low high n = (low ≤ n) × (n ≤ high)

pub record AreLimits (limits : Limits) : Type 0 where
  pub quantum : Lies 1 1000 limits.quantum
  pub buffer : Lies 320 32768 limits.buffer
  pub patience : limits.patience ≤ 100
  pub servers : Lies 1 4 limits.servers
  pub restart : limits.restart ≤ 10

-- how many partitions the tables have together
abbrev pub parts_of : List TableDef → ℕ
parts_of tables = sum_by (λ table. length table.firsts + 1) tables

-- records of their table that meet its CHECKs
abbrev pub IsLoad : List TableDef → Load → Type 0
IsLoad tables load =
    (table : TableDef) × (slice_get tables load.table ≡ Some table) × (0 < length load.rows)
    × AreRecords table load.rows × AllByRecursion (λ row. first_failing table.checks row ≡ None) load.rows

-- a script that may run, whatever the number of its bytes, records and statements
pub record IsScript (script : Script) : Type 0 where
  pub limits : AreLimits script.limits
  pub some_tables : Lies 1 4 (length script.tables)
  pub tables : AllByRecursion IsTable script.tables
  pub names_differ : all_differ bytes_eq (map (λ table. table.name) script.tables) ≡ true
  pub parts : parts_of script.tables ≤ 16
  pub loads : AllByRecursion (IsLoad script.tables) script.loads
  pub loads_differ : all_differ nat_eq (map (λ load. load.table) script.loads) ≡ true
  pub some_sessions : Lies 1 8 (length script.sessions)
  pub some_works : AllByRecursion (λ works. 0 < length works) script.sessions
  pub works : sum_by (λ works. length works) script.sessions * (script.limits.restart + 1) ≤ 1000
  pub statements : AllByRecursion (λ works. AllByRecursion (λ work. AllByRecursion (IsStatement script.tables) work.statements) works) script.sessions
