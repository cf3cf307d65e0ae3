-- The cells that the LOAD rows make.
use Rattle.std.specs.Prelude.{◌≡◌, ℕ, List, map, take, Some}
use Rattle.std.specs.List.{AllByRecursion, range_with_len}
use Rattle.sql_base.specs.Rows.{key_of, IsRow}
use Rattle.sql_base.specs.declared.scripts.Load.{Load}
use Rattle.sql_base.specs.declared.scripts.Script.{Script}
use Rattle.sql_base.specs.declared.tables.TableDef.{TableDef}
use Rattle.sql_base.specs.declared.values.Value.{Value}
use Rattle.one_thread.specs.Scaffold.Cells.{nows}
use Rattle.one_thread.specs.One.{load_rows}
use Rattle.one_thread.specs.Scaffold.Worlds.{Settled}
use Rattle.one_thread.specs.declared.cells.Before.TheVariants.{Same}
use Rattle.one_thread.specs.declared.cells.Cell.{Cell}

abbrev pub cell_of : TableDef → List Value → Cell
cell_of table row = record { key = key_of table row; row = Some row; before = Same }

-- if the load is of the table at this place, it has rows of the table
abbrev pub Fit : TableDef → ℕ → Load → Type 0
Fit table place load = load.table ≡ place → AllByRecursion (IsRow table) load.rows

-- the first so many tables of the script, loaded
pub record Opens (script : Script) (count : ℕ) (world : List (List Cell)) : Type 0 where
  pub records : map nows world ≡ map (load_rows script.loads) (range_with_len 0 count)
  pub settled : Settled (take count script.tables) world
