-- The records of a table while a transaction runs.
use Rattle.std.specs.Prelude.{◌≡◌, ℕ, List, length, map, Option, Some, None, IfSome, Bool, true, false}
use Rattle.std.specs.List.{AllByRecursion, filter_map}
use Rattle.sql_base.specs.Keys.{Rise}
use Rattle.sql_base.specs.Rows.{key_of}
use Rattle.sql_base.specs.declared.tables.TableDef.{TableDef}
use Rattle.sql_base.specs.declared.values.Value.{Value}
use Rattle.one_thread.specs.One.{Records}
use Rattle.one_thread.specs.declared.cells.Before.{Before}
use Rattle.one_thread.specs.declared.cells.Before.TheVariants.{Same, Was, Absent}
use Rattle.one_thread.specs.declared.cells.Cell.{Cell}

-- what stands at a key now, and what stood there before the transaction
abbrev pub now_of : Cell → Option (List Value)
now_of cell = cell.row

abbrev pub old_row : Option (List Value) → Before → Option (List Value)
old_row now Same = now
old_row now (Was row) = Some row
old_row now Absent = None

abbrev pub before_of : Cell → Option (List Value)
before_of cell = old_row cell.row cell.before

abbrev pub nows : List Cell → Records
nows cells = filter_map now_of cells

abbrev pub befores : List Cell → Records
befores cells = filter_map before_of cells

abbrev pub kept : Option (List Value) → Before → Before
kept (Some row) Same = Was row
kept None Same = Absent
kept now (Was row) = Was row
kept now Absent = Absent

-- the cell with this record from now on
abbrev pub replaced : Cell → Option (List Value) → Cell
replaced cell row = record { key = cell.key; row = row; before = kept cell.row cell.before }

-- the cell at the end of the transaction
abbrev pub ended : Bool → Cell → Cell
ended true cell = record { key = cell.key; row = cell.row; before = Same }
ended false cell = record { key = cell.key; row = before_of cell; before = Same }

-- a row with this key, and with a value for each column
abbrev pub IsKeyed : TableDef → List ℕ → List Value → Type 0
IsKeyed table key row = (key_of table row ≡ key) × (length row ≡ length table.columns)

-- the keys rise, and these rows of the cells have them
pub record AreCells (table : TableDef) (row_of : Cell → Option (List Value)) (cells : List Cell) : Type 0 where
  pub rise : Rise (map (λ cell. cell.key) cells)
  pub keyed : AllByRecursion (λ cell. IfSome (row_of cell) (IsKeyed table cell.key)) cells
