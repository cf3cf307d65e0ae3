-- What an INSERT comes to at the cells of its table.
use Rattle.std.specs.Prelude.{◌≡◌, ◌≤◌, ◌<◌, ◌++◌, ℕ, suc, List, ◌∷◌, length, map, take, drop, get_or, Option, Some, None, option_map, Bool, true, false, Result, Ok, Err}
use Rattle.std.specs.List.{AllByRecursion}
use Rattle.std.specs.Option.{is_some}
use Rattle.sql_base.specs.Keys.{key_lt}
use Rattle.sql_base.specs.OnRows.{first_failing}
use Rattle.sql_base.specs.Rows.{key_of}
use Rattle.sql_base.specs.declared.outcomes.Abort.{Abort}
use Rattle.sql_base.specs.declared.outcomes.Abort.TheVariants.{Faulted}
use Rattle.sql_base.specs.declared.tables.TableDef.{TableDef}
use Rattle.sql_base.specs.declared.values.Value.{Value}
use Rattle.one_thread.specs.Scaffold.Cells.{before_of, befores, now_of, nows, replaced, AreCells}
use Rattle.one_thread.specs.One.{duplicate, row_placed, sooner}
use Rattle.one_thread.specs.declared.cells.Before.TheVariants.{Absent}
use Rattle.one_thread.specs.declared.cells.Cell.{Cell}
use Rattle.one_thread.specs.declared.inserting.Spot.{Spot}
use Rattle.one_thread.specs.declared.inserting.Spot.TheVariants.{Taken, Empty, New}

-- all keys of the cells before are below the key, and those of the cells behind above it
abbrev pub Between : List ℕ → List Cell → List Cell → Type 0
Between key front behind = AllByRecursion (λ cell. key_lt cell.key key ≡ true) front × AllByRecursion (λ cell. key_lt key cell.key ≡ true) behind

-- the cell has the key, and a record or none
abbrev pub HasKey : List ℕ → Bool → Cell → Type 0
HasKey key full cell = (cell.key ≡ key) × (is_some cell.row ≡ full)

abbrev pub Finds : List ℕ → List Cell → Spot → Type 0
Finds key cells Taken = (at : ℕ) × (at < length cells) × ((d : Cell) → HasKey key true (get_or cells at d))
Finds key cells (Empty at) = (at < length cells) × ((d : Cell) → HasKey key false (get_or cells at d)) × Between key (take at cells) (drop (suc at) cells)
Finds key cells (New at) = (at ≤ length cells) × Between key (take at cells) (drop at cells)

-- the cells with the row put there
abbrev pub filled : List ℕ → List Value → Spot → List Cell → List Cell
filled key row Taken cells = cells
filled key row (Empty at) cells = take at cells ++ map (λ cell. replaced cell (Some row)) (take 1 (drop at cells)) ++ drop (suc at) cells
filled key row (New at) cells = take at cells ++ record { key = key; row = Some row; before = Absent } ∷ drop at cells

-- why the row can't be inserted
abbrev pub insert_abort : TableDef → List Value → List (List Value) → Option Abort
insert_abort table row rows = sooner (duplicate table row rows) (option_map (Faulted (key_of table row)) (first_failing table.checks row))

pub record Inserted (table : TableDef) (row : List Value) (old new : List Cell) : Type 0 where
  pub allowed : insert_abort table row (nows old) ≡ None
  pub rows : nows new ≡ row_placed table row (nows old)
  pub before : befores new ≡ befores old
  pub now : AreCells table now_of new
  pub keeps : AreCells table before_of old → AreCells table before_of new

abbrev pub Inserts : TableDef → List Value → List Cell → List Cell → Result (Unit {0}) Abort → Type 0
Inserts table row old new (Ok done) = Inserted table row old new
Inserts table row old new (Err abort) = (insert_abort table row (nows old) ≡ Some abort) × (new ≡ old)
