-- The records of all tables while a transaction runs.
use Rattle.std.specs.Prelude.{◌≡◌, List, [], ◌∷◌, map, Option, Result, Ok, Err}
use Rattle.sql_base.specs.declared.outcomes.Abort.{Abort}
use Rattle.sql_base.specs.declared.outcomes.Given.{Given}
use Rattle.sql_base.specs.declared.statements.Statement.{Statement}
use Rattle.sql_base.specs.declared.tables.TableDef.{TableDef}
use Rattle.sql_base.specs.declared.values.Value.{Value}
use Rattle.one_thread.specs.Scaffold.Cells.{before_of, befores, now_of, nows, AreCells}
use Rattle.one_thread.specs.One.{one, World}
use Rattle.one_thread.specs.declared.cells.Cell.{Cell}

-- the tables with their records now
abbrev pub world_of : List TableDef → List (List Cell) → World
world_of tables world = record { tables = tables; records = map nows world }

-- the cells of each table have its keys
abbrev pub AreAll : (Cell → Option (List Value)) → List TableDef → List (List Cell) → Type 0
AreAll row_of [] [] = Unit {0}
AreAll row_of (table ∷ tables) (cells ∷ world) = AreCells table row_of cells × AreAll row_of tables world
AreAll row_of tables world = ⊥

-- the records from before the transaction stay
pub record Keeps (tables : List TableDef) (old new : List (List Cell)) : Type 0 where
  pub before : map befores new ≡ map befores old
  pub keeps : AreAll before_of tables old → AreAll before_of tables new

-- what a statement comes to
abbrev pub Moves : List TableDef → Statement → List (List Cell) → List (List Cell) → Result Given Abort → Type 0
Moves tables s old new (Ok given) = (one (world_of tables old) s ≡ (Ok given, world_of tables new)) × AreAll now_of tables new × Keeps tables old new
Moves tables s old new (Err abort) = ((one (world_of tables old) s).0 ≡ Err abort) × Keeps tables old new

-- no transaction runs
pub record Settled (tables : List TableDef) (world : List (List Cell)) : Type 0 where
  pub now : AreAll now_of tables world
  pub before : AreAll before_of tables world
  pub same : map befores world ≡ map nows world
