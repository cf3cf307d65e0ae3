-- What one statement comes to at the cells of its table.
use Rattle.std.specs.Prelude.{◌≡◌, ℕ, List, Option, Result, Ok, Err}
use Rattle.sql_base.specs.declared.expressions.Expr.{Expr}
use Rattle.sql_base.specs.declared.lock_names.Access.{Access}
use Rattle.sql_base.specs.declared.outcomes.Abort.{Abort}
use Rattle.sql_base.specs.declared.outcomes.Given.{Given}
use Rattle.sql_base.specs.declared.statements.Statement.{Statement}
use Rattle.sql_base.specs.declared.statements.Statement.TheVariants.{Update, Delete, Select}
use Rattle.sql_base.specs.declared.tables.TableDef.{TableDef}
use Rattle.one_thread.specs.Scaffold.Cells.{before_of, befores, now_of, nows, AreCells}
use Rattle.one_thread.specs.One.{one_on}
use Rattle.one_thread.specs.declared.cells.Cell.{Cell}

-- an UPDATE or a DELETE
abbrev pub Changing : Statement → Type 0
Changing (Update t sets predicate access) = Unit {0}
Changing (Delete t predicate access) = Unit {0}
Changing other = ⊥

-- the records from before the transaction stay
pub record Restorable (table : TableDef) (old new : List Cell) : Type 0 where
  pub before : befores new ≡ befores old
  pub keeps : AreCells table before_of old → AreCells table before_of new

-- the statement gives this, or aborts
abbrev pub Does : TableDef → Statement → List Cell → List Cell → Result Given Abort → Type 0
Does table s old new (Ok given) = (one_on table s (nows old) ≡ record { given = Ok given; records = nows new }) × AreCells table now_of new × Restorable table old new
Does table s old new (Err abort) = ((one_on table s (nows old)).given ≡ Err abort) × Restorable table old new

-- what a SELECT of these columns comes to
abbrev pub Selects : TableDef → List ℕ → Option Expr → List Cell → Result Given Abort → Type 0
Selects table columns predicate cells came =
    (t : ℕ) (access : Access) → one_on table (Select t columns predicate access) (nows cells) ≡ record { given = came; records = nows cells }
