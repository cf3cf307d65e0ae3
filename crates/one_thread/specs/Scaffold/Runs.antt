-- What transactions come to.
use Rattle.std.specs.Prelude.{◌≡◌, ℕ, List}
use Rattle.sql_base.specs.declared.scripts.Work.{Work}
use Rattle.sql_base.specs.declared.tables.TableDef.{TableDef}
use Rattle.one_thread.specs.Answer.{outcome_of}
use Rattle.one_thread.specs.One.{run_work}
use Rattle.one_thread.specs.Scaffold.Worlds.{world_of, Settled}
use Rattle.one_thread.specs.declared.cells.Cell.{Cell}
use Rattle.one_thread.specs.declared.transactions.Run.{Run}

-- the transaction from the old world to the new one, its commit with this stamp
pub record RunsWork (tables : List TableDef) (work : Work) (stamp : ℕ) (old new : List (List Cell)) (run : Run) : Type 0 where
  pub outcome : run.outcome ≡ outcome_of stamp (run_work (world_of tables old) work).ending
  pub given : run.given ≡ (run_work (world_of tables old) work).given
  pub world : world_of tables new ≡ (run_work (world_of tables old) work).world
  pub settled : Settled tables new
