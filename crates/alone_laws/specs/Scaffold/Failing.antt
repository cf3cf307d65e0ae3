-- How a statement fails in a partition.
use Rattle.one_thread.specs.One.{statement_fault}
use Rattle.std.specs.Prelude.{◌≡◌, ℕ, List, ◌∷◌, ◌++◌, Some, filter, ◌&&◌}
use Rattle.std.specs.List.{AllByRecursion}
use Rattle.sql_base.specs.Keys.{is_from, key_le}
use Rattle.sql_base.specs.declared.faults.Fault.{Fault}
use Rattle.sql_base.specs.declared.key_ranges.Start.{Start}
use Rattle.sql_base.specs.declared.statements.Statement.{Statement}
use Rattle.sql_base.specs.declared.tables.TableDef.{TableDef}
use Rattle.key_sequenced.specs.Cells.{Keyed}
use Rattle.run_record.specs.Tiles.{FaultFree}

-- among the records of a span, this is the first that faults
pub record Fails (table : TableDef) (statement : Statement) (start : Start) (high : List ℕ) (held : List Keyed) (key : List ℕ) (fault : Fault) : Type 0 where
  pub front : List Keyed
  pub first : Keyed
  pub back : List Keyed
  pub span : filter (λ k. is_from start k.key && key_le k.key high) held ≡ front ++ first ∷ back
  pub fine : AllByRecursion (FaultFree table statement) front
  pub key_is : first.key ≡ key
  pub faults : statement_fault table statement first.row ≡ Some fault
