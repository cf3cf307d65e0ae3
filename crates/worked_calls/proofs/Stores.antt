-- A store of one record, and a work that deletes all records.
use Rattle.std.proofs.Common.{◌≡◌, ℕ, List, [], None, sym, subst}
use Rattle.std.specs.Prelude.{All}
use Rattle.std.proofs.lemmas.List.Elements.{All-from_recursion}
use Rattle.sql_base.specs.Rows.{IsRow}
use Rattle.sql_base.specs.Tables.{IsFilter}
use Rattle.sql_base.specs.declared.lock_names.TxnName.{TxnName}
use Rattle.sql_base.specs.declared.tables.TableDef.{TableDef}
use Rattle.sql_base.specs.declared.values.Value.{Value}
use Rattle.key_sequenced.specs.Cells.{inserted}
use Rattle.quantum_core.specs.declared.works.Doing.TheVariants as doing
use Rattle.quantum_core.specs.declared.works.SetWork.{SetWork}
use Rattle.quantum_runner.specs.Scaffold.Works.{HoldsRow, IsDoing, IsWork}

-- the cell of a row that was inserted into an empty file holds a row of its table
pub holds_one : (table : TableDef) (t : TxnName) (key : List ℕ) (row : List Value) → IsRow table row → All (HoldsRow table) (inserted t key row [])
holds_one table t key row is = All-from_recursion (HoldsRow table) (inserted t key row []) ((λ r same. subst (IsRow table) (cc same) is), tt)

-- a work that deletes all records is one of any table
pub is_delete : (table : TableDef) (work : SetWork) → work.filter ≡ None → work.doing ≡ doing.Delete → IsWork table work
is_delete table work all deletes = record { filter = subst (IsFilter table) (sym all) tt; doing = subst (IsDoing table) (sym deletes) tt }
