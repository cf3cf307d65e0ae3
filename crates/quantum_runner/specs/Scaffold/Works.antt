-- The work of a block at run time, and what it needs of its table.
use Rattle.std.specs.Prelude.{◌≡◌, ◌<◌, ℕ, List, length, Option, Some, None, Bool, true, false, Result, Ok, Err, All}
use Rattle.sql_base.specs.Locks.{first_conflict}
use Rattle.sql_base.specs.OnRows.{fault_of, updated}
use Rattle.sql_base.specs.Rows.{packed, IsRow}
use Rattle.sql_base.specs.Tables.{IsFilter, AreSets}
use Rattle.sql_base.specs.Val.{Outcome, IsTruth}
use Rattle.sql_base.specs.declared.faults.Fault.{Fault}
use Rattle.sql_base.specs.declared.lock_names.Lock.{Lock}
use Rattle.sql_base.specs.declared.lock_names.Mode.TheVariants as mode
use Rattle.sql_base.specs.declared.lock_names.TxnName.{TxnName}
use Rattle.sql_base.specs.declared.tables.TableDef.{TableDef}
use Rattle.sql_base.specs.declared.values.Value.{Value}
use Rattle.key_sequenced.specs.declared.Cell.{Cell}
use Rattle.quantum_core.specs.Verdicts.{on_new_row}
use Rattle.quantum_core.specs.declared.works.SetWork.{SetWork}
use Rattle.quantum_core.specs.declared.works.Doing.{Doing}
use Rattle.quantum_core.specs.declared.works.Doing.TheVariants as doing
use Rattle.quantum_core.specs.declared.verdicts.Effect.TheVariants.{Gives, Goes}
use Rattle.quantum_core.specs.declared.verdicts.Verdict.{Verdict}
use Rattle.quantum_core.specs.declared.verdicts.Verdict.TheVariants.{Selected}
use Rattle.quantum_runner.specs.declared.works.Task.{Task}
use Rattle.quantum_runner.specs.declared.works.Task.TheVariants.{Read, Update, Delete}

abbrev pub doing_in : Task → Doing
doing_in (Read columns) = doing.Read columns
doing_in (Update sets) = doing.Update sets
doing_in Delete = doing.Delete

-- what is done with the records is of the table
abbrev pub IsDoing : TableDef → Doing → Type 0
IsDoing table (doing.Read columns) = All (λ c. c < length table.columns) columns
IsDoing table (doing.Update sets) = AreSets table sets
IsDoing table doing.Delete = Unit {0}

-- filter and doing are of the table
pub record IsWork (table : TableDef) (work : SetWork) : Type 0 where
  pub filter : IsFilter table work.filter
  pub doing : IsDoing table work.doing

-- the row that stands is of the table
abbrev pub HoldsRow : TableDef → Cell → Type 0
HoldsRow table cell = (row : List Value) → cell.now ≡ Some row → IsRow table row

-- whether a predicate of this outcome is met, or its fault
abbrev pub met_by : Outcome → Result Bool Fault
met_by (Err fault) = Err (fault_of fault)
met_by (Ok (IsTruth b)) = Ok b
met_by (Ok item) = Ok false

abbrev pub does_change : Doing → Bool
does_change (doing.Read columns) = false
does_change (doing.Update sets) = true
does_change doing.Delete = true

-- the lock of another at which a change of the record stops
abbrev pub bar_to_change : List Lock → TxnName → List ℕ → Doing → Option Lock
bar_to_change locks t key (doing.Read columns) = None
bar_to_change locks t key (doing.Update sets) = first_conflict locks t key mode.X
bar_to_change locks t key doing.Delete = first_conflict locks t key mode.X

-- the verdict on a record that meets the predicate, where no lock stands against it
abbrev pub effect_on : TableDef → Doing → List Value → Verdict
effect_on table (doing.Read columns) row = Selected (Gives (packed columns row))
effect_on table (doing.Update sets) row = on_new_row table (updated table sets row)
effect_on table doing.Delete row = Selected Goes
