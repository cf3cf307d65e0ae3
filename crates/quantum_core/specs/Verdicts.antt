-- The candidates of a quantum, and the verdict on each.
use Rattle.std.specs.Prelude.{ℕ, List, filter, map, Option, Some, None, Bool, true, false, not, ◌&&◌, Result, Ok, Err}
use Rattle.sql_base.specs.Keys.{is_from, key_le}
use Rattle.sql_base.specs.Rows.{packed}
use Rattle.sql_base.specs.Val.{Outcome, filter_val, IsTruth}
use Rattle.sql_base.specs.OnRows.{fault_of, updated, first_failing}
use Rattle.sql_base.specs.Locks.{first_conflict, same_txn}
use Rattle.sql_base.specs.declared.faults.EvalFault.{EvalFault}
use Rattle.sql_base.specs.declared.faults.Fault.{Fault}
use Rattle.sql_base.specs.declared.lock_names.Access.{Access}
use Rattle.sql_base.specs.declared.lock_names.Access.TheVariants.{Browse}
use Rattle.sql_base.specs.declared.lock_names.Lock.{Lock}
use Rattle.sql_base.specs.declared.lock_names.Mode.TheVariants as mode
use Rattle.sql_base.specs.declared.lock_names.TxnName.{TxnName}
use Rattle.sql_base.specs.declared.tables.TableDef.{TableDef}
use Rattle.sql_base.specs.declared.values.Value.{Value}
use Rattle.key_sequenced.specs.declared.Cell.{Cell}
use Rattle.subset_blocks.specs.declared.Block.{Block}
use Rattle.quantum_core.specs.declared.works.SetWork.{SetWork}
use Rattle.quantum_core.specs.declared.works.Doing.{Doing}
use Rattle.quantum_core.specs.declared.works.Doing.TheVariants.{Read, Update, Delete}
use Rattle.quantum_core.specs.declared.verdicts.Effect.TheVariants.{Gives, Becomes, Goes}
use Rattle.quantum_core.specs.declared.verdicts.Verdict.{Verdict}
use Rattle.quantum_core.specs.declared.verdicts.Verdict.TheVariants.{Blocked, Faulty, PassedOver, Selected}

-- whether the transaction doesn't see a deleted cell: its own one, and under BROWSE any
abbrev pub hides : Access → TxnName → Option TxnName → Bool
hides Browse t writer = true
hides access t (Some writer) = same_txn writer t
hides access t None = false

abbrev pub is_hidden : Block SetWork → Cell → Option (List Value) → Bool
is_hidden block cell (Some row) = false
is_hidden block cell None = hides block.access block.holder cell.writer

-- the cells from the start of the block to its high key, in key order, without those that its transaction doesn't see
abbrev pub is_candidate : Block SetWork → Cell → Bool
is_candidate block cell = is_from block.start cell.key && (key_le cell.key block.high && not (is_hidden block cell cell.now))

abbrev pub candidates : Block SetWork → List Cell → List Cell
candidates block cells = filter (is_candidate block) cells

abbrev pub unless_blocked : Option Lock → Verdict → Verdict
unless_blocked (Some lock) verdict = Blocked lock
unless_blocked None verdict = verdict

-- the new row has to meet the CHECKs
abbrev pub if_kept : List Value → Option Fault → Verdict
if_kept row None = Selected (Becomes row)
if_kept row (Some fault) = Faulty fault

abbrev pub on_new_row : TableDef → Result (List Value) EvalFault → Verdict
on_new_row table (Ok row) = if_kept row (first_failing table.checks row)
on_new_row table (Err fault) = Faulty (fault_of fault)

-- a change also gives way to any lock of another
abbrev pub on_met : TableDef → List Lock → Block SetWork → List ℕ → List Value → Doing → Verdict
on_met table locks block key row (Read columns) = Selected (Gives (packed columns row))
on_met table locks block key row (Update sets) = unless_blocked (first_conflict locks block.holder key mode.X) (on_new_row table (updated table sets row))
on_met table locks block key row Delete = unless_blocked (first_conflict locks block.holder key mode.X) (Selected Goes)

abbrev pub on_predicate : Verdict → Outcome → Verdict
on_predicate met (Err fault) = Faulty (fault_of fault)
on_predicate met (Ok (IsTruth true)) = met
on_predicate met (Ok item) = PassedOver

abbrev pub on_row : TableDef → List Lock → Block SetWork → List ℕ → Option (List Value) → Verdict
on_row table locks block key (Some row) = on_predicate (on_met table locks block key row block.work.doing) (filter_val block.work.filter row)
-- never: the X of its writer blocks a deleted cell
on_row table locks block key None = PassedOver

-- an X of another transaction on the record, at which all but BROWSE stop
abbrev pub barrier : Access → List Lock → TxnName → List ℕ → Option Lock
barrier Browse locks t key = None
barrier access locks t key = first_conflict locks t key mode.S

-- the verdict on a candidate: the first that applies
abbrev pub verdict : TableDef → List Lock → Block SetWork → Cell → Verdict
verdict table locks block cell = unless_blocked (barrier block.access locks block.holder cell.key) (on_row table locks block cell.key cell.now)

-- a candidate's key with the verdict on it
pub record Judged : Type 0 where
  pub key : List ℕ
  pub verdict : Verdict

abbrev pub judged : TableDef → List Lock → Block SetWork → List Cell → List Judged
judged table locks block cells = map (λ cell. record { key = cell.key; verdict = verdict table locks block cell }) (candidates block cells)
