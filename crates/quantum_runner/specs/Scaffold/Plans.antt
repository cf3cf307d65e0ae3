-- The changes of a quantum, judged before the first of them is made.
use Rattle.std.specs.Prelude.{◌≡◌, ◌≤◌, ℕ, List, [], ◌∷◌, length, take, filter_map, Option, Some, None, option_map}
use Rattle.sql_base.specs.Locks.{granted}
use Rattle.sql_base.specs.declared.faults.Cause.{Cause}
use Rattle.sql_base.specs.declared.lock_names.Lock.{Lock}
use Rattle.sql_base.specs.declared.lock_names.Mode.TheVariants.{X}
use Rattle.sql_base.specs.declared.lock_names.TxnName.{TxnName}
use Rattle.sql_base.specs.declared.scripts.Limits.{Limits}
use Rattle.sql_base.specs.declared.tables.TableDef.{TableDef}
use Rattle.key_sequenced.specs.Files.{rewritten_at}
use Rattle.key_sequenced.specs.declared.Cell.{Cell}
use Rattle.subset_blocks.specs.declared.Block.{Block}
use Rattle.quantum_core.specs.Quantum.{Handled, change_of, quantum, refusal, visits}
use Rattle.quantum_core.specs.Verdicts.{Judged, judged}
use Rattle.quantum_core.specs.declared.replies.QuantumReply.{QuantumReply}
use Rattle.quantum_core.specs.declared.replies.QuantumReply.TheVariants.{Redrive}
use Rattle.quantum_core.specs.declared.verdicts.Verdict.{Verdict}
use Rattle.quantum_core.specs.declared.works.SetWork.{SetWork}
use Rattle.quantum_runner.specs.declared.planned.Planned.{Planned}
use Rattle.quantum_runner.specs.declared.planned.Walk.{Walk}

abbrev pub x_on : TxnName → List ℕ → Lock
x_on t key = record { holder = t; prefix = key; mode = X }

-- the change that a verdict makes of a record, if it makes one
abbrev pub plan_of : TxnName → List ℕ → Verdict → Option Planned
plan_of t key verdict = option_map (λ now. record { lock = x_on t key; now = now }) (change_of verdict)

abbrev pub plans_of : TxnName → List Judged → List Planned
plans_of t js = filter_map (λ j. plan_of t j.key j.verdict) js

-- the changes made one after the other
abbrev pub rewritten_by : List Planned → List Cell → List Cell
rewritten_by [] cells = cells
rewritten_by (p ∷ plans) cells = rewritten_by plans (rewritten_at p.lock.holder p.lock.prefix p.now cells)

abbrev pub granted_by : List Planned → List Lock → List Lock
granted_by [] locks = locks
granted_by (p ∷ plans) locks = granted_by plans (granted p.lock locks)

-- the reply where a candidate is left, by what a walk keeps
abbrev pub halted : Option (List ℕ) → Cause → Judged → List (List ℕ) → ℕ → QuantumReply
halted (Some last) cause next rows changed = Redrive last cause rows changed
halted None cause next rows changed = refusal next.key next.verdict

-- the candidates that a quantum handles
abbrev pub handled_by : Limits → TableDef → List Cell → List Lock → Block SetWork → List Judged
handled_by limits table cells locks block = let js = judged table locks block cells in take (visits limits js) js

-- a walk gives the reply of the quantum, and its changes
pub record IsWalk (limits : Limits) (table : TableDef) (cells : List Cell) (locks : List Lock) (block : Block SetWork) (walk : Walk) : Type 0 where
  pub reply : walk.reply ≡ (quantum limits table cells locks block).reply
  pub plans : walk.plans ≡ plans_of block.holder (handled_by limits table cells locks block)
  pub few : length walk.plans ≤ limits.quantum

-- a reply with the cells and locks of a store
abbrev pub left_with : QuantumReply → List Cell → List Lock → Handled
left_with reply cells locks = record { reply = reply; cells = cells; locks = locks }
