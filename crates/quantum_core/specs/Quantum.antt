-- One quantum of a block.
use Rattle.std.specs.Prelude.{ℕ, zero, suc, ◌+◌, ◌==◌, nat_le, min, List, [], ◌∷◌, length, take, drop, map, filter_map, sum_by, count_by, Option, Some, None, Bool, true, false, ◌&&◌, if◌then◌else◌}
use Rattle.std.specs.List.{list_all}
use Rattle.sql_base.specs.Keys.{key_eq}
use Rattle.sql_base.specs.Locks.{granted}
use Rattle.sql_base.specs.declared.faults.Cause.{Cause}
use Rattle.sql_base.specs.declared.faults.Cause.TheVariants as cause
use Rattle.sql_base.specs.declared.faults.Fault.TheVariants as fault
use Rattle.sql_base.specs.declared.lock_names.Lock.{Lock}
use Rattle.sql_base.specs.declared.lock_names.Mode.TheVariants.{X}
use Rattle.sql_base.specs.declared.lock_names.TxnName.{TxnName}
use Rattle.sql_base.specs.declared.scripts.Limits.{Limits}
use Rattle.sql_base.specs.declared.tables.TableDef.{TableDef}
use Rattle.sql_base.specs.declared.values.Value.{Value}
use Rattle.key_sequenced.specs.Cells.{rewritten}
use Rattle.key_sequenced.specs.declared.Cell.{Cell}
use Rattle.subset_blocks.specs.declared.Block.{Block}
use Rattle.quantum_core.specs.Verdicts.{Judged, judged}
use Rattle.quantum_core.specs.declared.works.SetWork.{SetWork}
use Rattle.quantum_core.specs.declared.replies.QuantumReply.{QuantumReply}
use Rattle.quantum_core.specs.declared.replies.QuantumReply.TheVariants.{Ended, Redrive, Locked, Failed}
use Rattle.quantum_core.specs.declared.verdicts.Effect.TheVariants.{Gives, Becomes, Goes}
use Rattle.quantum_core.specs.declared.verdicts.Verdict.{Verdict}
use Rattle.quantum_core.specs.declared.verdicts.Verdict.TheVariants.{Blocked, Faulty, PassedOver, Selected}

-- neither blocked nor at fault
abbrev pub lets_on : Verdict → Bool
lets_on (Blocked lock) = false
lets_on (Faulty fault) = false
lets_on PassedOver = true
lets_on (Selected effect) = true

-- the packed row of a selected record that is read
abbrev pub row_of : Verdict → Option (List ℕ)
row_of (Selected (Gives row)) = Some row
row_of verdict = None

abbrev pub rows_of : List Judged → List (List ℕ)
rows_of js = filter_map (λ j. row_of j.verdict) js

-- what a selected record that is changed becomes: a new row, or none
abbrev pub change_of : Verdict → Option (Option (List Value))
change_of (Selected (Becomes row)) = Some (Some row)
change_of (Selected Goes) = Some None
change_of verdict = None

abbrev pub is_change : Verdict → Bool
is_change verdict = is_there (change_of verdict)
  where
    is_there : Option (Option (List Value)) → Bool
    is_there None = false
    is_there (Some now) = true

-- none of them is blocked or faults, and their rows, each with 2 bytes more, fit the buffer
abbrev pub may_handle : Limits → List Judged → Bool
may_handle limits js = list_all (λ j. lets_on j.verdict) js && nat_le (sum_by (λ row. length row + 2) (rows_of js)) limits.buffer

-- the greatest number not above n that passes the test, or 0
abbrev pub greatest : (ℕ → Bool) → ℕ → ℕ
greatest test zero = zero
greatest test (suc n) = if test (suc n) then suc n else greatest test n

-- how many of the candidates the quantum handles
abbrev pub visits : Limits → List Judged → ℕ
visits limits js = greatest (λ m. may_handle limits (take m js)) (min limits.quantum (length js))

abbrev pub cause_at : Verdict → Cause
cause_at (Blocked lock) = cause.Lock
cause_at (Faulty fault) = cause.Fault
cause_at verdict = cause.Buffer

-- why it handled no more than these
abbrev pub cause_of : Limits → List Judged → Judged → Cause
cause_of limits handled next = if length handled == limits.quantum then cause.Visits else cause_at next.verdict

abbrev pub refusal : List ℕ → Verdict → QuantumReply
refusal key (Blocked lock) = Locked lock
refusal key (Faulty fault) = Failed key fault
-- never, since a first row fits the buffer; if it came, it would not pass for an end
refusal key verdict = Failed key fault.Overflow

abbrev pub last_key : List Judged → Option (List ℕ)
last_key [] = None
last_key (j ∷ []) = Some j.key
last_key (j ∷ k ∷ js) = last_key (k ∷ js)

-- a candidate is left: a redrive from the last key handled, or else the refusal of the first
abbrev pub stopped : Limits → List Judged → Judged → Option (List ℕ) → QuantumReply
stopped limits handled next (Some last) = Redrive last (cause_of limits handled next) (rows_of handled) (count_by (λ j. is_change j.verdict) handled)
stopped limits handled next None = refusal next.key next.verdict

-- the answer, by the candidates handled and those that are left
abbrev pub answer : Limits → List Judged → List Judged → QuantumReply
answer limits handled [] = Ended (rows_of handled) (count_by (λ j. is_change j.verdict) handled)
answer limits handled (next ∷ rest) = stopped limits handled next (last_key handled)

abbrev pub reply_to : Limits → List Judged → QuantumReply
reply_to limits js = let m = visits limits js in answer limits (take m js) (drop m js)

-- the change that was made at a key, if one was
abbrev pub change_at : List ℕ → List Judged → Option (Option (List Value))
change_at key [] = None
change_at key (j ∷ js) = if key_eq j.key key then change_of j.verdict else change_at key js

abbrev pub cell_after : TxnName → Option (Option (List Value)) → Cell → Cell
cell_after t (Some now) cell = rewritten t now cell
cell_after t None cell = cell

-- the handled records that were changed have their new rows; every other cell is as before
abbrev pub cells_after : TxnName → List Judged → List Cell → List Cell
cells_after t handled cells = map (λ cell. cell_after t (change_at cell.key handled) cell) cells

-- with an X on each changed key, unless an own lock covers it
abbrev pub locks_after : TxnName → List Judged → List Lock → List Lock
locks_after t [] locks = locks
locks_after t (j ∷ js) locks = locks_after t js (if is_change j.verdict then granted (record { holder = t; prefix = j.key; mode = X }) locks else locks)

-- what a quantum leaves
pub record Handled : Type 0 where
  pub reply : QuantumReply
  pub cells : List Cell
  pub locks : List Lock

-- one quantum of a block; all verdicts are taken in the state before it
abbrev pub quantum : Limits → TableDef → List Cell → List Lock → Block SetWork → Handled
quantum limits table cells locks block =
    let js = judged table locks block cells in
    let handled = take (visits limits js) js in
    record { reply = reply_to limits js; cells = cells_after block.holder handled cells; locks = locks_after block.holder handled locks }
