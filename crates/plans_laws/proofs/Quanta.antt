-- What a quantum replies can be spelled.
use Rattle.std.proofs.Common.{◌≡◌, ◌≤◌, ◌+◌, ℕ, zero, suc, List, [], ◌∷◌, length, take, drop, Bool, true, false, Option, Some, None, Result, Ok, Err, min, refl, subst, arith}
use Rattle.std.specs.Prelude.{nat_le, sum_by, count_by}
use Rattle.std.specs.List.{AllByRecursion, list_all}
use Rattle.std.proofs.lemmas.Bool.{and_parts, cond_both, leb-true}
use Rattle.std.proofs.lemmas.List.{length-take-le}
use Rattle.std.proofs.lemmas.List.Sums.{count_by-le-length, sum_by-cons}
use Rattle.sql_base.specs.Locks.{conflicts, first_conflict}
use Rattle.sql_base.specs.OnRows.{failing_from, fault_of, first_failing, updated}
use Rattle.sql_base.specs.Scripts.{AreLimits}
use Rattle.sql_base.specs.Tables.{IsTable}
use Rattle.sql_base.specs.Val.{Outcome, IsNumber, IsText, IsTruth, IsNothing, filter_val, val}
use Rattle.sql_base.specs.declared.expressions.Expr.{Expr}
use Rattle.sql_base.specs.declared.faults.EvalFault.{EvalFault}
use Rattle.sql_base.specs.declared.faults.EvalFault.TheVariants as eval
use Rattle.sql_base.specs.declared.faults.Fault.{Fault}
use Rattle.sql_base.specs.declared.faults.Fault.TheVariants as fault
use Rattle.sql_base.specs.declared.lock_names.Access.{Access}
use Rattle.sql_base.specs.declared.lock_names.Access.TheVariants.{Browse, Stable, Repeatable}
use Rattle.sql_base.specs.declared.lock_names.Lock.{Lock}
use Rattle.sql_base.specs.declared.lock_names.Mode.{Mode}
use Rattle.sql_base.specs.declared.lock_names.Mode.TheVariants.{S, X}
use Rattle.sql_base.specs.declared.lock_names.TxnName.{TxnName}
use Rattle.sql_base.specs.declared.scripts.Limits.{Limits}
use Rattle.sql_base.specs.declared.tables.TableDef.{TableDef}
use Rattle.sql_base.specs.declared.values.Value.{Value}
use Rattle.key_sequenced.specs.declared.Cell.{Cell}
use Rattle.subset_blocks.specs.declared.Block.{Block}
use Rattle.quantum_core.specs.Quantum.{answer, is_change, greatest, last_key, may_handle, quantum, refusal, rows_of, stopped, visits}
use Rattle.quantum_core.specs.Verdicts.{Judged, barrier, candidates, is_candidate, judged, on_met, on_new_row, on_predicate, on_row, if_kept, unless_blocked, verdict}
use Rattle.quantum_core.specs.declared.replies.QuantumReply.{QuantumReply}
use Rattle.quantum_core.specs.declared.replies.QuantumReply.TheVariants as answers
use Rattle.quantum_core.specs.declared.verdicts.Effect.TheVariants.{Goes}
use Rattle.quantum_core.specs.declared.verdicts.Verdict.{Verdict}
use Rattle.quantum_core.specs.declared.verdicts.Verdict.TheVariants.{Blocked, Faulty, PassedOver, Selected}
use Rattle.quantum_core.specs.declared.works.Doing.{Doing}
use Rattle.quantum_core.specs.declared.works.Doing.TheVariants.{Read, Update, Delete}
use Rattle.quantum_core.specs.declared.works.SetWork.{SetWork}
use Rattle.dp_messages.specs.Spelling.{AreRowBytes, HasFour, IsFault, IsLock, IsLong, IsShort}
use Rattle.sql_base.proofs.ListSearches.{all-passing, find-some}
use Rattle.sql_base.proofs.ListFacts.{all-map, all-take}

-- a lock that stands
pub conflict-spelled : (locks : List Lock) (t : TxnName) (prefix : List ℕ) (mode : Mode) (lock : Lock) → AllByRecursion IsLock locks → first_conflict locks t prefix mode ≡ Some lock → IsLock lock
conflict-spelled locks t prefix mode lock h e = (find-some IsLock (conflicts (record { holder = t; prefix = prefix; mode = mode })) locks lock e h).1

-- the faults of values, and those of the first CHECKs
fault_of-spelled : (f : EvalFault) → IsFault (fault_of f)
fault_of-spelled eval.Overflow = tt
fault_of-spelled eval.ZeroDivide = tt

same_fault : (a b : Fault) → Some a ≡ Some b → IsFault a → IsFault b
same_fault a b e h = let same : a ≡ b = cc in subst IsFault same h

failing-spelled : (number : ℕ) (checks : List Expr) (row : List Value) (f : Fault) → number + length checks ≤ 100 → failing_from number checks row ≡ Some f → IsFault f
failing-spelled number [] row f few e = absurd (cc)
failing-spelled number (check ∷ checks) row f few e = by_outcome (λ g. failing-spelled (number + 1) checks row f (omega (arith, few)) g) (val check row) refl
  where
    by_outcome : (failing_from (number + 1) checks row ≡ Some f → IsFault f) → (o : Outcome) → val check row ≡ o → IsFault f
    by_outcome rest (Err x) is = let g : Some (fault_of x) ≡ Some f = rw is at e in same_fault (fault_of x) f g (fault_of-spelled x)
    by_outcome rest (Ok (IsTruth false)) is = let g : Some (fault.CheckFailed number) ≡ Some f = rw is at e in same_fault (fault.CheckFailed number) f g (omega (arith, few))
    by_outcome rest (Ok (IsTruth true)) is = rest (rw is at e)
    by_outcome rest (Ok (IsNumber n)) is = let g : Some (fault.CheckFailed number) ≡ Some f = rw is at e in same_fault (fault.CheckFailed number) f g (omega (arith, few))
    by_outcome rest (Ok (IsText text)) is = let g : Some (fault.CheckFailed number) ≡ Some f = rw is at e in same_fault (fault.CheckFailed number) f g (omega (arith, few))
    by_outcome rest (Ok IsNothing) is = let g : Some (fault.CheckFailed number) ≡ Some f = rw is at e in same_fault (fault.CheckFailed number) f g (omega (arith, few))

pub first_failing-spelled : (table : TableDef) (row : List Value) (f : Fault) → IsTable table → first_failing table.checks row ≡ Some f → IsFault f
first_failing-spelled table row f is e = failing-spelled 1 table.checks row f (omega (arith, is.few_checks)) e

-- what a verdict names
abbrev pub IsVerdict : Verdict → Type 0
IsVerdict (Blocked lock) = IsLock lock
IsVerdict (Faulty f) = IsFault f
IsVerdict PassedOver = Unit {0}
IsVerdict (Selected effect) = Unit {0}

abbrev pub IsJudged : Judged → Type 0
IsJudged j = IsShort j.key × IsVerdict j.verdict

unless_blocked-spelled : (o : Option Lock) (v : Verdict) → ((lock : Lock) → o ≡ Some lock → IsLock lock) → IsVerdict v → IsVerdict (unless_blocked o v)
unless_blocked-spelled (Some lock) v f h = f lock refl
unless_blocked-spelled None v f h = h

if_kept-spelled : (row : List Value) (o : Option Fault) → ((f : Fault) → o ≡ Some f → IsFault f) → IsVerdict (if_kept row o)
if_kept-spelled row None g = tt
if_kept-spelled row (Some f) g = g f refl

module _ (table : TableDef) (is : IsTable table) (locks : List Lock) (stand : AllByRecursion IsLock locks) (block : Block SetWork) where
  new_row-spelled : (r : Result (List Value) EvalFault) → IsVerdict (on_new_row table r)
  new_row-spelled (Ok row) = if_kept-spelled row (first_failing table.checks row) (λ f e. first_failing-spelled table row f is e)
  new_row-spelled (Err x) = fault_of-spelled x

  met-spelled : (key : List ℕ) (row : List Value) (d : Doing) → IsVerdict (on_met table locks block key row d)
  met-spelled key row (Read columns) = tt
  met-spelled key row (Update sets) =
      unless_blocked-spelled (first_conflict locks block.holder key X) (on_new_row table (updated table sets row)) (λ lock e. conflict-spelled locks block.holder key X lock stand e) (new_row-spelled (updated table sets row))
  met-spelled key row Delete = unless_blocked-spelled (first_conflict locks block.holder key X) (Selected Goes) (λ lock e. conflict-spelled locks block.holder key X lock stand e) tt

  predicate-spelled : (met : Verdict) (o : Outcome) → IsVerdict met → IsVerdict (on_predicate met o)
  predicate-spelled met (Err x) h = fault_of-spelled x
  predicate-spelled met (Ok (IsTruth true)) h = h
  predicate-spelled met (Ok (IsTruth false)) h = tt
  predicate-spelled met (Ok (IsNumber n)) h = tt
  predicate-spelled met (Ok (IsText text)) h = tt
  predicate-spelled met (Ok IsNothing) h = tt

  row-spelled : (key : List ℕ) (now : Option (List Value)) → IsVerdict (on_row table locks block key now)
  row-spelled key None = tt
  row-spelled key (Some row) = predicate-spelled (on_met table locks block key row block.work.doing) (filter_val block.work.filter row) (met-spelled key row block.work.doing)

  barrier-spelled : (access : Access) (key : List ℕ) (lock : Lock) → barrier access locks block.holder key ≡ Some lock → IsLock lock
  barrier-spelled Browse key lock e = absurd (cc)
  barrier-spelled Stable key lock e = conflict-spelled locks block.holder key S lock stand e
  barrier-spelled Repeatable key lock e = conflict-spelled locks block.holder key S lock stand e

  verdict-spelled : (cell : Cell) → IsVerdict (verdict table locks block cell)
  verdict-spelled cell = unless_blocked-spelled (barrier block.access locks block.holder cell.key) (on_row table locks block cell.key cell.now) (λ lock e. barrier-spelled block.access cell.key lock e) (row-spelled cell.key cell.now)

  pub judged-spelled : (cells : List Cell) → AllByRecursion (λ (cell : Cell). IsShort cell.key) cells → AllByRecursion IsJudged (judged table locks block cells)
  judged-spelled cells short =
      let judge : Cell → Judged = λ cell. record { key = cell.key; verdict = verdict table locks block cell } in
      all-map IsJudged judge (candidates block cells)
      (all-passing (λ (cell : Cell). IsShort cell.key) (λ (cell : Cell). IsJudged (judge cell)) (is_candidate block) cells (λ cell _ s. (s, verdict-spelled cell)) short)

-- rows that fit the buffer
abbrev room : List ℕ → ℕ
room row = length row + 2

few-rows : (rows : List (List ℕ)) → length rows ≤ sum_by room rows
few-rows [] = omega arith
few-rows (row ∷ rows) = omega (arith, sum_by-cons room row rows, few-rows rows)

short-rows : (buffer : ℕ) (rows : List (List ℕ)) → sum_by room rows ≤ buffer → AllByRecursion (λ row. length row ≤ buffer) rows
short-rows buffer [] le = tt
short-rows buffer (row ∷ rows) le = (omega (arith, le, sum_by-cons room row rows), short-rows buffer rows (omega (arith, le, sum_by-cons room row rows)))

all-long : (buffer : ℕ) (rows : List (List ℕ)) → buffer ≤ 32768 → AllByRecursion (λ row. length row ≤ buffer) rows → AllByRecursion IsLong rows
all-long buffer [] le h = tt
all-long buffer (row ∷ rows) le h = (omega (arith, le, h.0), all-long buffer rows le h.1)

-- none are handled, or those that are may be
greatest-passes : (test : ℕ → Bool) (n : ℕ) (P : ℕ → Type 0) → P 0 → ((m : ℕ) → m ≤ n → test m ≡ true → P m) → P (greatest test n)
greatest-passes test zero P none f = none
greatest-passes test (suc n) P none f =
    cond_both (test (suc n)) (suc n) (greatest test n) P (λ passes. f (suc n) (omega arith) passes) (λ _. greatest-passes test n P none (λ m le passes. f m (omega (arith, le)) passes))

record IsHandled (js : List Judged) : Type 0 where
  rows : AreRowBytes (rows_of js)
  few : length js ≤ 1000

handled-spelled : (limits : Limits) (js : List Judged) → AreLimits limits → IsHandled (take (visits limits js) js)
handled-spelled limits js are =
    greatest-passes (λ m. may_handle limits (take m js)) (min limits.quantum (length js)) (λ m. IsHandled (take m js)) (record { rows = (omega arith, tt); few = omega arith })
    (λ m le passes.
    let parts = and_parts (list_all (λ (j : Judged). _) (take m js)) (nat_le (sum_by (λ (row : List ℕ). length row + 2) (rows_of (take m js))) limits.buffer) passes in
    let fit : sum_by room (rows_of (take m js)) ≤ limits.buffer = leb-true (sum_by room (rows_of (take m js))) limits.buffer parts.1 in
    let most = are.buffer.1 in
    let quick = are.quantum.1 in
    record { rows = (omega (arith, fit, most, few-rows (rows_of (take m js))), all-long limits.buffer (rows_of (take m js)) most (short-rows limits.buffer (rows_of (take m js)) fit)); few = omega (arith, length-take-le m js (omega (arith, le)), le, quick) })

-- a reply that can be spelled, whatever the subset's number
abbrev pub IsQuantumReply : QuantumReply → Type 0
IsQuantumReply (answers.Ended rows changed) = AreRowBytes rows × HasFour changed
IsQuantumReply (answers.Redrive last cause rows changed) = IsShort last × AreRowBytes rows × HasFour changed
IsQuantumReply (answers.Locked lock) = IsLock lock
IsQuantumReply (answers.Failed key f) = IsShort key × IsFault f

last-spelled : (js : List Judged) (last : List ℕ) → AllByRecursion IsJudged js → last_key js ≡ Some last → IsShort last
last-spelled [] last h e = absurd (cc)
last-spelled (j ∷ []) last h e = let same : j.key ≡ last = cc in subst IsShort same h.0.0
last-spelled (j ∷ k ∷ js) last h e = last-spelled (k ∷ js) last h.1 e

refusal-spelled : (key : List ℕ) (v : Verdict) → IsShort key → IsVerdict v → IsQuantumReply (refusal key v)
refusal-spelled key (Blocked lock) short h = h
refusal-spelled key (Faulty f) short h = (short, h)
refusal-spelled key PassedOver short h = (short, tt)
refusal-spelled key (Selected effect) short h = (short, tt)

changed-few : (handled : List Judged) → length handled ≤ 1000 → HasFour (count_by (λ (j : Judged). is_change j.verdict) handled)
changed-few handled few = omega (arith, count_by-le-length (λ (j : Judged). is_change j.verdict) handled, few)

stopped-spelled : (limits : Limits) (handled : List Judged) (next : Judged) (o : Option (List ℕ)) → last_key handled ≡ o → IsHandled handled → AllByRecursion IsJudged handled → IsJudged next
    → IsQuantumReply (stopped limits handled next o)
stopped-spelled limits handled next (Some last) e done h n = (last-spelled handled last h e, done.rows, changed-few handled done.few)
stopped-spelled limits handled next None e done h n = refusal-spelled next.key next.verdict n.0 n.1

answer-spelled : (limits : Limits) (handled rest : List Judged) → IsHandled handled → AllByRecursion IsJudged handled → AllByRecursion IsJudged rest → IsQuantumReply (answer limits handled rest)
answer-spelled limits handled [] done h k = (done.rows, changed-few handled done.few)
answer-spelled limits handled (next ∷ rest) done h k = stopped-spelled limits handled next (last_key handled) refl done h k.0

all-drop : {A : Type 0} (P : A → Type 0) (n : ℕ) (xs : List A) → AllByRecursion P xs → AllByRecursion P (drop n xs)
all-drop P zero xs h = h
all-drop P (suc n) [] h = tt
all-drop P (suc n) (x ∷ xs) h = all-drop P n xs h.1

pub quantum-spelled : (limits : Limits) (table : TableDef) (cells : List Cell) (locks : List Lock) (block : Block SetWork) → AreLimits limits → IsTable table → AllByRecursion (λ (cell : Cell). IsShort cell.key) cells
    → AllByRecursion IsLock locks → IsQuantumReply (quantum limits table cells locks block).reply
quantum-spelled limits table cells locks block are is short stand =
    let js = judged table locks block cells in
    let all = judged-spelled table is locks stand block cells short in
    answer-spelled limits (take (visits limits js) js) (drop (visits limits js) js) (handled-spelled limits js are) (all-take IsJudged (visits limits js) js all) (all-drop IsJudged (visits limits js) js all)
