-- A request that fails names the first record of its span that faults.
use Rattle.std.proofs.Common.{◌≡◌, ℕ, zero, suc, List, [], ◌∷◌, ◌++◌, take, drop, filter, map, Bool, true, false, cond, ◌&&◌, not, Option, Some, None, Result, Ok, Err, refl, ap, sym, ◌∙◌, subst}
use Rattle.std.specs.List.{AllByRecursion}
use Rattle.std.proofs.lemmas.List.{take-append-drop}
use Rattle.sql_base.specs.Keys.{is_from, key_eq, key_le}
use Rattle.sql_base.specs.Locks.{first_conflict}
use Rattle.sql_base.specs.OnRows.{fault_of, first_failing, updated}
use Rattle.sql_base.specs.Val.{Outcome, IsNumber, IsText, IsTruth, IsNothing, filter_val}
use Rattle.sql_base.specs.declared.expressions.Expr.{Expr}
use Rattle.sql_base.specs.declared.faults.EvalFault.{EvalFault}
use Rattle.sql_base.specs.declared.faults.Fault.{Fault}
use Rattle.sql_base.specs.declared.key_ranges.KeyRange.{KeyRange}
use Rattle.sql_base.specs.declared.key_ranges.Start.TheVariants.{At, After}
use Rattle.sql_base.specs.declared.lock_names.Access.{Access}
use Rattle.sql_base.specs.declared.lock_names.Lock.{Lock}
use Rattle.sql_base.specs.declared.lock_names.Mode.TheVariants as mode
use Rattle.sql_base.specs.declared.lock_names.TxnName.{TxnName}
use Rattle.sql_base.specs.declared.scripts.Limits.{Limits}
use Rattle.sql_base.specs.declared.statements.Statement.{Statement}
use Rattle.sql_base.specs.declared.statements.Statement.TheVariants.{Select, Update, Delete, Insert, LockTable}
use Rattle.sql_base.specs.declared.tables.TableDef.{TableDef}
use Rattle.sql_base.specs.declared.values.Value.{Value}
use Rattle.sql_base.proofs.KeyOrders.{key_eq-refl}
use Rattle.dp_messages.specs.declared.replies.Reply.{Reply}
use Rattle.dp_messages.specs.declared.replies.Reply.TheVariants.{Ended, Failed, WrongKey}
use Rattle.dp_messages.specs.declared.requests.Ask.TheVariants as ask
use Rattle.key_sequenced.specs.Cells.{AreCells, Keyed, records}
use Rattle.key_sequenced.specs.declared.Cell.{Cell}
use Rattle.one_thread.specs.One.{fault_on, new_row_fault, statement_fault}
use Rattle.partition_state.specs.State.{State, with_live}
use Rattle.partition_state.specs.Step.{Answered, after_first, after_next, against_granule, are_columns_here, as_row, begins, by_kind, first_quantum, goes_on, is_key_here, kept_key, refused, set_work, step}
use Rattle.predicate_codes.specs.Decoding.{filter_of}
use Rattle.quantum_core.specs.Quantum.{Handled, answer, last_key, lets_on, quantum, refusal, stopped, visits}
use Rattle.quantum_core.specs.Verdicts.{Judged, barrier, candidates, if_kept, is_candidate, is_hidden, judged, on_met, on_new_row, on_predicate, on_row, unless_blocked, verdict}
use Rattle.quantum_core.specs.declared.replies.QuantumReply.{QuantumReply}
use Rattle.quantum_core.specs.declared.replies.QuantumReply.TheVariants as answers
use Rattle.quantum_core.specs.declared.verdicts.Verdict.{Verdict}
use Rattle.quantum_core.specs.declared.verdicts.Verdict.TheVariants.{Blocked, Faulty, PassedOver, Selected}
use Rattle.quantum_core.specs.declared.verdicts.Effect.TheVariants.{Goes}
use Rattle.quantum_core.specs.declared.works.Doing.TheVariants as doing
use Rattle.quantum_core.specs.declared.works.SetWork.{SetWork}
use Rattle.quantum_core.proofs.Walking.{as_judged}
use Rattle.session_grammar.specs.Plans.{filter_code}
use Rattle.subset_blocks.specs.Blocks.{find_block}
use Rattle.subset_blocks.specs.declared.Block.{Block}
use Rattle.subset_blocks.specs.declared.Numbered.{Numbered}
use Rattle.serial_laws.specs.Scaffold.Exact.{HasRoom, IsSet, IsWorkOf}
use Rattle.serial_laws.specs.Scaffold.Sound.{Sound}
use Rattle.serial_laws.specs.Scaffold.Stages.{Stage, Fresh, Onward, Awaits, IsBlock, RoomFor, ask_at, start_at}
use Rattle.serial_laws.proofs.Codes.{filter_of-code}
use Rattle.serial_laws.proofs.Handled.{FitsVerdict, first_stops, no_last}
use Rattle.serial_laws.proofs.QuantumExact.{fits_all}
use Rattle.serial_laws.proofs.Singles.{read_handled}
use Rattle.serial_laws.proofs.Steps.{answered-kind, stepped, was_handled}
use Rattle.serial_laws.proofs.Subsets.{begins-for, made, room_of}
use Rattle.serial_passes.proofs.Edits.{within}
use Rattle.alone_laws.specs.Scaffold.Failing.{Fails}
use Rattle.sql_base.proofs.ListFacts.{all-filter}

-- the first candidate of a block, which faults
record FirstFaults (table : TableDef) (locks : List Lock) (block : Block SetWork) (cells : List Cell) (key : List ℕ) (fault : Fault) : Type 0 where
  cell : Cell
  more : List Cell
  first : candidates block cells ≡ cell ∷ more
  key_is : cell.key ≡ key
  faulty : verdict table locks block cell ≡ Faulty fault

refuses : (key k : List ℕ) (v : Verdict) (fault : Fault) → (lets_on v ≡ true → ⊥) → refusal key v ≡ answers.Failed k fault → (key ≡ k) × (v ≡ Faulty fault)
refuses key k (Blocked lock) fault stops e = absurd (cc)
refuses key k (Faulty f) fault stops e = let same : key ≡ k = cc in let one : f ≡ fault = cc in (same, ap Faulty one)
refuses key k PassedOver fault stops e = absurd (stops refl)
refuses key k (Selected effect) fault stops e = absurd (stops refl)

nothing : (m : ℕ) (js : List Judged) (next : Judged) (rest : List Judged) → js ≡ next ∷ rest → take m js ≡ [] → m ≡ 0
nothing zero js next rest is e = refl
nothing (suc m) js next rest is e = absurd (cc (sym (ap (take (suc m)) is) ∙ e))

module _ (limits : Limits) (table : TableDef) (locks : List Lock) (block : Block SetWork) (cells : List Cell) (rise : AreCells cells) (room : HasRoom limits block.work cells) where
  all_fit : AllByRecursion (λ j. FitsVerdict limits.buffer j.verdict) (judged table locks block cells)
  all_fit = fits_all limits table locks block (filter (is_candidate block) cells) (all-filter _ (is_candidate block) cells room.buffer)

  first_cell : (cs : List Cell) (next : Judged) (rest : List Judged) (key : List ℕ) (fault : Fault) → map (as_judged table locks block) cs ≡ next ∷ rest → next.key ≡ key → next.verdict ≡ Faulty fault → candidates block cells ≡ cs
      → FirstFaults table locks block cells key fault
  first_cell [] next rest key fault e k v is = absurd (cc)
  first_cell (cell ∷ cs) next rest key fault e k v is =
      let same : as_judged table locks block cell ≡ next = cc in
      record { cell = cell; more = cs; first = is; key_is = ap (λ (j : Judged). j.key) same ∙ k; faulty = ap (λ (j : Judged). j.verdict) same ∙ v }

  stops : (left : List Judged) (last : Option (List ℕ)) (key : List ℕ) (fault : Fault)
      → drop (visits limits (judged table locks block cells)) (judged table locks block cells) ≡ left → last_key (take (visits limits (judged table locks block cells)) (judged table locks block cells)) ≡ last
      → answer limits (take (visits limits (judged table locks block cells)) (judged table locks block cells)) left ≡ answers.Failed key fault → FirstFaults table locks block cells key fault
  stops [] last key fault d k e = absurd (cc)
  stops (next ∷ rest) (Some last) key fault d k e = absurd (cc (ap (stopped limits (take (visits limits (judged table locks block cells)) (judged table locks block cells)) next) (sym k) ∙ e))
  stops (next ∷ rest) None key fault d k e =
      let js = judged table locks block cells in
      let m = visits limits js in
      let none : take m js ≡ [] = no_last (take m js) k in
      let whole : js ≡ next ∷ rest = sym (take-append-drop m js) ∙ ap (λ l. l ++ drop m js) none ∙ d in
      let never = first_stops limits table locks block cells rise room.visits all_fit next rest whole (nothing m js next rest whole none) in
      let r = refuses next.key key next.verdict fault never (ap (stopped limits (take m js) next) (sym k) ∙ e) in
      first_cell (candidates block cells) next rest key fault whole r.0 r.1 refl

  -- a quantum that fails met a candidate first that faults
  failed-first : (key : List ℕ) (fault : Fault) → (quantum limits table cells locks block).reply ≡ answers.Failed key fault → FirstFaults table locks block cells key fault
  failed-first key fault e =
      let js = judged table locks block cells in
      stops (drop (visits limits js) js) (last_key (take (visits limits js) js)) key fault refl refl e

-- the fault of a verdict is that of the statement on the row
faulty_open : (o : Option Lock) (v : Verdict) (fault : Fault) → unless_blocked o v ≡ Faulty fault → v ≡ Faulty fault
faulty_open (Some lock) v fault e = absurd (cc)
faulty_open None v fault e = e

faulty_kept : (row : List Value) (o : Option Fault) (fault : Fault) → if_kept row o ≡ Faulty fault → o ≡ Some fault
faulty_kept row None fault e = absurd (cc)
faulty_kept row (Some f) fault e = let same : f ≡ fault = cc in ap Some same

faulty_new : (table : TableDef) (new : Result (List Value) EvalFault) (fault : Fault) → on_new_row table new ≡ Faulty fault → new_row_fault table new ≡ Some fault
faulty_new table (Ok row) fault e = faulty_kept row (first_failing table.checks row) fault e
faulty_new table (Err f) fault e = let same : fault_of f ≡ fault = cc in ap Some same

faulty_predicate : (met : Verdict) (f : Option Fault) (fault : Fault) → (met ≡ Faulty fault → f ≡ Some fault) → (out : Outcome) → on_predicate met out ≡ Faulty fault → fault_on out f ≡ Some fault
faulty_predicate met f fault to (Err x) e = let same : fault_of x ≡ fault = cc in ap Some same
faulty_predicate met f fault to (Ok (IsTruth true)) e = to e
faulty_predicate met f fault to (Ok (IsTruth false)) e = absurd (cc)
faulty_predicate met f fault to (Ok (IsNumber n)) e = absurd (cc)
faulty_predicate met f fault to (Ok (IsText text)) e = absurd (cc)
faulty_predicate met f fault to (Ok IsNothing) e = absurd (cc)

selected_fine : (effect : _) (fault : Fault) (X : Type 0) → Selected effect ≡ Faulty fault → X
selected_fine effect fault X e = absurd (cc)

module _ (table : TableDef) (locks : List Lock) (block : Block SetWork) (key : List ℕ) (row : List Value) (fault : Fault) where
  faulty_work : (statement : Statement) (work : SetWork) → IsWorkOf statement work → on_predicate (on_met table locks block key row work.doing) (filter_val work.filter row) ≡ Faulty fault → statement_fault table statement row ≡ Some fault
  faulty_work (Select t columns predicate access) work is e =
      faulty_predicate (on_met table locks block key row (doing.Read columns)) None fault (λ h. selected_fine _ fault _ h) (filter_val predicate row)
      (subst (λ (w : SetWork). on_predicate (on_met table locks block key row w.doing) (filter_val w.filter row) ≡ Faulty fault) is e)
  faulty_work (Update t sets predicate access) work is e =
      faulty_predicate (on_met table locks block key row (doing.Update sets)) (new_row_fault table (updated table sets row)) fault
      (λ h. faulty_new table (updated table sets row) fault (faulty_open (first_conflict locks block.holder key mode.X) (on_new_row table (updated table sets row)) fault h)) (filter_val predicate row)
      (subst (λ (w : SetWork). on_predicate (on_met table locks block key row w.doing) (filter_val w.filter row) ≡ Faulty fault) is e)
  faulty_work (Delete t predicate access) work is e =
      faulty_predicate (on_met table locks block key row doing.Delete) None fault
      (λ h. selected_fine _ fault _ (faulty_open (first_conflict locks block.holder key mode.X) (Selected Goes) fault h)) (filter_val predicate row)
      (subst (λ (w : SetWork). on_predicate (on_met table locks block key row w.doing) (filter_val w.filter row) ≡ Faulty fault) is e)
  faulty_work (Insert t r) work is e = absurd is
  faulty_work (LockTable t m) work is e = absurd is

-- the first candidate, if a row stands there, is the first record of the span
both_true : (a b : Bool) → (a && (b && true)) ≡ false → (a && b) ≡ false
both_true true true h = h
both_true true false h = refl
both_true false b h = refl

both_hold : (a b c : Bool) → (a && (b && c)) ≡ true → (a && b) ≡ true
both_hold true true c h = refl
both_hold true false c h = h
both_hold false b c h = h

module _ (block : Block SetWork) (cell : Cell) (more : List Cell) (row : List Value) (stands : cell.now ≡ Some row) where
  abbrev BeginsSpan : List Cell → Type 0
  BeginsSpan cells = (back : List Keyed) × (within block.start block.high (records cells) ≡ record { key = cell.key; row = row } ∷ back)

  first_record : (cells : List Cell) → candidates block cells ≡ cell ∷ more → BeginsSpan cells
  first_record [] e = absurd (cc)
  first_record (c ∷ cells) e = by_test (is_candidate block c) refl e (first_record cells)
    where
      past : (o : Option (List Value)) → c.now ≡ o → is_candidate block c ≡ false → within block.start block.high (records (c ∷ cells)) ≡ within block.start block.high (records cells)
      past None n h = rw n refl
      past (Some r) n h =
          let out : (is_from block.start c.key && key_le c.key block.high) ≡ false =
          both_true (is_from block.start c.key) (key_le c.key block.high) (subst (λ now. (is_from block.start c.key && (key_le c.key block.high && not (is_hidden block c now))) ≡ false) n h) in
          rw (n, out) refl

      by_test : (b : Bool) → is_candidate block c ≡ b → cond b (c ∷ candidates block cells) (candidates block cells) ≡ cell ∷ more → (candidates block cells ≡ cell ∷ more → BeginsSpan cells) → BeginsSpan (c ∷ cells)
      by_test true h e rest =
          let same : c ≡ cell = cc in
          let now : c.now ≡ Some row = ap (λ (x : Cell). x.now) same ∙ stands in
          let key : c.key ≡ cell.key = ap (λ (x : Cell). x.key) same in
          let here : (is_from block.start c.key && key_le c.key block.high) ≡ true = both_hold (is_from block.start c.key) (key_le c.key block.high) (not (is_hidden block c c.now)) h in
          (within block.start block.high (records cells), rw (now, here) (ap (λ k. record { key = k; row = row } ∷ within block.start block.high (records cells)) key))
      by_test false h e rest = let r = rest e in (r.0, past c.now refl h ∙ r.1)

-- so a block's quantum that fails tells the first fault of its span
faults_first : (limits : Limits) (table : TableDef) (locks : List Lock) (block : Block SetWork) (cells : List Cell) (statement : Statement) (key : List ℕ) (fault : Fault) → AreCells cells → HasRoom limits block.work cells → IsWorkOf statement block.work
    → (quantum limits table cells locks block).reply ≡ answers.Failed key fault → Fails table statement block.start block.high (records cells) key fault
faults_first limits table locks block cells statement key fault rise room is e = by_now f.cell.now refl
  where
    f : FirstFaults table locks block cells key fault
    f = failed-first limits table locks block cells rise room key fault e

    on_row_is : on_row table locks block f.cell.key f.cell.now ≡ Faulty fault
    on_row_is = faulty_open (barrier block.access locks block.holder f.cell.key) (on_row table locks block f.cell.key f.cell.now) fault f.faulty

    by_now : (o : Option (List Value)) → f.cell.now ≡ o → Fails table statement block.start block.high (records cells) key fault
    by_now None n = absurd (cc (sym (ap (on_row table locks block f.cell.key) n) ∙ on_row_is))
    by_now (Some row) n =
        let b = first_record block f.cell f.more row n cells f.first in
        record {
          front = [];
          first = record { key = f.cell.key; row = row };
          back = b.0;
          span = b.1;
          fine = tt;
          key_is = f.key_is;
          faults = faulty_work table locks block f.cell.key row fault statement block.work is (sym (ap (on_row table locks block f.cell.key) n) ∙ on_row_is);
        }

first_failed : (p : State) (t : TxnName) (block : Block SetWork) (granule : List ℕ) (handled : Handled) (r : QuantumReply) (key : List ℕ) (fault : Fault) → (after_first (with_live p t) block granule handled r).reply ≡ Failed key fault → r ≡ answers.Failed key fault
first_failed p t block granule handled (answers.Ended rows changed) key fault e = absurd (cc)
first_failed p t block granule handled (answers.Redrive last cause rows changed) key fault e = absurd (cc)
first_failed p t block granule handled (answers.Locked l) key fault e = absurd (cc)
first_failed p t block granule handled (answers.Failed k f) key fault e = let same : k ≡ key = cc in let one : f ≡ fault = cc in λ i. answers.Failed (same i) (one i)

next_failed : (p : State) (b : Numbered SetWork) (handled : Handled) (r : QuantumReply) (key : List ℕ) (fault : Fault) → (after_next p b handled r).reply ≡ Failed key fault → r ≡ answers.Failed key fault
next_failed p b handled (answers.Ended rows changed) key fault e = absurd (cc)
next_failed p b handled (answers.Redrive last cause rows changed) key fault e = absurd (cc)
next_failed p b handled (answers.Locked l) key fault e = absurd (cc)
next_failed p b handled (answers.Failed k f) key fault e = let same : k ≡ key = cc in let one : f ≡ fault = cc in λ i. answers.Failed (same i) (one i)

module _ (p : State) (t : TxnName) (statement : Statement) (sound : Sound p) (room : RoomFor p.limits p.table statement) (key : List ℕ) (fault : Fault) where
  begins_fail : (access : Access) (granule : List ℕ) (range : KeyRange) (work : SetWork) → IsWorkOf statement work → (begins p t access granule range work).reply ≡ Failed key fault → Fails p.table statement (At range.low) range.high (records p.cells) key fault
  begins_fail access granule range work is e = by_lock (against_granule (with_live p t) block granule access) e
    where
      block : Block SetWork
      block = record { holder = t; start = At range.low; high = range.high; access = access; work = work }

      by_lock : (o : Option Lock) → (first_quantum (with_live p t) block granule o).reply ≡ Failed key fault → Fails p.table statement (At range.low) range.high (records p.cells) key fault
      by_lock (Some lock) e = absurd (cc)
      by_lock None e =
          let handled = quantum p.limits p.table p.cells p.locks block in
          faults_first p.limits p.table p.locks block p.cells statement key fault sound.keeps.cells.rise (room_of p.limits p.table p.place statement work room is p.cells sound.rows.rows) is
          (first_failed p t block granule handled handled.reply key fault e)

  next_fails : (subset : ℕ) (last high : List ℕ) → IsBlock p.blocks t statement high subset last → (goes_on p last (find_block subset t p.blocks)).reply ≡ Failed key fault → Fails p.table statement (After last) high (records p.cells) key fault
  next_fails subset last high w e =
      let b = w.block in
      let handled = quantum p.limits p.table p.cells p.locks b.block in
      let same : key_eq (kept_key b.block.start) last ≡ true = ap (λ s. key_eq (kept_key s) last) w.start ∙ key_eq-refl last in
      let goes : goes_on p last (find_block subset t p.blocks) ≡ after_next p b handled handled.reply =
      ap (goes_on p last) w.found ∙ ap (λ v. cond v (after_next p b handled handled.reply) (refused p (WrongKey (kept_key b.block.start)))) same in
      let first = faults_first p.limits p.table p.locks b.block p.cells statement key fault sound.keeps.cells.rise (room_of p.limits p.table p.place statement b.block.work room w.work p.cells sound.rows.rows) w.work
      (next_failed p b handled handled.reply key fault (ap (λ (a : Answered). a.reply) (sym goes) ∙ e)) in
      subst (λ s. Fails p.table statement s high (records p.cells) key fault) w.start (subst (λ h. Fails p.table statement b.block.start h (records p.cells) key fault) w.high_is first)

-- a request of a subset
pub failed-step : (p : State) (sync ordinal : ℕ) (statement : Statement) (granule : List ℕ) (range : KeyRange) (stage : Stage) (key : List ℕ) (fault : Fault) → IsSet statement → Sound p → RoomFor p.limits p.table statement
    → Awaits p.blocks (record { session = 1; ordinal = ordinal }) statement range.high stage → (step p 1 sync (record { ordinal = ordinal; ask = ask_at statement granule range stage })).reply ≡ Some (Failed key fault)
    → Fails p.table statement (start_at range stage) range.high (records p.cells) key fault
failed-step p sync ordinal statement granule range stage key fault set sound room awaits e =
    let t : TxnName = record { session = 1; ordinal = ordinal } in
    let asked = ask_at statement granule range stage in
    let s = stepped p 1 sync (record { ordinal = ordinal; ask = asked }) (Failed key fault) e in
    let kind = answered-kind p t asked (ap was_handled s.reply_is) in
    by_stage stage awaits (ap (λ (a : Answered). a.reply) (sym kind) ∙ s.reply_is)
  where
    t : TxnName
    t = record { session = 1; ordinal = ordinal }

    by_stage : (stage : Stage) → Awaits p.blocks t statement range.high stage → (by_kind p t (ask_at statement granule range stage)).reply ≡ Failed key fault → Fails p.table statement (start_at range stage) range.high (records p.cells) key fault
    by_stage Fresh awaits told =
        let b = begins-for p t statement set room.suits granule range (ap was_handled told) in
        begins_fail p t statement sound room key fault b.access granule range b.work b.is (ap (λ (a : Answered). a.reply) (sym b.begun) ∙ told)
    by_stage (Onward subset last) awaits told = next_fails p t statement sound room key fault subset last range.high awaits told

-- a ReadKey
row_failed : (r : Reply) (key : List ℕ) (fault : Fault) → as_row r ≡ Failed key fault → r ≡ Failed key fault
row_failed (Ended [] changed) key fault e = absurd (cc)
row_failed (Ended (row ∷ rows) changed) key fault e = absurd (cc)
row_failed r key fault e = e

pub read-failed : (p : State) (sync ordinal n : ℕ) (columns : List ℕ) (predicate : Option Expr) (access : Access) (own key : List ℕ) (fault : Fault) → Sound p → RoomFor p.limits p.table (Select n columns predicate access)
    → (step p 1 sync (record { ordinal = ordinal; ask = ask.ReadKey access own (filter_code predicate) columns })).reply ≡ Some (Failed key fault)
    → Fails p.table (Select n columns predicate access) (At own) own (records p.cells) key fault
read-failed p sync ordinal n columns predicate access own key fault sound room e =
    let t : TxnName = record { session = 1; ordinal = ordinal } in
    let statement : Statement = Select n columns predicate access in
    let asked = ask.ReadKey access own (filter_code predicate) columns in
    let s = stepped p 1 sync (record { ordinal = ordinal; ask = asked }) (Failed key fault) e in
    let kind = answered-kind p t asked (ap was_handled s.reply_is) in
    let told : (by_kind p t asked).reply ≡ Failed key fault = ap (λ (a : Answered). a.reply) (sym kind) ∙ s.reply_is in
    let b = read_handled n columns predicate access p t own (is_key_here p own && are_columns_here p columns) (set_work (filter_of p.table (filter_code predicate)) (Some (doing.Read columns))) (ap was_handled told) in
    let m = made p t statement (filter_of p.table (filter_code predicate)) (Some (doing.Read columns)) b.0 b.1 in
    let f = filter_of-code p.table predicate m.0 room.suits.1 m.2 in
    let is : b.0 ≡ record { filter = predicate; doing = doing.Read columns } = cc in
    begins_fail p t statement sound room key fault access own (record { low = own; high = own }) b.0 is
    (row_failed (begins p t access own (record { low = own; high = own }) b.0).reply key fault (ap (λ (a : Answered). a.reply) (sym b.2) ∙ told))
