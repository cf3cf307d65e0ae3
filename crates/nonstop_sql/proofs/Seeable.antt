-- A legal record can be seen: its partitions are few, and so are the rows of its replies.
use Rattle.std.proofs.Common.{◌≡◌, ◌≤◌, ◌<◌, ◌^◌, ℕ, zero, suc, List, [], ◌∷◌, length, take, drop, min, ◌+◌, Bool, true, false, cond, Option, Some, None, refl, ap, sym, ◌∙◌, subst, arith, inl, inr}
use Rattle.std.specs.Prelude.{filter_map, map}
use Rattle.std.specs.List.{AllByRecursion, AllZip, range_with_len}
use Rattle.std.proofs.lemmas.Bool.{cond_both}
use Rattle.std.proofs.lemmas.List.{length-take-le}
use Rattle.sql_base.specs.Scripts.{AreLimits}
use Rattle.sql_base.specs.declared.lock_names.TxnName.{TxnName}
use Rattle.sql_base.specs.declared.scripts.Limits.{Limits}
use Rattle.sql_base.specs.declared.scripts.Script.{Script}
use Rattle.sql_base.specs.declared.tables.TableDef.{TableDef}
use Rattle.sql_base.specs.declared.values.Value.{Value}
use Rattle.sql_base.proofs.ListFacts.{all_joined}
use Rattle.subset_blocks.specs.declared.Block.{Block}
use Rattle.quantum_core.specs.Quantum.{answer, greatest, last_key, may_handle, refusal, row_of, rows_of, stopped, visits}
use Rattle.quantum_core.specs.Verdicts.{Judged, judged}
use Rattle.quantum_core.specs.declared.replies.QuantumReply.{QuantumReply}
use Rattle.quantum_core.specs.declared.replies.QuantumReply.TheVariants as answers
use Rattle.quantum_core.specs.declared.verdicts.Verdict.{Verdict}
use Rattle.quantum_core.specs.declared.verdicts.Verdict.TheVariants.{Blocked, Faulty, PassedOver, Selected}
use Rattle.quantum_core.specs.declared.works.SetWork.{SetWork}
use Rattle.dp_messages.specs.declared.replies.Reply.{Reply}
use Rattle.dp_messages.specs.declared.replies.Reply.TheVariants as reply
use Rattle.dp_messages.specs.declared.requests.Ask.{Ask}
use Rattle.partition_state.specs.History.{IsLegal}
use Rattle.partition_state.specs.State.{State, opening}
use Rattle.partition_state.specs.Step.{answered, step}
use Rattle.partition_state.specs.declared.entries.Entry.{Entry}
use Rattle.partition_laws.specs.Moves.{Move, Stays, Enters, Starts, Opens, Closes, Advances, Inserts, Locks, Prepares, Commits, Undoes, IsMoveOf, Moved, by, gives_row, handled_by, has_effect, said}
use Rattle.partition_laws.proofs.Moving.{moved}
use Rattle.partition_laws.proofs.RowLaws.{fixed-step}
use Rattle.partition_laws.proofs.Stepped.{replied-new}
use Rattle.record_laws.proofs.FiveFacts.{within_tables}
use Rattle.one_thread.specs.One.{loaded}
use Rattle.run_record.specs.Legal.{Legal}
use Rattle.run_record.specs.Openings.{openings, openings_from, rows_in_part}
use Rattle.run_record.specs.Tiles.{reply_rows}
use Rattle.run_record.specs.declared.records.RunRecord.{RunRecord}
use Rattle.trace_report.specs.Reports.{CanBeSeen, HasFewRows}

-- ---- one quantum

length-filter_map : {X Y : Type 0} (f : X → Option Y) (xs : List X) → length (filter_map f xs) ≤ length xs
length-filter_map f [] = omega arith
length-filter_map f (x ∷ xs) = by_kept (f x) refl (length-filter_map f xs)
  where
    by_kept : (o : Option _) → f x ≡ o → length (filter_map f xs) ≤ length xs → length (filter_map f (x ∷ xs)) ≤ suc (length xs)
    by_kept None e rest = rw e (omega (arith, rest))
    by_kept (Some y) e rest = rw e (omega (arith, rest))

greatest-low : (test : ℕ → Bool) (n : ℕ) → greatest test n ≤ n
greatest-low test zero = omega arith
greatest-low test (suc n) = cond_both (test (suc n)) (suc n) (greatest test n) (λ m. m ≤ suc n) (λ _. omega arith) (λ _. omega (arith, greatest-low test n))

few_handled : (limits : Limits) (js : List Judged) → AreLimits limits → length (rows_of (take (visits limits js) js)) ≤ 1000
few_handled limits js are =
    let test : ℕ → Bool = λ m. may_handle limits (take m js) in
    let most : ℕ = min limits.quantum (length js) in
    let low : visits limits js ≤ most = greatest-low test most in
    let handled : length (take (visits limits js) js) ≡ visits limits js = length-take-le (visits limits js) js (omega (arith, low)) in
    let rows = length-filter_map (λ (j : Judged). row_of j.verdict) (take (visits limits js) js) in
    let quick = are.quantum.1 in
    omega (arith, low, handled, rows, quick)

abbrev FewGiven : QuantumReply → Type 0
FewGiven (answers.Ended rows changed) = length rows ≤ 1000
FewGiven (answers.Redrive last cause rows changed) = length rows ≤ 1000
FewGiven (answers.Locked lock) = Unit {0}
FewGiven (answers.Failed key fault) = Unit {0}

refusal-few : (key : List ℕ) (v : Verdict) → FewGiven (refusal key v)
refusal-few key (Blocked lock) = tt
refusal-few key (Faulty fault) = tt
refusal-few key PassedOver = tt
refusal-few key (Selected effect) = tt

stopped-few : (limits : Limits) (handled : List Judged) (next : Judged) (last : Option (List ℕ)) → length (rows_of handled) ≤ 1000 → FewGiven (stopped limits handled next last)
stopped-few limits handled next (Some last) few = few
stopped-few limits handled next None few = refusal-few next.key next.verdict

answer-few : (limits : Limits) (handled rest : List Judged) → length (rows_of handled) ≤ 1000 → FewGiven (answer limits handled rest)
answer-few limits handled [] few = few
answer-few limits handled (next ∷ rest) few = stopped-few limits handled next (last_key handled) few

quantum-few : (p : State) (block : Block SetWork) → AreLimits p.limits → FewGiven (handled_by p block).reply
quantum-few p block are =
    let js = judged p.table p.locks block p.cells in
    answer-few p.limits (take (visits p.limits js) js) (drop (visits p.limits js) js) (few_handled p.limits js are)

-- ---- one request

abbrev Few : Reply → Type 0
Few r = length (reply_rows r) ≤ 1000

no_effect-few : (r : Reply) → has_effect r ≡ false → Few r
no_effect-few (reply.Ended rows changed) h = absurd (cc)
no_effect-few (reply.Redrive subset last cause rows changed) h = absurd (cc)
no_effect-few (reply.Row row) h = absurd (cc)
no_effect-few (reply.Locked lock) h = omega arith
no_effect-few (reply.Failed key fault) h = omega arith
no_effect-few reply.NoRow h = omega arith
no_effect-few reply.Done h = omega arith
no_effect-few (reply.Floor floor) h = omega arith
no_effect-few (reply.DuplicateKey key) h = omega arith
no_effect-few (reply.AfterEnd ended) h = omega arith
no_effect-few (reply.AfterPrepare floor) h = omega arith
no_effect-few (reply.StillLive ordinal) h = omega arith
no_effect-few reply.NotKnown h = omega arith
no_effect-few reply.NotPrepared h = omega arith
no_effect-few (reply.StampLow floor) h = omega arith
no_effect-few reply.NoSubset h = omega arith
no_effect-few (reply.WrongKey kept) h = omega arith
no_effect-few reply.BadCode h = omega arith
no_effect-few reply.BadShape h = omega arith
no_effect-few reply.TooManySubsets h = omega arith

said-few : (row : Bool) (rows : List (List ℕ)) (changed : ℕ) → length rows ≤ 1000 → Few (said row (reply.Ended rows changed))
said-few false rows changed few = few
said-few true [] changed few = omega arith
said-few true (row ∷ rows) changed few = omega arith

done-few : (r : Reply) → r ≡ reply.Done → Few r
done-few r is = let none : Few reply.Done = omega arith in subst Few (sym is) none

floor-few : (r : Reply) (floor : ℕ) → r ≡ reply.Floor floor → Few r
floor-few r floor is = let none : Few (reply.Floor floor) = omega arith in subst Few (sym is) none

move-few : (p : State) (t : TxnName) (ask : Ask) (r : Reply) (m : Move) → AreLimits p.limits → IsMoveOf p t ask r m → Few r
move-few p t ask r Stays are (inl f) = no_effect-few r f.0
move-few p t ask r Stays are (inr f) = floor-few r f.0 f.2
move-few p t ask r Enters are f = no_effect-few r f.0
move-few p t ask r (Starts block granule) are f = subst Few (sym f.4) (said-few (gives_row ask) f.0 f.1 (subst FewGiven f.3 (quantum-few p block are)))
move-few p t ask r (Opens block granule last) are f =
    let few : length f.1 ≤ 1000 = subst FewGiven f.4 (quantum-few p block are) in
    subst Few (sym f.5) few
move-few p t ask r (Closes b) are f =
    let few : length f.0 ≤ 1000 = subst FewGiven f.3 (quantum-few p b.block are) in
    subst Few (sym f.4) few
move-few p t ask r (Advances b last) are f =
    let few : length f.1 ≤ 1000 = subst FewGiven f.4 (quantum-few p b.block are) in
    subst Few (sym f.5) few
move-few p t ask r (Inserts key row) are f = done-few r f.2
move-few p t ask r (Locks lock) are f = done-few r f.3
move-few p t ask r Prepares are f = floor-few r p.high f.3
move-few p t ask r (Commits stamp) are f = done-few r f.5
move-few p t ask r Undoes are f = done-few r f.1

step-few : (p : State) (e : Entry) → AreLimits p.limits → (step p e.opener e.sync e.request).reply ≡ Some e.reply → Few e.reply
step-few p e are told =
    let t = by e.opener e.request in
    let m : Moved p t e.request.ask (answered p t e.request.ask) = moved p t e.request.ask in
    subst Few (replied-new p e.opener e.sync e.request e.reply told).replied (move-few p t e.request.ask (answered p t e.request.ask).reply m.move are m.fits)

-- ---- a record

history-few : (p : State) (history : List Entry) → AreLimits p.limits → IsLegal p history → AllByRecursion HasFewRows history
history-few p [] are legal = tt
history-few p (e ∷ es) are legal =
    let few = step-few p e are legal.1 in
    let next : AreLimits (step p e.opener e.sync e.request).state.limits = subst AreLimits (sym (fixed-step p e.opener e.sync e.request).limits) are in
    (omega (arith, few), history-few (step p e.opener e.sync e.request).state es next legal.2)

histories-few : (ps : List State) (histories : List (List Entry)) → AllByRecursion (λ (p : State). AreLimits p.limits) ps → AllZip IsLegal ps histories → AllByRecursion (λ history. AllByRecursion HasFewRows history) histories
histories-few [] [] are legal = tt
histories-few [] (h ∷ hs) are legal = absurd legal
histories-few (p ∷ ps) [] are legal = absurd legal
histories-few (p ∷ ps) (h ∷ hs) are legal = (history-few p h are.0 legal.0, histories-few ps hs are.1 legal.1)

-- each partition opens with the limits of the script
module _ (limits : Limits) (are : AreLimits limits) where
  abbrev HasLimits : State → Type 0
  HasLimits p = AreLimits p.limits

  places-limited : (table : TableDef) (rows : List (List Value)) (places : List ℕ) → AllByRecursion HasLimits (map (λ place. opening table place limits (rows_in_part table place rows)) places)
  places-limited table rows [] = tt
  places-limited table rows (place ∷ places) = (are, places-limited table rows places)

  openings-limited : (tables : List TableDef) (rows : List (List (List Value))) → AllByRecursion HasLimits (openings_from limits tables rows)
  openings-limited [] rows = tt
  openings-limited (table ∷ tables) [] = tt
  openings-limited (table ∷ tables) (held ∷ rest) =
      let places = range_with_len 0 (length table.firsts + 1) in
      all_joined HasLimits (map (λ place. opening table place limits (rows_in_part table place held)) places) (openings_from limits tables rest) (places-limited table held places) (openings-limited tables rest)

pub can_be_seen : (script : Script) (kept : RunRecord) → Legal script kept → CanBeSeen kept
can_be_seen script kept legal =
    let limited = openings-limited script.limits legal.script_runs.limits script.tables (loaded script).records in
    record { parts = few_parts (length kept.histories) refl; rows = histories-few (openings script) kept.histories limited legal.histories_replay }
  where
    few_parts : (n : ℕ) → length kept.histories ≡ n → length kept.histories < 2 ^ 32
    few_parts zero many = omega (arith, many)
    few_parts (suc n) many =
        let within = within_tables script kept legal.histories_replay n (omega (arith, many)) in
        let most = legal.script_runs.parts in
        omega (arith, many, within, most)
