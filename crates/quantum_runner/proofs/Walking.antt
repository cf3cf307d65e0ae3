-- The walk over the cells, as far as it has come.
use Rattle.std.proofs.Common.{◌≡◌, ◌==◌, ℕ, ◌+◌, ◌-◌, ◌<◌, ◌≤◌, List, [], ◌∷◌, ◌++◌, length, take, drop, get_or, Bool, true, false, cond, ◌&&◌, ◌⊎◌, inl, inr, refl, ap, sym, ◌∙◌, subst, arith, sum_by, length-append, append-nil, filter, map, Option, Some, None, Result, Ok, Err, IfOk}
use Rattle.std.specs.Prelude.{count_by, All}
use Rattle.std.specs.List.{cons_option, list_all, AllByRecursion}
use Rattle.std.proofs.Math.Seq.{take-append_seam}
use Rattle.std.proofs.lemmas.List.{take_more}
use Rattle.std.proofs.lemmas.List.Folds.{list_all-append}
use Rattle.std.proofs.lemmas.List.Elements.{filter_map-append, filter-append, All-filter, All-same}
use Rattle.std.proofs.lemmas.List.Sums.{sum_by-append}
use Rattle.std.proofs.lemmas.Bool.Decides.{nat_tests}
use Rattle.std.proofs.lemmas.Bool.{le-leb}
use Rattle.std.proofs.lemmas.Grind.{common_steps}
use Rattle.sql_base.specs.Keys.{is_from, key_lt}
use Rattle.sql_base.proofs.KeyOrders.{lt-trans, not_le_from_lt}
use Rattle.sql_base.proofs.ListFacts.{all-weaker, all_of, all_right, all_through, filter-none, filter-twice}
use Rattle.key_sequenced.specs.Cells.{AreCells}
use Rattle.key_sequenced.proofs.Belonging.{above-first, cells-back}
use Rattle.sql_base.specs.declared.faults.Cause.{Cause}
use Rattle.sql_base.specs.declared.faults.Cause.TheVariants as cause
use Rattle.sql_base.specs.declared.lock_names.Lock.{Lock}
use Rattle.sql_base.specs.declared.lock_names.TxnName.{TxnName}
use Rattle.sql_base.specs.declared.scripts.Limits.{Limits}
use Rattle.sql_base.specs.declared.tables.TableDef.{TableDef}
use Rattle.key_sequenced.specs.declared.Cell.{Cell}
use Rattle.subset_blocks.specs.declared.Block.{Block}
use Rattle.quantum_core.specs.Verdicts.{Judged, judged, is_candidate, verdict}
use Rattle.quantum_core.specs.Quantum.{may_handle, reply_to, stopped, cause_of, cause_at, last_key, rows_of, row_of, lets_on, is_change, visits}
use Rattle.quantum_core.specs.Walk.{given_rows, option_list, room_for}
use Rattle.quantum_core.specs.declared.works.SetWork.{SetWork}
use Rattle.quantum_core.specs.declared.replies.QuantumReply.TheVariants.{Ended}
use Rattle.quantum_core.specs.declared.verdicts.Verdict.{Verdict}
use Rattle.quantum_core.specs.declared.verdicts.Verdict.TheVariants.{Blocked, Faulty, PassedOver, Selected}
use Rattle.quantum_core.specs.declared.verdicts.Effect.TheVariants.{Gives, Becomes, Goes}
use Rattle.quantum_core.proofs.Greatest.{stops, ends, visits_stop, visits_end}
use Rattle.quantum_core.proofs.Walking.{as_judged, judged_more, judged_split}
use Rattle.quantum_runner.specs.Scaffold.Plans.{IsWalk, halted, handled_by, plan_of, plans_of}
use Rattle.quantum_runner.specs.declared.planned.Planned.{Planned}
use Rattle.quantum_runner.specs.declared.planned.Walk.{Walk}
use Rattle.sql_base.proofs.Truths.{if_not_true}

-- these candidates are handled, and this is what the code keeps of them
pub record Walked (limits : Limits) (t : TxnName) (done : List Judged) (rows : List (List ℕ)) (room visited changed : ℕ) (plans : List Planned) (last : Option (List ℕ)) : Type 0 where
  pub goes_on : list_all (λ j. lets_on j.verdict) done ≡ true
  pub rows_are : rows ≡ rows_of done
  pub room_is : room + sum_by (λ row. length row + 2) (rows_of done) ≡ limits.buffer
  pub visits_are : visited ≡ length done
  pub within : visited ≤ limits.quantum
  pub last_is : last ≡ last_key done
  pub changed_are : changed ≡ count_by (λ j. is_change j.verdict) done
  pub plans_are : plans ≡ plans_of t done

last_key-push : (js : List Judged) (j : Judged) → last_key (js ++ j ∷ []) ≡ Some j.key
last_key-push [] j = refl
last_key-push (x ∷ []) j = refl
last_key-push (x ∷ y ∷ js) j = last_key-push (y ∷ js) j

rows_of-one : (key : List ℕ) (v : Verdict) → rows_of (record { key = key; verdict = v } ∷ []) ≡ given_rows v
rows_of-one key (Blocked lock) = refl
rows_of-one key (Faulty fault) = refl
rows_of-one key PassedOver = refl
rows_of-one key (Selected (Gives row)) = refl
rows_of-one key (Selected (Becomes row)) = refl
rows_of-one key (Selected Goes) = refl

room-one : (v : Verdict) → sum_by (λ row. length row + 2) (given_rows v) ≡ room_for v
room-one (Blocked lock) = refl
room-one (Faulty fault) = refl
room-one PassedOver = refl
room-one (Selected (Gives row)) = omega arith
room-one (Selected (Becomes row)) = refl
room-one (Selected Goes) = refl

rows_of-push : (done : List Judged) (next : Judged) → rows_of (done ++ next ∷ []) ≡ rows_of done ++ given_rows next.verdict
rows_of-push done next = filter_map-append (λ j. row_of j.verdict) done (next ∷ []) ∙ ap (λ xs. rows_of done ++ xs) (rows_of-one next.key next.verdict)

room-push : (done : List Judged) (next : Judged) → sum_by (λ row. length row + 2) (rows_of (done ++ next ∷ [])) ≡ sum_by (λ row. length row + 2) (rows_of done) + room_for next.verdict
room-push done next = ap (sum_by (λ row. length row + 2)) (rows_of-push done next) ∙ sum_by-append (λ row. length row + 2) (rows_of done) (given_rows next.verdict) ∙ ap (λ n. sum_by (λ row. length row + 2) (rows_of done) + n) (room-one next.verdict)

goes_on-push : (done : List Judged) (next : Judged) → list_all (λ j. lets_on j.verdict) (done ++ next ∷ []) ≡ (list_all (λ j. lets_on j.verdict) done && (lets_on next.verdict && true))
goes_on-push done next = list_all-append (λ j. lets_on j.verdict) done (next ∷ [])

count-push : {A : Type 0} (p : A → Bool) (xs : List A) (x : A) → count_by p (xs ++ x ∷ []) ≡ count_by p xs + cond (p x) 1 0
count-push p xs x = omega (arith, sum_by-append (λ y. cond (p y) 1 0) xs (x ∷ []))

plans-one : (t : TxnName) (next : Judged) → plans_of t (next ∷ []) ≡ option_list (plan_of t next.key next.verdict)
plans-one t next = elim (plan_of t next.key next.verdict) as (λ o. cons_option o [] ≡ option_list o) [ None ↦ refl | Some plan ↦ refl ]

plans-push : (t : TxnName) (done : List Judged) (next : Judged) → plans_of t (done ++ next ∷ []) ≡ plans_of t done ++ option_list (plan_of t next.key next.verdict)
plans-push t done next = filter_map-append (λ j. plan_of t j.key j.verdict) done (next ∷ []) ∙ ap (λ xs. plans_of t done ++ xs) (plans-one t next)

-- nothing is handled yet
pub walked_none : (limits : Limits) (t : TxnName) → Walked limits t [] [] limits.buffer 0 0 [] None
walked_none limits t = record {
  goes_on = refl;
  rows_are = refl;
  room_is = omega arith;
  visits_are = refl;
  within = omega arith;
  last_is = refl;
  changed_are = refl;
  plans_are = refl;
}

walked_fits : (limits : Limits) (t : TxnName) (done : List Judged) (rows : List (List ℕ)) (room visited changed : ℕ) (plans : List Planned) (last : Option (List ℕ)) → Walked limits t done rows room visited changed plans last → may_handle limits done ≡ true
walked_fits limits t done rows room visited changed plans last w =
    rw w.goes_on (le-leb _ _ (omega (arith, w.room_is)))

-- the next candidate is handled too
walked_more : (limits : Limits) (t : TxnName) (done : List Judged) (rows : List (List ℕ)) (room visited changed : ℕ) (plans : List Planned) (last : Option (List ℕ)) → Walked limits t done rows room visited changed plans last → (next : Judged) → lets_on next.verdict ≡ true → room_for next.verdict ≤ room → visited < limits.quantum
    → Walked limits t (done ++ next ∷ []) (rows ++ given_rows next.verdict) (room - room_for next.verdict) (visited + 1) (changed + cond (is_change next.verdict) 1 0) (plans ++ option_list (plan_of t next.key next.verdict)) (Some next.key)
walked_more limits t done rows room visited changed plans last w next on fit lt = record {
  goes_on = rw (goes_on-push, w.goes_on, on) refl;
  rows_are = rw (w.rows_are, rows_of-push) refl;
  room_is = omega (arith, w.room_is, room-push done next);
  visits_are = omega (arith, w.visits_are, length-append done (next ∷ []));
  within = omega arith;
  last_is = sym (last_key-push done next);
  changed_are = ap (λ n. n + cond (is_change next.verdict) 1 0) w.changed_are ∙ sym (count-push (λ j. is_change j.verdict) done next);
  plans_are = ap (λ ps. ps ++ option_list (plan_of t next.key next.verdict)) w.plans_are ∙ sym (plans-push t done next);
}

fits_push : (limits : Limits) (done : List Judged) (next : Judged) → may_handle limits (done ++ next ∷ []) ≡ true → (lets_on next.verdict ≡ true) × (sum_by (λ row. length row + 2) (rows_of (done ++ next ∷ [])) ≤ limits.buffer)
fits_push limits done next h = grind (arith, nat_tests, goes_on-push done next)

misfit : (limits : Limits) (t : TxnName) (done : List Judged) (rows : List (List ℕ)) (room visited changed : ℕ) (plans : List Planned) (last : Option (List ℕ)) → Walked limits t done rows room visited changed plans last → (next : Judged) → ((lets_on next.verdict ≡ true) × (room_for next.verdict ≤ room) → ⊥) → may_handle limits (done ++ next ∷ []) ≡ false
misfit limits t done rows room visited changed plans last w next stop = if_not_true _ (λ h.
    let both = fits_push limits done next h in stop (both.0, omega (arith, both.1, w.room_is, room-push done next)))

stopped-halted : (limits : Limits) (done : List Judged) (next : Judged) (last : Option (List ℕ)) → stopped limits done next last ≡ halted last (cause_of limits done next) next (rows_of done) (count_by (λ j. is_change j.verdict) done)
stopped-halted limits done next (Some key) = refl
stopped-halted limits done next None = refl

few-plans : (t : TxnName) (js : List Judged) → length (plans_of t js) ≤ length js
few-plans t [] = omega arith
few-plans t (j ∷ js) = one (plan_of t j.key j.verdict) (few-plans t js)
  where
    one : (o : Option Planned) → length (plans_of t js) ≤ length js → length (cons_option o (plans_of t js)) ≤ length (j ∷ js)
    one None h = omega arith
    one (Some plan) h = omega arith

-- how far the code's loop has come
pub record IsAt (limits : Limits) (table : TableDef) (locks : List Lock) (block : Block SetWork) (cells : List Cell) (i : ℕ) (cell : Cell) (rows : List (List ℕ)) (room visited changed : ℕ) (plans : List Planned) (last : Option (List ℕ)) : Type 0 where
  pub below : i < length cells
  pub is : cell ≡ get_or cells i cell
  pub seen : is_candidate block cell ≡ true
  pub walked : Walked limits block.holder (judged table locks block (take i cells)) rows room visited changed plans last

-- the walk stopped before a candidate
stopped_at : (limits : Limits) (table : TableDef) (locks : List Lock) (block : Block SetWork) (cells : List Cell) (i : ℕ) (cell : Cell) (rows : List (List ℕ)) (room visited changed : ℕ) (plans : List Planned) (last : Option (List ℕ)) → IsAt limits table locks block cells i cell rows room visited changed plans last
    → (length (judged table locks block (take i cells)) ≡ limits.quantum) ⊎ (may_handle limits (judged table locks block (take i cells) ++ as_judged table locks block cell ∷ []) ≡ false)
    → (walk : Walk) → walk.reply ≡ halted last (cond (visited == limits.quantum) cause.Visits (cause_at (verdict table locks block cell))) (as_judged table locks block cell) rows changed → walk.plans ≡ plans → IsWalk limits table cells locks block walk
stopped_at limits table locks block cells i cell rows room visited changed plans last h why walk reply same =
    let done : List Judged = judged table locks block (take i cells) in
    let next : Judged = as_judged table locks block cell in
    let rest : List Judged = judged table locks block (drop (i + 1) cells) in
    let fits = walked_fits limits block.holder done rows room visited changed plans last h.walked in
    let le : length done ≤ limits.quantum = omega (arith, h.walked.within, h.walked.visits_are) in
    let split : judged table locks block cells ≡ done ++ next ∷ rest = judged_split table locks block cells i cell h.below h.is h.seen in
    let halt : reply_to limits (done ++ next ∷ rest) ≡ halted last (cond (visited == limits.quantum) cause.Visits (cause_at next.verdict)) next rows changed =
    stops limits done rest next fits le why ∙ stopped-halted limits done next (last_key done) ∙ rw (h.walked.last_is, h.walked.visits_are, h.walked.rows_are, h.walked.changed_are) refl in
    let handled : handled_by limits table cells locks block ≡ done =
    ap (λ js. take (visits limits js) js) split ∙ ap (λ m. take m (done ++ next ∷ rest)) (visits_stop limits done rest next fits le why) ∙ take-append_seam done (next ∷ rest) in
    record {
      reply = reply ∙ sym halt ∙ ap (reply_to limits) (sym split);
      plans = same ∙ h.walked.plans_are ∙ ap (plans_of block.holder) (sym handled);
      few = subst (λ ps. length ps ≤ limits.quantum) (sym (same ∙ h.walked.plans_are)) (omega (arith, few-plans block.holder done));
    }

last_key-some : (js : List Judged) → 0 < length js → (key : List ℕ) × (last_key js ≡ Some key)
last_key-some [] h = absurd (omega arith)
last_key-some (j ∷ []) h = (j.key, refl)
last_key-some (j ∷ k ∷ js) h = last_key-some (k ∷ js) (omega arith)

at_some : (last : Option (List ℕ)) (key : List ℕ) → last ≡ Some key → (c : Cause) (a b : Judged) (rows : List (List ℕ)) (changed : ℕ) → halted last c a rows changed ≡ halted last c b rows changed
at_some last key e c a b rows changed = rw e refl

pub stop_at_visits : (limits : Limits) (table : TableDef) (locks : List Lock) (block : Block SetWork) (cells : List Cell) (i : ℕ) (cell : Cell) (rows : List (List ℕ)) (room visited changed : ℕ) (plans : List Planned) (last : Option (List ℕ)) → IsAt limits table locks block cells i cell rows room visited changed plans last → (v : Verdict) → visited ≡ limits.quantum → 0 < limits.quantum
    → (walk : Walk) → walk.reply ≡ halted last cause.Visits (record { key = cell.key; verdict = v }) rows changed → walk.plans ≡ plans → IsWalk limits table cells locks block walk
stop_at_visits limits table locks block cells i cell rows room visited changed plans last h v full pos walk reply same =
    let some = last_key-some (judged table locks block (take i cells)) (omega (arith, h.walked.visits_are)) in
    let equal : (visited == limits.quantum) ≡ true = grind (arith, nat_tests) in
    stopped_at limits table locks block cells i cell rows room visited changed plans last h (inl (omega (arith, h.walked.visits_are))) walk
    (reply ∙ at_some last some.0 (h.walked.last_is ∙ some.1) cause.Visits (record { key = cell.key; verdict = v }) (as_judged table locks block cell) rows changed
    ∙ ap (λ b. halted last (cond b cause.Visits (cause_at (verdict table locks block cell))) (as_judged table locks block cell) rows changed) (sym equal))
    same

pub stop_at_verdict : (limits : Limits) (table : TableDef) (locks : List Lock) (block : Block SetWork) (cells : List Cell) (i : ℕ) (cell : Cell) (rows : List (List ℕ)) (room visited changed : ℕ) (plans : List Planned) (last : Option (List ℕ)) → IsAt limits table locks block cells i cell rows room visited changed plans last → (v : Verdict) → v ≡ verdict table locks block cell → visited < limits.quantum → ((lets_on v ≡ true) × (room_for v ≤ room) → ⊥)
    → (walk : Walk) → walk.reply ≡ halted last (cause_at v) (record { key = cell.key; verdict = v }) rows changed → walk.plans ≡ plans → IsWalk limits table cells locks block walk
stop_at_verdict limits table locks block cells i cell rows room visited changed plans last h v e lt stop walk reply same =
    let next : Judged = as_judged table locks block cell in
    let apart : (visited == limits.quantum) ≡ false = grind (arith, nat_tests) in
    stopped_at limits table locks block cells i cell rows room visited changed plans last h
    (inr (misfit limits block.holder (judged table locks block (take i cells)) rows room visited changed plans last h.walked next (subst (λ x. (lets_on x ≡ true) × (room_for x ≤ room) → ⊥) e stop))) walk
    (reply ∙ ap (λ (x : Verdict). halted last (cause_at x) (record { key = cell.key; verdict = x }) rows changed) e
    ∙ ap (λ b. halted last (cond b cause.Visits (cause_at next.verdict)) next rows changed) (sym apart))
    same

pub more_at : (limits : Limits) (table : TableDef) (locks : List Lock) (block : Block SetWork) (cells : List Cell) (i : ℕ) (cell : Cell) (rows : List (List ℕ)) (room visited changed : ℕ) (plans : List Planned) (last : Option (List ℕ)) → IsAt limits table locks block cells i cell rows room visited changed plans last → (v : Verdict) → v ≡ verdict table locks block cell → lets_on v ≡ true → room_for v ≤ room → visited < limits.quantum
    → Walked limits block.holder (judged table locks block (take (i + 1) cells)) (rows ++ given_rows v) (room - room_for v) (visited + 1) (changed + cond (is_change v) 1 0) (plans ++ option_list (plan_of block.holder cell.key v)) (Some cell.key)
more_at limits table locks block cells i cell rows room visited changed plans last h v e on fit lt =
    rw (judged_more table locks block cells i cell h.below h.is true h.seen, e)
    (walked_more limits block.holder (judged table locks block (take i cells)) rows room visited changed plans last h.walked (as_judged table locks block cell) (ap lets_on (sym e) ∙ on) (subst (λ x. room_for x ≤ room) e fit) lt)

pub end_at : (limits : Limits) (table : TableDef) (locks : List Lock) (block : Block SetWork) (cells : List Cell) (i : ℕ) (rows : List (List ℕ)) (room visited changed : ℕ) (plans : List Planned) (last : Option (List ℕ)) → Walked limits block.holder (judged table locks block (take i cells)) rows room visited changed plans last → length cells ≤ i
    → (walk : Walk) → walk.reply ≡ Ended rows changed → walk.plans ≡ plans → IsWalk limits table cells locks block walk
end_at limits table locks block cells i rows room visited changed plans last w all walk reply same =
    let done : List Judged = judged table locks block (take i cells) in
    let whole : take i cells ≡ cells = grind (arith, common_steps) in
    let fits = walked_fits limits block.holder done rows room visited changed plans last w in
    let le : length done ≤ limits.quantum = omega (arith, w.within, w.visits_are) in
    let front : take (length done) done ≡ done = grind (arith, common_steps) in
    let handled : handled_by limits table cells locks block ≡ done =
    ap (λ cs. let js = judged table locks block cs in take (visits limits js) js) (sym whole) ∙ ap (λ m. take m done) (visits_end limits done fits le) ∙ front in
    record {
      reply = reply ∙ rw (w.rows_are, w.changed_are) refl ∙ sym (ends limits done fits le) ∙ ap (λ cs. reply_to limits (judged table locks block cs)) whole;
      plans = same ∙ w.plans_are ∙ ap (plans_of block.holder) (sym handled);
      few = subst (λ ps. length ps ≤ limits.quantum) (sym (same ∙ w.plans_are)) (omega (arith, few-plans block.holder done));
    }

-- the cells as those seen, the next one and the rest
pub seam : (seen : List Cell) (cell : Cell) (rest : List Cell) → cell ≡ get_or (seen ++ cell ∷ rest) (length seen) cell
seam [] cell rest = refl
seam (x ∷ seen) cell rest = seam seen cell rest

pub at_next : (limits : Limits) (table : TableDef) (locks : List Lock) (block : Block SetWork) (seen : List Cell) (cell : Cell) (rest : List Cell) (rows : List (List ℕ)) (room visited changed : ℕ) (plans : List Planned) (last : Option (List ℕ)) → is_candidate block cell ≡ true → Walked limits block.holder (judged table locks block seen) rows room visited changed plans last
    → IsAt limits table locks block (seen ++ cell ∷ rest) (length seen) cell rows room visited changed plans last
at_next limits table locks block seen cell rest rows room visited changed plans last candidate w = record {
  below = omega (arith, length-append seen (cell ∷ rest));
  is = seam seen cell rest;
  seen = candidate;
  walked = subst (λ cs. Walked limits block.holder (judged table locks block cs) rows room visited changed plans last) (sym (take-append_seam seen (cell ∷ rest))) w;
}

-- what holds of all cells holds of the next one
pub holds-next : (P : Cell → Type 0) (q : Cell → Bool) (cells seen : List Cell) (cell : Cell) (rest : List Cell) → All P cells → seen ++ cell ∷ rest ≡ filter q cells → P cell
holds-next P q cells seen cell rest h e =
    let all : All P (seen ++ cell ∷ rest) = All-same P (seen ++ cell ∷ rest) (filter q cells) e (All-filter q P cells h) in
    subst P (sym (seam seen cell rest)) (all (length seen) cell (omega (arith, length-append seen (cell ∷ rest))))

next-seen : (seen : List Cell) (cell : Cell) (rest : List Cell) → take (length seen + 1) (seen ++ cell ∷ rest) ≡ seen ++ cell ∷ []
next-seen seen cell rest =
    take_more (seen ++ cell ∷ rest) (length seen) cell (omega (arith, length-append seen (cell ∷ rest)))
    ∙ ap (λ cs. cs ++ get_or (seen ++ cell ∷ rest) (length seen) cell ∷ []) (take-append_seam seen (cell ∷ rest)) ∙ ap (λ x. seen ++ x ∷ []) (sym (seam seen cell rest))

pub more_next : (limits : Limits) (table : TableDef) (locks : List Lock) (block : Block SetWork) (seen : List Cell) (cell : Cell) (rest : List Cell) (rows : List (List ℕ)) (room visited changed : ℕ) (plans : List Planned) (last : Option (List ℕ)) → IsAt limits table locks block (seen ++ cell ∷ rest) (length seen) cell rows room visited changed plans last
    → (v : Verdict) → v ≡ verdict table locks block cell → lets_on v ≡ true → room_for v ≤ room → visited < limits.quantum
    → Walked limits block.holder (judged table locks block (seen ++ cell ∷ [])) (rows ++ given_rows v) (room - room_for v) (visited + 1) (changed + cond (is_change v) 1 0) (plans ++ option_list (plan_of block.holder cell.key v)) (Some cell.key)
more_next limits table locks block seen cell rest rows room visited changed plans last h v e on fit lt =
    subst (λ cs. Walked limits block.holder (judged table locks block cs) (rows ++ given_rows v) (room - room_for v) (visited + 1) (changed + cond (is_change v) 1 0) (plans ++ option_list (plan_of block.holder cell.key v)) (Some cell.key)) (next-seen seen cell rest)
    (more_at limits table locks block (seen ++ cell ∷ rest) (length seen) cell rows room visited changed plans last h v e on fit lt)

pub end_seen : (limits : Limits) (table : TableDef) (locks : List Lock) (block : Block SetWork) (seen : List Cell) (rows : List (List ℕ)) (room visited changed : ℕ) (plans : List Planned) (last : Option (List ℕ)) → Walked limits block.holder (judged table locks block seen) rows room visited changed plans last
    → (walk : Walk) → walk.reply ≡ Ended rows changed → walk.plans ≡ plans → IsWalk limits table seen locks block walk
end_seen limits table locks block seen rows room visited changed plans last w walk reply same =
    let whole : take (length seen) seen ≡ seen = grind (arith, common_steps) in
    end_at limits table locks block seen (length seen) rows room visited changed plans last
    (subst (λ cs. Walked limits block.holder (judged table locks block cs) rows room visited changed plans last) (sym whole) w) (omega arith) walk reply same

-- a walk over other cells with the same candidates
same_walk : (limits : Limits) (table : TableDef) (locks : List Lock) (block : Block SetWork) (xs ys : List Cell) → judged table locks block xs ≡ judged table locks block ys → (walk : Walk) → IsWalk limits table xs locks block walk → IsWalk limits table ys locks block walk
same_walk limits table locks block xs ys e walk w = record {
  reply = w.reply ∙ ap (reply_to limits) e;
  plans = w.plans ∙ ap (λ js. plans_of block.holder (take (visits limits js) js)) e;
  few = w.few;
}

-- no candidate stands before the start
and-again : (a b : Bool) → (a && (a && b)) ≡ (a && b)
and-again true b = refl
and-again false b = refl

judged_from : (table : TableDef) (locks : List Lock) (block : Block SetWork) (cells : List Cell) → judged table locks block (filter (λ c. is_from block.start c.key) cells) ≡ judged table locks block cells
judged_from table locks block cells =
    ap (map (as_judged table locks block)) (filter-twice (λ (c : Cell). is_from block.start c.key) (is_candidate block) (is_candidate block) (λ c. and-again (is_from block.start c.key) _) cells)

pub walk_from : (limits : Limits) (table : TableDef) (locks : List Lock) (block : Block SetWork) (cells part : List Cell) → part ≡ filter (λ c. is_from block.start c.key) cells → (walk : Walk) → IsWalk limits table part locks block walk → IsWalk limits table cells locks block walk
walk_from limits table locks block cells part e walk w =
    same_walk limits table locks block part cells (ap (judged table locks block) e ∙ judged_from table locks block cells) walk w

-- nor any behind a cell that lies past the high key
past_high : (block : Block SetWork) (c : Cell) → key_lt block.high c.key ≡ true → is_candidate block c ≡ false
past_high block c h = rw (not_le_from_lt c.key block.high h) (and-false (is_from block.start c.key))
  where
    and-false : (a : Bool) → (a && false) ≡ false
    and-false true = refl
    and-false false = refl

judged_past : (table : TableDef) (locks : List Lock) (block : Block SetWork) (seen : List Cell) (cell : Cell) (rest : List Cell) → AreCells (seen ++ cell ∷ rest) → key_lt block.high cell.key ≡ true → judged table locks block seen ≡ judged table locks block (seen ++ cell ∷ rest)
judged_past table locks block seen cell rest rise h =
    let behind : AllByRecursion (λ (c : Cell). is_candidate block c ≡ false) rest =
    all-weaker (λ (c : Cell). key_lt cell.key c.key ≡ true) (λ c. is_candidate block c ≡ false) (λ c lt. past_high block c (lt-trans block.high cell.key c.key h lt)) rest (above-first cell rest (cells-back seen (cell ∷ rest) rise)) in
    let none : filter (is_candidate block) (cell ∷ rest) ≡ [] = filter-none (is_candidate block) (cell ∷ rest) (past_high block cell h, behind) in
    ap (map (as_judged table locks block))
    (sym (append-nil (filter (is_candidate block) seen)) ∙ ap (λ cs. filter (is_candidate block) seen ++ cs) (sym none) ∙ sym (filter-append (is_candidate block) seen (cell ∷ rest)))

pub end_past : (limits : Limits) (table : TableDef) (locks : List Lock) (block : Block SetWork) (seen : List Cell) (cell : Cell) (rest : List Cell) (rows : List (List ℕ)) (room visited changed : ℕ) (plans : List Planned) (last : Option (List ℕ)) → AreCells (seen ++ cell ∷ rest) → key_lt block.high cell.key ≡ true
    → Walked limits block.holder (judged table locks block seen) rows room visited changed plans last → (walk : Walk) → walk.reply ≡ Ended rows changed → walk.plans ≡ plans → IsWalk limits table (seen ++ cell ∷ rest) locks block walk
end_past limits table locks block seen cell rest rows room visited changed plans last rise h w walk reply same =
    same_walk limits table locks block seen (seen ++ cell ∷ rest) (judged_past table locks block seen cell rest rise h) walk (end_seen limits table locks block seen rows room visited changed plans last w walk reply same)

-- the next of the cells that pass a test passes it
pub from-next : (p : Cell → Bool) (cells seen : List Cell) (cell : Cell) (rest : List Cell) → seen ++ cell ∷ rest ≡ filter p cells → p cell ≡ true
from-next p cells seen cell rest is =
    let all = all_through p (λ x. p x ≡ true) cells (all_of (λ x. p x ≡ true → p x ≡ true) (λ x h. h) cells) in
    (all_right (λ x. p x ≡ true) seen (cell ∷ rest) (subst (AllByRecursion (λ x. p x ≡ true)) (sym is) all)).0

-- two clauses of one call
pub if_both : {X E : Type 0} (r : Result X E) (P Q R : X → Type 0) → ((x : X) → P x → Q x → R x) → IfOk r P → IfOk r Q → IfOk r R
if_both (Ok x) P Q R join p q = join x p q
if_both (Err e) P Q R join p q = tt
