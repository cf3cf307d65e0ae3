-- What a partition keeps for a session.
use Rattle.std.proofs.Common.{◌≡◌, ◌≤◌, ◌<◌, ◌-◌, ℕ, zero, suc, List, [], ◌∷◌, length, Option, Some, None, Bool, true, false, cond, refl, ap, sym, ◌∙◌, subst, arith}
use Rattle.std.specs.Prelude.{Contains, slice_get, unwrap_or}
use Rattle.std.proofs.lemmas.List.{length-map}
use Rattle.std.proofs.lemmas.Option.{slice_get_within}
use Rattle.sql_base.specs.Scripts.{Lies}
use Rattle.dp_messages.specs.Spelling.{IsReply}
use Rattle.dp_messages.specs.declared.replies.Reply.{Reply as PartitionReply}
use Rattle.partition_core.specs.Kept.{marked, opener_in}
use Rattle.partition_state.specs.History.{replay}
use Rattle.partition_state.specs.State.{Opener, opener_of}
use Rattle.partition_state.specs.declared.entries.Entry.{Entry}
use Rattle.plans_laws.proofs.SpelledHistories.{histories_spelled}
use Rattle.plans_laws.proofs.Suiting.{plans_suit}
use Rattle.requester_fs.specs.Asking.{Asking, next_at}
use Rattle.session_grammar.specs.Rows.{fits, is_end}
use Rattle.session_grammar.specs.Sessions.{MayCome}
use Rattle.session_grammar.specs.UnderWay.{Awaiting, IsOpen}
use Rattle.session_grammar.specs.declared.logs.Answer.TheVariants.{Reply}
use Rattle.run_record.specs.Openings.{history_of}
use Rattle.record_laws.specs.SoFar.{way_of}
use Rattle.driver_laws.specs.Moves.{MayAnswer}
use Rattle.driver_laws.proofs.Picking.{answer_fits, picked}
use Rattle.driver_laws.proofs.Waiting.{reply_is_kept}
use Rattle.driver_laws.specs.Carrying.{Telling}
use Rattle.step_world.specs.Scaffold.Worlds.{Driving, Scene, Setting, live_in, record_of, request_in, steps_in, ways_of}
use Rattle.step_world.specs.declared.processes.DiskProcess.{DiskProcess}
use Rattle.step_world.specs.declared.seats.Seat.{Seat}
use Rattle.step_world.proofs.Marks.{none_at}
use Rattle.step_world.proofs.Opened.{OpenSeat, lies_at, way_at}
use Rattle.step_world.proofs.Places.{get_map}
use Rattle.sql_base.proofs.ListFacts.{all_in}

module _ (setting : Setting) (tellings : List Telling) (w : Scene) (part : ℕ) (d : DiskProcess) (run : Driving setting tellings w) (found : slice_get w.processes part ≡ Some d) where
  pub history_is : history_of (record_of w) part ≡ d.partition.history
  history_is = ap (λ (o : Option (List Entry)). unwrap_or o []) (get_map (λ (x : DiskProcess). x.partition.history) w.processes part d found)

  pub within_histories : part < length (record_of w).histories
  within_histories =
      let less = slice_get_within w.processes part d found in
      let long = length-map w.processes (λ (x : DiskProcess). x.partition.history) in
      omega (arith, less, long)

  pub now_is : replay d.partition.opening (history_of (record_of w) part) ≡ d.partition.now
  now_is = ap (replay d.partition.opening) history_is ∙ sym (run.processes part d found).replayed.replayed

  pub unmarked_at : (n : ℕ) → opener_in d.partition n ≡ opener_of d.partition.now n
  unmarked_at n =
      ap (λ (ms : List (Option ℕ)). marked (unwrap_or (slice_get ms (n - 1)) None) (opener_of d.partition.now n)) (run.processes part d found).unmarked ∙ ap (λ m. marked m (opener_of d.partition.now n)) (none_at 8 (n - 1))

  pub opener_is : (n : ℕ) → opener_in d.partition n ≡ opener_of (replay d.partition.opening (history_of (record_of w) part)) n
  opener_is n = unmarked_at n ∙ ap (λ p. opener_of p n) (sym now_is)

-- the session's request is that of the process
module _ (setting : Setting) (tellings : List Telling) (w : Scene) (at : ℕ) (s : Seat Asking) (o : OpenSeat w at s) (d : DiskProcess) (run : Driving setting tellings w) (found : slice_get w.processes o.r.part ≡ Some d) where
  lies : Lies 1 (length setting.script.sessions) (suc at)
  lies = lies_at setting tellings w at s run o.here

  pub way_was : way_of (ways_of w) (suc at) ≡ Awaiting (o.r ∷ [])
  way_was = way_at w at s o.here ∙ o.way

  is_open : IsOpen (way_of (ways_of w) (suc at)) o.r
  is_open = subst (λ u. IsOpen u o.r) (sym way_was) (zero, omega arith, refl)

  -- where it was served, the partition's last sync is its
  pub last_is : s.is_served ≡ true → (opener_in d.partition (suc at)).last ≡ o.r.sync
  last_is served =
      ap (λ (x : Opener). x.last) (opener_is setting tellings w o.r.part d run found (suc at))
      ∙ reply_is_kept setting.script (record_of w) (ways_of w) run.so_far (live_in w.seats) (steps_in w.seats) setting.choices run.scheduled (suc at) lies o.r is_open (within_histories setting tellings w o.r.part d run found) d.partition.opening
      (run.processes o.r.part d found).opened ((run.seats at s o.here).noted o.r (ap request_in o.way) ∙ served)

  -- and then the reply that is kept answers it
  pub may_answer : (losses : ℕ) (reply : PartitionReply) → (opener_in d.partition (suc at)).last ≡ o.r.sync → (opener_in d.partition (suc at)).kept ≡ Some reply → MayAnswer (record_of w) (suc at) o.r losses (Reply reply)
  may_answer losses reply last told =
      let same = opener_is setting tellings w o.r.part d run found (suc at) in
      picked setting.script (record_of w) (ways_of w) run.so_far (suc at) lies o.r.part (within_histories setting tellings w o.r.part d run found) d.partition.opening (run.processes o.r.part d found).opened o.r losses reply refl
      (sym (ap (λ (x : Opener). x.last) same) ∙ last) (sym (ap (λ (x : Opener). x.kept) same) ∙ told)

  pub fits_it : (losses : ℕ) (reply : PartitionReply) → MayAnswer (record_of w) (suc at) o.r losses (Reply reply) → fits o.r.request.ask reply ≡ true
  fits_it losses reply may =
      answer_fits setting.script (record_of w) (ways_of w) (plans_suit setting.script run.so_far.script_runs) run.so_far (suc at) lies (o.r ∷ []) o.r reply way_was (zero, omega arith, refl) (within_histories setting tellings w o.r.part d run found) losses may

  pub spelled_it : (losses : ℕ) (reply : PartitionReply) → MayAnswer (record_of w) (suc at) o.r losses (Reply reply) → IsReply reply
  spelled_it losses reply may =
      let is = run.processes o.r.part d found in
      let all = (histories_spelled setting.script o.r.part d.partition.opening d.partition.history run.so_far.script_runs is.opened is.replayed.legal is.came).1 in
      let is_in = subst (λ (es : List Entry). Contains es may.0) (history_is setting tellings w o.r.part d run found) may.1 in
      subst IsReply may.4 (all_in (λ (e : Entry). IsReply e.reply) may.0 d.partition.history is_in all)

  pub comes_it : (losses : ℕ) (reply : PartitionReply) → losses ≤ 3 → MayAnswer (record_of w) (suc at) o.r losses (Reply reply) → MayCome (next_at s.requester.way 0) (Reply reply) losses
  comes_it losses reply few may = subst (λ next. MayCome next (Reply reply) losses) (sym o.sends) (at_most (is_end o.r.request.ask), fits_it losses reply may)
    where
      at_most : (b : Bool) → losses ≤ (cond b 4 3)
      at_most true = omega (arith, few)
      at_most false = few
