-- What becomes of a request on its path: the three ways in which a sending goes on.
use Rattle.std.proofs.Common.{◌≡◌, ◌≤◌, ◌<◌, ◌+◌, ℕ, zero, suc, List, [], ◌∷◌, ◌++◌, length, map, replicate, Some, None, Bool, true, false, cond, refl, ap, sym, ◌∙◌, subst, arith}
use Rattle.std.specs.Prelude.{nat_lt, ◌||◌, option_map, slice_get, slice_set}
use Rattle.std.proofs.lemmas.Bool.{eq-eqb}
use Rattle.std.proofs.lemmas.Bool.Decides.{nat_tests}
use Rattle.std.proofs.lemmas.List.{append-nil, length-map}
use Rattle.std.proofs.lemmas.Option.{slice_get_within}
use Rattle.outside.specs.Wire.{is_loss}
use Rattle.outside.specs.declared.wire.Passage.{Passage}
use Rattle.sql_base.specs.Scripts.{Lies}
use Rattle.dp_messages.specs.Spelling.{request_bytes}
use Rattle.partition_state.specs.declared.entries.Entry.{Entry}
use Rattle.requester_fs.specs.Asking.{Asking}
use Rattle.session_grammar.specs.Rows.{is_end}
use Rattle.session_grammar.specs.UnderWay.{Sending}
use Rattle.session_grammar.specs.declared.logs.Answer.{Answer}
use Rattle.session_grammar.specs.declared.logs.Answer.TheVariants.{PathFailed}
use Rattle.session_grammar.specs.declared.logs.LogEntry.{LogEntry}
use Rattle.session_grammar.specs.declared.logs.LogEntry.TheVariants.{Asked}
use Rattle.run_record.specs.Openings.{log_of}
use Rattle.run_record.specs.declared.records.Act.{Act}
use Rattle.run_record.specs.declared.records.Act.TheVariants.{Send}
use Rattle.record_laws.specs.SoFar.{LegalSoFar}
use Rattle.driver_laws.specs.Carrying.{IsCarried, Telling, carried_after, passages_of}
use Rattle.driver_laws.specs.Moves.{with_acts, with_log, with_way}
use Rattle.driver_laws.specs.Scheduling.{Adds, Lost, OfSession, Sent}
use Rattle.driver_laws.proofs.Adding.{adds_failed}
use Rattle.driver_laws.proofs.Carrying.{carried_taken}
use Rattle.driver_laws.proofs.Moving.{taken}
use Rattle.requester_fs.specs.Beginnings.{EachAt}
use Rattle.step_world.specs.Scaffold.Seats.{IsAnswered, IsSent, sent_by, turn_of}
use Rattle.step_world.specs.Tellings.{HasTold}
use Rattle.step_world.specs.Scaffold.Worlds.{Driving, IsProcess, IsTold, Scene, Setting, awaited_of, next_actor, record_of, request_in, seat_steps, sendings_so_far, steps_in, steps_with, ways_of}
use Rattle.step_world.specs.declared.processes.DiskProcess.{DiskProcess}
use Rattle.step_world.specs.declared.seats.Seat.{Seat}
use Rattle.step_world.specs.declared.seats.Turn.TheVariants as turn
use Rattle.step_world.proofs.Acting.{next_scene, others_stay, own_steps}
use Rattle.step_world.proofs.Answering.{answered_on, log_is, log_now, many, no_steps, still, takes}
use Rattle.step_world.proofs.Handed.{few_losses}
use Rattle.step_world.proofs.Opened.{OpenSeat, is_posted, lies_at, others_tell, turn_send, way_at}
use Rattle.step_world.proofs.Places.{get_set_same, map_set_same}
use Rattle.step_world.proofs.Sending.{message_of, posted_to, posts_all, sent_still, told_more}
use Rattle.step_world.proofs.Taking.{no_sendings}

replicate_more : {X : Type 0} (n : ℕ) (x : X) → replicate (n + 1) x ≡ replicate n x ++ x ∷ []
replicate_more zero x = refl
replicate_more (suc n) x = let more : suc n + 1 ≡ suc (n + 1) = omega arith in ap (λ m. replicate m x) more ∙ ap (λ xs. x ∷ xs) (replicate_more n x)

-- the wire told what the log lost, and the request is closed
pub told_closed : (told tellings : List Telling) (at : ℕ) (acts : List Act) (s new : Seat Asking) (r : Sending) (losses : ℕ) (answer : Answer) → IsTold told tellings at acts s
    → new.requester.log ≡ s.requester.log ++ Asked r.part r.sync r.request losses answer ∷ [] → new.losses ≡ 0 → new.waits ≡ false → sendings_so_far s ≡ replicate losses true ++ carried_after losses answer → IsTold told tellings at acts new
told_closed told tellings at acts s new r losses answer is log unlost goes tail first now f n =
    let old = is first now f n in
    let carried = carried_taken first.first first.round (passages_of (suc at) acts) now.first s.requester.log (sendings_so_far s) old.0 r.part r.sync r.request losses answer tail in (
      subst (λ (log : List LogEntry). IsCarried first.first first.round (passages_of (suc at) acts) now.first log (sendings_so_far new)) (sym log)
          (subst (λ (bs : List Bool). IsCarried first.first first.round (passages_of (suc at) acts) now.first (s.requester.log ++ Asked r.part r.sync r.request losses answer ∷ []) bs) (sym (no_sendings new unlost goes)) carried),
      old.1,
    )

module _ (setting : Setting) (before after : List Telling) (w : Scene) (at : ℕ) (s new : Seat Asking) (passage : Passage) (d : DiskProcess) (o : OpenSeat w at s) (turns : turn_of s ≡ turn.Send) (found : slice_get w.processes o.r.part ≡ Some d)
    (has : HasTold at passage before after) (run : Driving setting before w) (chosen : next_actor setting w ≡ Some (OfSession (suc at))) where
  abbrev act : Act
  act = Send (suc at) o.r.part o.r.sync passage

  abbrev processes : List DiskProcess
  processes = slice_set w.processes o.r.part (posted_to d passage (request_bytes (message_of at o.r)))

  goes : s.waits ≡ false
  goes = (turn_send s turns).1

  few : s.losses < 4
  few = few_losses s o.r o.stands (turn_send s turns).2

  steps_were : seat_steps s ≡ replicate s.losses (Lost o.r.part o.r.sync)
  steps_were = ap (λ q. steps_with q s.losses s.waits) (ap request_in o.way) ∙ ap (steps_with (Some o.r) s.losses) goes ∙ append-nil (replicate s.losses (Lost o.r.part o.r.sync))

  sendings_were : sendings_so_far s ≡ replicate s.losses true
  sendings_were = ap (λ b. replicate s.losses true ++ cond b (false ∷ []) []) goes ∙ append-nil (replicate s.losses true)

  carried_on : is_loss passage ≡ false → new ≡ record s { waits = true } → Driving setting after (next_scene w at new processes w.journal act)
  carried_on loss is =
      subst (λ x. Driving setting after (next_scene w at x processes w.journal act)) (sym is)
      (sent_still setting before after w at s o.r passage d s.losses true run has chosen o.here found o.way (o.stands.0, (λ e. omega (arith, few)), o.stands.2)
      (ap (option_map awaited_of) (ap request_in o.way) ∙ sym (ap (λ b. cond b None (Some (awaited_of o.r))) loss))
      (ap (λ q. steps_with q s.losses true) (ap request_in o.way) ∙ sym (ap (λ ss. ss ++ cond (is_loss passage) (Lost o.r.part o.r.sync) (Sent o.r.part o.r.sync) ∷ []) steps_were
      ∙ ap (λ b. replicate s.losses (Lost o.r.part o.r.sync) ++ cond b (Lost o.r.part o.r.sync) (Sent o.r.part o.r.sync) ∷ []) loss))
      (sym (ap (λ bs. bs ++ is_loss passage ∷ []) sendings_were ∙ ap (λ b. replicate s.losses true ++ b ∷ []) loss)))

  lost_on : is_loss passage ≡ true → (is_end o.r.request.ask ≡ false → s.losses + 1 ≤ 3) → new ≡ record s { losses = s.losses + 1 } → Driving setting after (next_scene w at new processes w.journal act)
  lost_on loss left is =
      subst (λ x. Driving setting after (next_scene w at x processes w.journal act)) (sym is)
      (sent_still setting before after w at s o.r passage d (s.losses + 1) s.waits run has chosen o.here found o.way (omega (arith, few), (λ e. absurd (cc (e, goes))), left)
      (ap (λ b. cond b (option_map awaited_of (request_in s.requester.way)) None) goes ∙ sym (ap (λ b. cond b None (Some (awaited_of o.r))) loss))
      (ap (λ q. steps_with q (s.losses + 1) s.waits) (ap request_in o.way) ∙ ap (steps_with (Some o.r) (s.losses + 1)) goes ∙ append-nil (replicate (s.losses + 1) (Lost o.r.part o.r.sync)) ∙ replicate_more s.losses (Lost o.r.part o.r.sync)
      ∙ sym (ap (λ ss. ss ++ cond (is_loss passage) (Lost o.r.part o.r.sync) (Sent o.r.part o.r.sync) ∷ []) steps_were
      ∙ ap (λ b. replicate s.losses (Lost o.r.part o.r.sync) ++ cond b (Lost o.r.part o.r.sync) (Sent o.r.part o.r.sync) ∷ []) loss))
      (ap (λ b. replicate (s.losses + 1) true ++ cond b (false ∷ []) []) goes ∙ append-nil (replicate (s.losses + 1) true) ∙ replicate_more s.losses true
      ∙ sym (ap (λ bs. bs ++ is_loss passage ∷ []) sendings_were ∙ ap (λ b. replicate s.losses true ++ b ∷ []) loss)))

  failed_on : is_loss passage ≡ true → s.losses + 1 ≡ 4 → IsAnswered PathFailed (record s { losses = s.losses + 1 }) new → Driving setting after (next_scene w at new processes w.journal act)
  failed_on loss four answered =
      let n = suc at in
      let is = run.seats at s o.here in
      let lies = lies_at setting before w at s run o.here in
      let it = takes setting before after w at s new o.r (s.losses + 1) PathFailed act run o.here o.way answered in
      let log = new.requester.log in
      let way = new.requester.way in
      let same : map (λ (x : DiskProcess). x.partition.history) processes ≡ map (λ (x : DiskProcess). x.partition.history) w.processes =
      map_set_same (λ (x : DiskProcess). x.partition.history) w.processes o.r.part d (posted_to d passage (request_bytes (message_of at o.r))) found refl in
      let still_posted = still setting before after w at s new o.r (s.losses + 1) PathFailed act run o.here o.way answered in
      let log_is_so = log_now setting before after w at s new o.r (s.losses + 1) PathFailed act run o.here o.way answered
      ∙ ap (λ m. log_of (record_of w) n ++ Asked o.r.part o.r.sync o.r.request m PathFailed ∷ []) four in
      let three : s.losses ≡ 3 = omega (arith, four) in
      answered_on setting before after w at s new o.r (s.losses + 1) PathFailed act run o.here o.way answered processes chosen refl
      (λ v. ap (λ b. cond b (cond (is_loss passage) None (Some (awaited_of o.r))) v) (eq-eqb n n refl) ∙ ap (λ b. cond b None (Some (awaited_of o.r))) loss)
      (subst (λ (hs : List (List Entry)). LegalSoFar setting.script (record (with_log (record_of w) n log) { histories = hs }) (with_way (ways_of w) n way)) (sym same)
      (taken setting.script (record_of w) (ways_of w) run.so_far (many setting before after w at s new o.r (s.losses + 1) PathFailed act run o.here o.way answered) n lies (o.r ∷ []) o.r (s.losses + 1) PathFailed log way
      (way_at w at s o.here ∙ o.way) (zero, omega arith, refl) four it))
      (subst (λ (hs : List (List Entry)). Adds (steps_in w.seats) (steps_in (slice_set w.seats at new)) (record_of w) (record (with_acts (with_log (record_of w) n log) (w.acts ++ act ∷ [])) { histories = hs }) act) (sym same)
      (subst (λ l. Adds (steps_in w.seats) (steps_in (slice_set w.seats at new)) (record_of w) (with_acts (with_log (record_of w) n l) (w.acts ++ act ∷ [])) act) (sym log_is_so)
      (adds_failed (record_of w) (steps_in w.seats) (steps_in (slice_set w.seats at new)) n (lies_in w at s o.here) o.r.part o.r.sync o.r.request passage loss
      (own_steps w.seats at s o.here ∙ steps_were ∙ ap (λ m. replicate m (Lost o.r.part o.r.sync)) three) (own_steps (slice_set w.seats at new) at new (get_set_same w.seats at s new o.here) ∙ no_steps new answered.unlost answered.goes)
      (others_stay w.seats at new))))
      (others_tell at passage before after has)
      (told_closed setting.told after at (w.acts ++ act ∷ []) (record s { losses = s.losses + 1 }) new o.r (s.losses + 1) PathFailed
      (told_more setting.told before after at w.acts s (record s { losses = s.losses + 1 }) o.r.part o.r.sync passage has is.told refl
      (ap (λ b. replicate (s.losses + 1) true ++ cond b (false ∷ []) []) goes ∙ append-nil (replicate (s.losses + 1) true) ∙ replicate_more s.losses true
      ∙ sym (ap (λ bs. bs ++ is_loss passage ∷ []) sendings_were ∙ ap (λ b. replicate s.losses true ++ b ∷ []) loss)))
      (log_is setting before after w at s new o.r (s.losses + 1) PathFailed act run o.here o.way answered) answered.unlost answered.goes
      (ap (λ b. replicate (s.losses + 1) true ++ cond b (false ∷ []) []) goes))
      (subst (λ (hs : List (List Entry)). EachAt (IsProcess setting.script (record (with_acts (with_log (record_of w) n log) (w.acts ++ act ∷ [])) { histories = hs }) (with_way (ways_of w) n way)) processes) (sym same)
      (posts_all setting.script (record_of w) (with_acts (with_log (record_of w) n log) (w.acts ++ act ∷ [])) (ways_of w) (with_way (ways_of w) n way) n o.r passage w.processes d still_posted refl lies o.spelled
      (is_posted (record_of w) (ways_of w) n o.r (way_at w at s o.here ∙ o.way)) found run.processes))
    where
      lies_in : (x : Scene) (i : ℕ) (y : Seat Asking) → slice_get x.seats i ≡ Some y → Lies 1 (length (record_of x).logs) (suc i)
      lies_in x i y is =
          let less = slice_get_within x.seats i y is in
          let long = length-map x.seats (λ (z : Seat Asking). z.requester.log) in
          (omega arith, omega (arith, less, long))

  pub sent_on : (ends : Bool) → ends ≡ is_end o.r.request.ask → IsSent passage ends s new → Driving setting after (next_scene w at new processes w.journal act)
  sent_on ends its sent = by_cases (is_loss passage) (nat_lt (s.losses + 1) 4) ends refl refl its sent
    where
      by_cases : (loss less e : Bool) → is_loss passage ≡ loss → nat_lt (s.losses + 1) 4 ≡ less → e ≡ is_end o.r.request.ask → sent_by loss (less || e) s new → Driving setting after (next_scene w at new processes w.journal act)
      by_cases false less e l t i h = carried_on l h
      by_cases true true e l t i h = lost_on l (λ no. under t) h
        where
          under : nat_lt (s.losses + 1) 4 ≡ true → s.losses + 1 ≤ 3
          under x = grind (arith, nat_tests)
      by_cases true false true l t i h = lost_on l (λ no. absurd (cc (i, no))) h
      by_cases true false false l t i h = failed_on l (reached t few) h
        where
          reached : nat_lt (s.losses + 1) 4 ≡ false → s.losses < 4 → s.losses + 1 ≡ 4
          reached x y = grind (arith, nat_tests)
