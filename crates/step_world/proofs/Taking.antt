-- A session takes the reply that it waits for.
use Rattle.std.proofs.Common.{◌≡◌, ◌≤◌, ℕ, zero, suc, List, [], ◌∷◌, ◌++◌, length, replicate, Some, None, Bool, true, false, cond, refl, ap, sym, ◌∙◌, subst, arith}
use Rattle.std.specs.Prelude.{nat_lt, slice_get, slice_set}
use Rattle.std.proofs.lemmas.Bool.{eq-eqb}
use Rattle.std.proofs.lemmas.Bool.Decides.{nat_tests}
use Rattle.std.proofs.lemmas.List.{append-nil, length-map}
use Rattle.std.proofs.lemmas.Option.{slice_get_within}
use Rattle.outside.specs.declared.wire.Passage.{Passage}
use Rattle.sql_base.specs.Scripts.{Lies}
use Rattle.dp_messages.specs.declared.replies.Reply.{Reply as PartitionReply}
use Rattle.partition_core.specs.Kept.{opener_in}
use Rattle.requester_fs.specs.Asking.{Asking}
use Rattle.session_grammar.specs.UnderWay.{Sending}
use Rattle.session_grammar.specs.declared.logs.Answer.{Answer}
use Rattle.session_grammar.specs.declared.logs.Answer.TheVariants.{Reply}
use Rattle.session_grammar.specs.declared.logs.LogEntry.{LogEntry}
use Rattle.session_grammar.specs.declared.logs.LogEntry.TheVariants.{Asked}
use Rattle.run_record.specs.declared.records.Act.{Act}
use Rattle.run_record.specs.declared.records.Act.TheVariants.{Take}
use Rattle.driver_laws.specs.Carrying.{IsCarried, Telling, carried_after, passages_of}
use Rattle.driver_laws.specs.Scheduling.{Adds, OfSession}
use Rattle.driver_laws.specs.Moves.{with_acts, with_log, with_way}
use Rattle.driver_laws.proofs.Adding.{adds_take}
use Rattle.driver_laws.proofs.Carrying.{carried_taken, passages_more}
use Rattle.driver_laws.proofs.Moving.{taken}
use Rattle.step_world.specs.Scaffold.Seats.{IsAnswered, turn_of}
use Rattle.step_world.specs.Scaffold.Worlds.{Driving, IsProcess, IsTold, Scene, Setting, next_actor, record_of, request_in, sendings_so_far, steps_in, steps_with, ways_of}
use Rattle.step_world.specs.declared.processes.DiskProcess.{DiskProcess}
use Rattle.step_world.specs.declared.seats.Seat.{Seat}
use Rattle.step_world.specs.declared.seats.Turn.TheVariants as turn
use Rattle.step_world.proofs.Acting.{next_scene, others_stay, own_steps}
use Rattle.step_world.proofs.Answering.{answered_on, log_is, log_now, many, no_steps, still, takes}
use Rattle.step_world.proofs.Opened.{OpenSeat, lies_at, turn_take}
use Rattle.step_world.proofs.Places.{each_map, get_set_same}
use Rattle.step_world.proofs.Replies.{last_is, may_answer, way_was}
use Rattle.step_world.proofs.Staying.{process_stays}

pub no_sendings : (new : Seat Asking) → new.losses ≡ 0 → new.waits ≡ false → sendings_so_far new ≡ []
no_sendings new losses waits = ap (λ n. replicate n true ++ cond new.waits (false ∷ []) []) losses ∙ ap (λ b. replicate 0 true ++ cond b (false ∷ []) []) waits

-- a request was answered, and the wire told nothing more
pub told_answered : (told tellings : List Telling) (at : ℕ) (acts : List Act) (act : Act) (s new : Seat Asking) (r : Sending) (losses : ℕ) (answer : Answer) → passages_of (suc at) (act ∷ []) ≡ [] → IsTold told tellings at acts s
    → new.requester.log ≡ s.requester.log ++ Asked r.part r.sync r.request losses answer ∷ [] → new.losses ≡ 0 → new.waits ≡ false
    → sendings_so_far s ≡ replicate losses true ++ carried_after losses answer → IsTold told tellings at (acts ++ act ∷ []) new
told_answered told tellings at acts act s new r losses answer none is log unlost goes tail first now f n =
    let old = is first now f n in
    let passages : passages_of (suc at) (acts ++ act ∷ []) ≡ passages_of (suc at) acts =
    passages_more (suc at) acts act ∙ ap (λ (ps : List Passage). passages_of (suc at) acts ++ ps) none ∙ append-nil (passages_of (suc at) acts) in
    let carried = carried_taken first.first first.round (passages_of (suc at) acts) now.first s.requester.log (sendings_so_far s) old.0 r.part r.sync r.request losses answer tail in (
      subst (λ (ps : List Passage). IsCarried first.first first.round ps now.first new.requester.log (sendings_so_far new)) (sym passages)
          (subst (λ (log : List LogEntry). IsCarried first.first first.round (passages_of (suc at) acts) now.first log (sendings_so_far new)) (sym log)
          (subst (λ (bs : List Bool). IsCarried first.first first.round (passages_of (suc at) acts) now.first (s.requester.log ++ Asked r.part r.sync r.request losses answer ∷ []) bs) (sym (no_sendings new unlost goes)) carried)),
      old.1,
    )

module _ (setting : Setting) (tellings : List Telling) (w : Scene) (at : ℕ) (s new : Seat Asking) (o : OpenSeat w at s) (d : DiskProcess) (reply : PartitionReply) where
  pub took_on : Driving setting tellings w → next_actor setting w ≡ Some (OfSession (suc at)) → turn_of s ≡ turn.Take → slice_get w.processes o.r.part ≡ Some d → (opener_in d.partition (suc at)).kept ≡ Some reply
      → IsAnswered (Reply reply) s new → Driving setting tellings (next_scene w at new w.processes w.journal (Take (suc at)))
  took_on run chosen turns found told answered =
      let bits = turn_take s turns in
      let is = run.seats at s o.here in
      let lies = lies_at setting tellings w at s run o.here in
      let may = may_answer setting tellings w at s o d run found s.losses reply (last_is setting tellings w at s o d run found bits.2) told in
      let few : nat_lt s.losses 4 ≡ true = less_than s.losses (o.stands.1 bits.1) in
      let it = takes setting tellings tellings w at s new o.r s.losses (Reply reply) (Take (suc at)) run o.here o.way answered in
      let all = many setting tellings tellings w at s new o.r s.losses (Reply reply) (Take (suc at)) run o.here o.way answered in
      answered_on setting tellings tellings w at s new o.r s.losses (Reply reply) (Take (suc at)) run o.here o.way answered w.processes chosen refl
      (λ v. ap (λ (b : Bool). cond b None v) (eq-eqb (suc at) (suc at) refl))
      (taken setting.script (record_of w) (ways_of w) run.so_far all (suc at) lies (o.r ∷ []) o.r s.losses (Reply reply) new.requester.log new.requester.way (way_was setting tellings w at s o d run found) (zero, omega arith, refl) may it)
      (subst (λ log. Adds (steps_in w.seats) (steps_in (slice_set w.seats at new)) (record_of w) (with_acts (with_log (record_of w) (suc at) log) (w.acts ++ Take (suc at) ∷ [])) (Take (suc at)))
      (sym (log_now setting tellings tellings w at s new o.r s.losses (Reply reply) (Take (suc at)) run o.here o.way answered))
      (adds_take (record_of w) (steps_in w.seats) (steps_in (slice_set w.seats at new)) (suc at) (lies_in w at s o.here) o.r.part o.r.sync o.r.request s.losses reply few
      (own_steps w.seats at s o.here ∙ ap (λ q. steps_with q s.losses s.waits) (ap request_in o.way) ∙ ap (steps_with (Some o.r) s.losses) bits.1)
      (own_steps (slice_set w.seats at new) at new (get_set_same w.seats at s new o.here) ∙ no_steps new answered.unlost answered.goes) (others_stay w.seats at new)))
      (λ i differ. refl)
      (told_answered setting.told tellings at w.acts (Take (suc at)) s new o.r s.losses (Reply reply) refl is.told
      (log_is setting tellings tellings w at s new o.r s.losses (Reply reply) (Take (suc at)) run o.here o.way answered) answered.unlost answered.goes
      (ap (λ (b : Bool). replicate s.losses true ++ cond b (false ∷ []) []) (bits.1 ∙ sym few)))
      (each_map (IsProcess setting.script (record_of w) (ways_of w)) (IsProcess setting.script (with_acts (with_log (record_of w) (suc at) new.requester.log) (w.acts ++ Take (suc at) ∷ [])) (with_way (ways_of w) (suc at) new.requester.way)) w.processes
      (λ part x there p. process_stays setting.script (record_of w) (with_acts (with_log (record_of w) (suc at) new.requester.log) (w.acts ++ Take (suc at) ∷ [])) (ways_of w) (with_way (ways_of w) (suc at) new.requester.way) (Take (suc at)) part x
      (still setting tellings tellings w at s new o.r s.losses (Reply reply) (Take (suc at)) run o.here o.way answered) refl (λ mail. refl) p) run.processes)
    where
      less_than : (m : ℕ) → m ≤ 3 → nat_lt m 4 ≡ true
      less_than m h = grind (arith, nat_tests)

      lies_in : (x : Scene) (i : ℕ) (y : Seat Asking) → slice_get x.seats i ≡ Some y → Lies 1 (length (record_of x).logs) (suc i)
      lies_in x i y is =
          let less = slice_get_within x.seats i y is in
          let long = length-map x.seats (λ (z : Seat Asking). z.requester.log) in
          (omega arith, omega (arith, less, long))
