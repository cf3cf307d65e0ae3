-- A session serves the End itself that its path lost four times.
use Rattle.std.proofs.Common.{◌≡◌, ◌≤◌, ◌<◌, ℕ, zero, suc, List, [], ◌∷◌, ◌++◌, length, map, replicate, Some, None, Bool, true, false, cond, refl, ap, sym, ◌∙◌, subst, arith, inl, inr}
use Rattle.std.specs.Prelude.{Contains, nat_lt, slice_get, slice_set}
use Rattle.std.specs.List.{AllZip}
use Rattle.std.proofs.lemmas.Bool.{eq-eqb, eqb-true}
use Rattle.std.proofs.lemmas.List.{append-nil, length-map}
use Rattle.std.proofs.lemmas.List.Elements.{Contains-append_right}
use Rattle.std.proofs.lemmas.Option.{slice_get_within}
use Rattle.sql_base.specs.Scripts.{Lies}
use Rattle.dp_messages.specs.Spelling.{IsReply}
use Rattle.dp_messages.specs.declared.replies.Reply.{Reply as PartitionReply}
use Rattle.partition_core.specs.Kept.{Kept, entry_of, opener_in, served}
use Rattle.partition_core.proofs.KeptReplies.{kept_reply}
use Rattle.partition_state.specs.State.{Opener, State}
use Rattle.partition_state.specs.declared.entries.Entry.{Entry}
use Rattle.plans_laws.proofs.SpelledHistories.{histories_spelled}
use Rattle.plans_laws.proofs.Suiting.{plans_suit}
use Rattle.requester_fs.specs.Asking.{Asking, next_at}
use Rattle.session_grammar.specs.Rows.{fits, is_end}
use Rattle.session_grammar.specs.Sessions.{MayCome}
use Rattle.session_grammar.specs.UnderWay.{Awaiting, IsOpen, TakesAnswer, UnderWay}
use Rattle.session_grammar.specs.declared.logs.Answer.TheVariants.{Reply}
use Rattle.session_grammar.specs.declared.logs.LogEntry.{LogEntry}
use Rattle.session_grammar.specs.declared.logs.LogEntry.TheVariants.{Asked}
use Rattle.run_record.specs.Openings.{history_of, log_of}
use Rattle.run_record.specs.declared.records.Act.{Act}
use Rattle.run_record.specs.declared.records.Act.TheVariants.{ByHand}
use Rattle.run_record.specs.declared.records.RunRecord.{RunRecord}
use Rattle.record_laws.specs.SoFar.{LegalSoFar, way_of}
use Rattle.driver_laws.specs.Moves.{IsPosted, MayAnswer, with_acts, with_entry, with_log, with_way}
use Rattle.driver_laws.specs.Scheduling.{Adds, Lost, OfSession, mail_after}
use Rattle.driver_laws.proofs.Adding.{adds_hand_new, adds_hand_old}
use Rattle.driver_laws.proofs.Moving.{later, served as served_so_far, taken}
use Rattle.driver_laws.proofs.Picking.{answer_fits, never_passed, served_before}
use Rattle.driver_laws.proofs.Seats.{seat_same}
use Rattle.driver_laws.proofs.Starting.{by_hand}
use Rattle.requester_fs.specs.Beginnings.{EachAt}
use Rattle.driver_laws.specs.Carrying.{Telling}
use Rattle.step_world.specs.Scaffold.Mails.{CanReply, Handles}
use Rattle.step_world.specs.Scaffold.Seats.{IsAnswered, turn_of}
use Rattle.step_world.specs.Scaffold.Worlds.{Driving, IsMessage, IsProcess, Scene, Setting, next_actor, record_of, request_in, steps_in, steps_with, ways_of}
use Rattle.step_world.specs.declared.processes.DiskProcess.{DiskProcess}
use Rattle.step_world.specs.declared.seats.Seat.{Seat}
use Rattle.step_world.specs.declared.seats.Turn.TheVariants as turn
use Rattle.step_world.proofs.Acting.{next_scene, others_stay, own_steps}
use Rattle.step_world.proofs.Answering.{answered_on, log_is, log_now, many, no_steps, still, takes}
use Rattle.step_world.proofs.Handled.{came_on, histories_on, is_next, replayed_on, unmarked_on}
use Rattle.step_world.proofs.Opened.{OpenSeat, is_posted, lies_at, turn_hand, way_at}
use Rattle.step_world.proofs.Places.{each_set, get_set_same, map_set_same}
use Rattle.step_world.proofs.Replies.{fits_it, may_answer, opener_is, spelled_it, unmarked_at, within_histories}
use Rattle.step_world.proofs.Staying.{mail_on, mail_one, process_stays}
use Rattle.step_world.proofs.Taking.{told_answered}
use Rattle.sql_base.proofs.ListFacts.{length-set, all_in}

module _ (setting : Setting) (tellings : List Telling) (w : Scene) (at : ℕ) (s : Seat Asking) (o : OpenSeat w at s) (d : DiskProcess) (run : Driving setting tellings w) (found : slice_get w.processes o.r.part ≡ Some d) (turns : turn_of s ≡ turn.ServeByHand) where
  abbrev n : ℕ
  n = suc at

  abbrev k : Kept
  k = d.partition

  abbrev en : Entry
  en = entry_of k.now n o.r.sync o.r.request

  lies : Lies 1 (length setting.script.sessions) n
  lies = lies_at setting tellings w at s run o.here

  way_is : way_of (ways_of w) n ≡ Awaiting (o.r ∷ [])
  way_is = way_at w at s o.here ∙ o.way

  contains_it : Contains (o.r ∷ []) o.r
  contains_it = (zero, omega arith, refl)

  within : o.r.part < length (record_of w).histories
  within = within_histories setting tellings w o.r.part d run found

  posted : IsPosted (record_of w) (ways_of w) n o.r.part o.r.sync o.r.request
  posted = is_posted (record_of w) (ways_of w) n o.r way_is

  pub four : s.losses ≡ 4
  four = eqb-true s.losses 4 (turn_hand s turns).2

  ends : is_end o.r.request.ask ≡ true
  ends = by_end (is_end o.r.request.ask) o.stands.2
    where
      by_end : (b : Bool) → (b ≡ false → s.losses ≤ 3) → b ≡ true
      by_end true h = refl
      by_end false h = let few = h refl in let all = four in absurd (omega arith)

  last_up_to : (opener_in k n).last ≤ o.r.sync
  last_up_to =
      subst (λ (x : Opener). x.last ≤ o.r.sync) (sym (opener_is setting tellings w o.r.part d run found n))
      (never_passed setting.script (record_of w) (ways_of w) run.so_far n lies o.r.part within k.opening (run.processes o.r.part d found).opened o.r refl (subst (λ u. IsOpen u o.r) (sym way_is) contains_it))

  -- the partition can serve and reply
  pub can_reply : CanReply k n o.r.sync
  can_reply =
      let is = run.processes o.r.part d found in
      record {
        openers = subst (λ (p : State). length p.openers ≡ 8) (sym is.replayed.replayed) (histories_spelled setting.script o.r.part k.opening k.history run.so_far.script_runs is.opened is.replayed.legal is.came).0.keeps.openers;
        marks = is.unmarked;
        last = subst (λ (x : Opener). x.last ≤ o.r.sync) (unmarked_at setting tellings w o.r.part d run found n) last_up_to;
      }

  module _ (new : (opener_in k n).last < o.r.sync) where
    kept_new : LegalSoFar setting.script (with_entry (record_of w) o.r.part en) (ways_of w)
    kept_new =
        served_so_far setting.script (record_of w) (ways_of w) run.so_far o.r.part within en lies (is_next setting tellings w o.r.part d run found n o.r.sync o.r.request o.spelled new) posted

    told_new : (opener_in (served k n o.r.sync o.r.request) n).kept ≡ Some en.reply
    told_new =
        (kept_reply k n o.r.sync o.r.request o.spelled.opener can_reply.openers (subst (λ (x : Opener). x.last < o.r.sync) (unmarked_at setting tellings w o.r.part d run found n) new)).2

    may_new : (losses : ℕ) → MayAnswer (with_entry (record_of w) o.r.part en) n o.r losses (Reply en.reply)
    may_new losses = (
      en,
      subst (λ (es : List Entry). Contains es en) (sym (seat_same [] (record_of w).histories o.r.part (history_of (record_of w) o.r.part ++ en ∷ []) within))
          (Contains-append_right (history_of (record_of w) o.r.part) (en ∷ []) en (zero, omega arith, refl)),
      refl,
      refl,
      refl,
    )

    within_new : o.r.part < length (with_entry (record_of w) o.r.part en).histories
    within_new = let long = length-set (record_of w).histories o.r.part (history_of (record_of w) o.r.part ++ en ∷ []) in let less = within in omega arith

    fits_new : fits o.r.request.ask en.reply ≡ true
    fits_new =
        answer_fits setting.script (with_entry (record_of w) o.r.part en) (ways_of w) (plans_suit setting.script run.so_far.script_runs) kept_new n lies (o.r ∷ []) o.r en.reply way_is contains_it within_new 4 (may_new 4)

    spelled_new : IsReply en.reply
    spelled_new =
        let is = run.processes o.r.part d found in
        all_in (λ (x : Entry). IsReply x.reply) en (k.history ++ en ∷ []) (Contains-append_right k.history (en ∷ []) en (zero, omega arith, refl)) (histories_spelled setting.script o.r.part k.opening (k.history ++ en ∷ []) run.so_far.script_runs is.opened (replayed_on setting tellings w o.r.part d run found n o.r.sync o.r.request o.spelled new).legal
        (came_on setting tellings w o.r.part d run found n o.r.sync o.r.request o.spelled new)).1

  -- the reply that is kept fits and can be spelled
  pub handed_fits : (after : Kept) (reply : PartitionReply) → Handles k n o.r.sync o.r.request after → (opener_in after n).kept ≡ Some reply → (fits o.r.request.ask reply ≡ true) × IsReply reply
  handed_fits after reply handled told = elim handled [ inl new ↦ as_new new | inr old ↦ as_old old ]
    where
      as_new : ((opener_in k n).last < o.r.sync) × (after ≡ served k n o.r.sync o.r.request) → (fits o.r.request.ask reply ≡ true) × IsReply reply
      as_new h =
          let both : Some reply ≡ Some en.reply = sym told ∙ ap (λ (x : Kept). (opener_in x n).kept) h.1 ∙ told_new h.0 in
          let same : en.reply ≡ reply = cc in
          (subst (λ r. fits o.r.request.ask r ≡ true) same (fits_new h.0), subst IsReply same (spelled_new h.0))

      as_old : (o.r.sync ≤ (opener_in k n).last) × (after ≡ k) → (fits o.r.request.ask reply ≡ true) × IsReply reply
      as_old h =
          let least = h.0 in
          let most = last_up_to in
          let last : (opener_in k n).last ≡ o.r.sync = omega arith in
          let may = may_answer setting tellings w at s o d run found 4 reply last (ap (λ (x : Kept). (opener_in x n).kept) (sym h.1) ∙ told) in
          (fits_it setting tellings w at s o d run found 4 reply may, spelled_it setting tellings w at s o d run found 4 reply may)

  pub handed_comes : (reply : PartitionReply) → fits o.r.request.ask reply ≡ true → MayCome (next_at s.requester.way 0) (Reply reply) s.losses
  handed_comes reply fit = subst (λ next. MayCome next (Reply reply) s.losses) (sym o.sends) (subst (λ b. s.losses ≤ cond b 4 3) (sym ends) (let all = four in omega arith), fit)

  -- with the histories as they are now
  module _ (new : Seat Asking) (after : DiskProcess) (reply : PartitionReply) (answered : IsAnswered (Reply reply) s new) (mail : after.mail ≡ d.mail) where
    abbrev act : Act
    act = ByHand n o.r.part o.r.sync

    abbrev processes : List DiskProcess
    processes = slice_set w.processes o.r.part after

    abbrev log : List LogEntry
    log = new.requester.log

    abbrev with_histories : List (List Entry) → RunRecord
    with_histories hs = record (with_acts (with_log (record_of w) n log) (w.acts ++ act ∷ [])) { histories = hs }

    abbrev ways_now : List UnderWay
    ways_now = with_way (ways_of w) n new.requester.way

    lies_in : Lies 1 (length (record_of w).logs) n
    lies_in =
        let less = slice_get_within w.seats at s o.here in
        let long = length-map w.seats (λ (z : Seat Asking). z.requester.log) in
        (omega arith, omega (arith, less, long))

    own_was : steps_in w.seats n ≡ replicate 4 (Lost o.r.part o.r.sync)
    own_was =
        own_steps w.seats at s o.here ∙ ap (λ q. steps_with q s.losses s.waits) (ap request_in o.way) ∙ ap (steps_with (Some o.r) s.losses) (turn_hand s turns).1 ∙ append-nil (replicate s.losses (Lost o.r.part o.r.sync))
        ∙ ap (λ m. replicate m (Lost o.r.part o.r.sync)) four

    own_now : steps_in (slice_set w.seats at new) n ≡ []
    own_now = own_steps (slice_set w.seats at new) at new (get_set_same w.seats at s new o.here) ∙ no_steps new answered.unlost answered.goes

    log_is_so : log ≡ log_of (record_of w) n ++ Asked o.r.part o.r.sync o.r.request 4 (Reply reply) ∷ []
    log_is_so =
        log_now setting tellings tellings w at s new o.r s.losses (Reply reply) act run o.here o.way answered ∙ ap (λ m. log_of (record_of w) n ++ Asked o.r.part o.r.sync o.r.request m (Reply reply) ∷ []) four

    hands : (hs : List (List Entry)) → map (λ (x : DiskProcess). x.partition.history) processes ≡ hs → LegalSoFar setting.script (record (with_log (record_of w) n log) { histories = hs }) ways_now
        → Adds (steps_in w.seats) (steps_in (slice_set w.seats at new)) (record_of w) (with_histories hs) act → IsProcess setting.script (record_of w) (ways_of w) o.r.part (record d { partition = after.partition })
        → next_actor setting w ≡ Some (OfSession n) → Driving setting tellings (next_scene w at new processes w.journal act)
    hands hs same legal adds own chosen =
        let is = run.seats at s o.here in
        let still_posted = still setting tellings tellings w at s new o.r s.losses (Reply reply) act run o.here o.way answered in
        answered_on setting tellings tellings w at s new o.r s.losses (Reply reply) act run o.here o.way answered processes chosen refl (λ v. ap (λ (b : Bool). cond b None v) (eq-eqb n n refl))
        (subst (λ (xs : List (List Entry)). LegalSoFar setting.script (record (with_log (record_of w) n log) { histories = xs }) ways_now) (sym same) legal)
        (subst (λ (xs : List (List Entry)). Adds (steps_in w.seats) (steps_in (slice_set w.seats at new)) (record_of w) (with_histories xs) act) (sym same) adds)
        (λ i differ. refl)
        (told_answered setting.told tellings at w.acts act s new o.r s.losses (Reply reply) refl is.told (log_is setting tellings tellings w at s new o.r s.losses (Reply reply) act run o.here o.way answered) answered.unlost answered.goes
        (ap (λ (b : Bool). replicate s.losses true ++ cond b (false ∷ []) []) ((turn_hand s turns).1 ∙ sym (ap (λ m. nat_lt m 4) four))))
        (subst (λ (xs : List (List Entry)). EachAt (IsProcess setting.script (with_histories xs) ways_now) processes) (sym same)
        (each_set (IsProcess setting.script (record_of w) (ways_of w)) (IsProcess setting.script (with_histories hs) ways_now) w.processes o.r.part d after found
        (record {
          opened = own.opened;
          replayed = own.replayed;
          unmarked = own.unmarked;
          came = own.came;
          mail = subst (λ bytes. AllZip (IsMessage (length setting.script.sessions) (with_histories hs) ways_now o.r.part) (mail_after o.r.part (w.acts ++ act ∷ [])) bytes) (sym mail)
              (subst (λ ms. AllZip (IsMessage (length setting.script.sessions) (with_histories hs) ways_now o.r.part) ms d.mail) (sym (mail_one o.r.part w.acts act))
              (mail_on (length setting.script.sessions) (record_of w) (with_histories hs) (ways_of w) ways_now still_posted o.r.part (mail_after o.r.part w.acts) d.mail (run.processes o.r.part d found).mail));
        })
        (λ part x differ there p. process_stays setting.script (record_of w) (with_histories hs) (ways_of w) ways_now act part x still_posted refl (λ m. refl) p) run.processes))

    pub handed_on : Handles k n o.r.sync o.r.request after.partition → (opener_in after.partition n).kept ≡ Some reply → next_actor setting w ≡ Some (OfSession n) → Driving setting tellings (next_scene w at new processes w.journal act)
    handed_on handled told chosen = elim handled [ inl fresh ↦ as_new fresh | inr old ↦ as_old old ]
      where
        as_new : ((opener_in k n).last < o.r.sync) × (after.partition ≡ served k n o.r.sync o.r.request) → Driving setting tellings (next_scene w at new processes w.journal act)
        as_new h =
            let is = run.processes o.r.part d found in
            let both : Some reply ≡ Some en.reply = sym told ∙ ap (λ (x : Kept). (opener_in x n).kept) h.1 ∙ told_new h.0 in
            let same : en.reply ≡ reply = cc in
            let next = is_next setting tellings w o.r.part d run found n o.r.sync o.r.request o.spelled h.0 in
            let it = takes setting tellings tellings w at s new o.r s.losses (Reply reply) act run o.here o.way answered in
            let legal = by_hand setting.script (record_of w) (ways_of w) run.so_far (many setting tellings tellings w at s new o.r s.losses (Reply reply) act run o.here o.way answered) en lies (o.r ∷ []) o.r s.losses log new.requester.way within next posted
            way_is contains_it refl (subst (λ r. TakesAnswer setting.script n (log_of (record_of w) n) (o.r ∷ []) o.r s.losses (Reply r) log new.requester.way) (sym same) it) in
            hands (with_entry (record_of w) o.r.part en).histories (histories_on setting tellings w o.r.part d run found n o.r.sync o.r.request o.spelled h.0 after (ap (λ (x : Kept). x.history) h.1)) legal
            (subst (λ l. Adds (steps_in w.seats) (steps_in (slice_set w.seats at new)) (record_of w) (with_acts (with_log (with_entry (record_of w) o.r.part en) n l) (w.acts ++ act ∷ [])) act) (sym log_is_so)
            (adds_hand_new (record_of w) (steps_in w.seats) (steps_in (slice_set w.seats at new)) en lies_in o.r.part o.r.request reply within (later setting.script (record_of w) (ways_of w) run.so_far o.r.part within en lies next)
            own_was own_now (others_stay w.seats at new)))
            (subst (λ (x : Kept). IsProcess setting.script (record_of w) (ways_of w) o.r.part (record d { partition = x })) (sym h.1)
            (record {
              opened = is.opened;
              replayed = replayed_on setting tellings w o.r.part d run found n o.r.sync o.r.request o.spelled h.0;
              unmarked = unmarked_on setting tellings w o.r.part d run found n o.r.sync o.r.request o.spelled h.0;
              came = came_on setting tellings w o.r.part d run found n o.r.sync o.r.request o.spelled h.0;
              mail = is.mail;
            })) chosen

        as_old : (o.r.sync ≤ (opener_in k n).last) × (after.partition ≡ k) → Driving setting tellings (next_scene w at new processes w.journal act)
        as_old h =
            let is = run.processes o.r.part d found in
            let least = h.0 in
            let most = last_up_to in
            let last : (opener_in k n).last ≡ o.r.sync = omega arith in
            let may = may_answer setting tellings w at s o d run found s.losses reply last (ap (λ (x : Kept). (opener_in x n).kept) (sym h.1) ∙ told) in
            let it = takes setting tellings tellings w at s new o.r s.losses (Reply reply) act run o.here o.way answered in
            let legal = taken setting.script (record_of w) (ways_of w) run.so_far (many setting tellings tellings w at s new o.r s.losses (Reply reply) act run o.here o.way answered) n lies (o.r ∷ []) o.r s.losses (Reply reply) log new.requester.way
            way_is contains_it may it in
            let first : 1 ≤ o.r.sync = o.spelled.sync.0 in
            let old = served_before setting.script (record_of w) (ways_of w) run.so_far n lies o.r.part within k.opening is.opened o.r.sync (omega (arith, first))
            (subst (λ (x : Opener). o.r.sync ≤ x.last) (opener_is setting tellings w o.r.part d run found n) h.0) in
            hands (record_of w).histories (map_set_same (λ (x : DiskProcess). x.partition.history) w.processes o.r.part d after found (ap (λ (x : Kept). x.history) h.1)) legal
            (subst (λ l. Adds (steps_in w.seats) (steps_in (slice_set w.seats at new)) (record_of w) (with_acts (with_log (record_of w) n l) (w.acts ++ act ∷ [])) act) (sym log_is_so)
            (adds_hand_old (record_of w) (steps_in w.seats) (steps_in (slice_set w.seats at new)) n lies_in o.r.part o.r.sync o.r.request reply within old own_was own_now (others_stay w.seats at new)))
            (subst (λ (x : Kept). IsProcess setting.script (record_of w) (ways_of w) o.r.part (record d { partition = x })) (sym h.1) is) chosen
