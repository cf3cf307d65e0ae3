-- A session draws its commit.
use Rattle.std.proofs.Common.{◌≡◌, ◌≢◌, ◌≤◌, ◌-◌, ℕ, suc, List, [], ◌∷◌, ◌++◌, length, map, Some, None, Bool, false, cond, refl, ap, sym, ◌∙◌, subst, arith}
use Rattle.std.specs.Prelude.{Contains, option_map, slice_get, slice_set}
use Rattle.std.specs.List.{AllByRecursion}
use Rattle.std.proofs.lemmas.Bool.{eq-eqb}
use Rattle.std.proofs.lemmas.List.{append-nil, length-map}
use Rattle.std.proofs.lemmas.List.Elements.{Contains-append_left}
use Rattle.std.proofs.lemmas.Option.{slice_get_within}
use Rattle.outside.specs.declared.wire.Passage.{Passage}
use Rattle.sql_base.specs.Scripts.{Lies}
use Rattle.sql_base.specs.declared.lock_names.TxnName.{TxnName}
use Rattle.commit_journal.specs.Journal.{drawn_for, last_stamp}
use Rattle.commit_journal.specs.declared.Drawn.{Drawn}
use Rattle.dp_messages.specs.declared.requests.Request.{Request}
use Rattle.requester_fs.specs.Asking.{AreSendable, Asking, HasTaken, next_at}
use Rattle.session_grammar.specs.Sessions.{Draws, entries_kept}
use Rattle.session_grammar.specs.UnderWay.{Drawing, Sending, TakesStamp, UnderWay, unanswered}
use Rattle.session_grammar.specs.declared.logs.Answer.TheVariants.{Stamp}
use Rattle.session_grammar.specs.declared.logs.LogEntry.{LogEntry}
use Rattle.session_grammar.specs.declared.logs.LogEntry.TheVariants.{Asked, Drew}
use Rattle.run_record.specs.Openings.{log_of}
use Rattle.run_record.specs.declared.records.Act.{Act}
use Rattle.run_record.specs.declared.records.Act.TheVariants.{Draw}
use Rattle.run_record.specs.declared.records.RunRecord.{RunRecord}
use Rattle.record_laws.specs.SoFar.{LegalSoFar, way_of}
use Rattle.record_laws.proofs.Counting.{stamps_count}
use Rattle.record_laws.proofs.Drawing.{not_drawn}
use Rattle.driver_laws.specs.Carrying.{IsCarried, Telling, passages_of}
use Rattle.driver_laws.specs.Moves.{IsPosted, next_drawn, with_acts, with_drawn, with_log, with_way}
use Rattle.driver_laws.specs.Scheduling.{Adds, OfSession, awaited, awaits}
use Rattle.driver_laws.proofs.Adding.{adds_draw}
use Rattle.driver_laws.proofs.Carrying.{carried_drawn, passages_more}
use Rattle.driver_laws.proofs.Moving.{drawn}
use Rattle.driver_laws.proofs.Posting.{posted_drawn}
use Rattle.driver_laws.proofs.Starting.{other_acts}
use Rattle.requester_fs.specs.Beginnings.{EachAt}
use Rattle.step_world.specs.Scaffold.Seats.{IsAnswered}
use Rattle.step_world.specs.Scaffold.Worlds.{Driving, IsProcess, IsTold, Scene, Setting, Stands, WasPosted, awaited_of, has_some, next_actor, record_of, request_in, seat_steps, sendings_so_far, steps_in, steps_with, ways_of}
use Rattle.step_world.specs.declared.seats.Seat.{Seat}
use Rattle.step_world.proofs.Acting.{next_scene, others_stay, own_steps, session_acts}
use Rattle.step_world.proofs.Answering.{above_in, above_open, fresh_stands, no_steps, unserved_so_far}
use Rattle.step_world.proofs.Opened.{draw_way, lies_at, log_at, way_at}
use Rattle.step_world.proofs.Places.{each_map, fold_one, get_set_same}
use Rattle.step_world.proofs.Staying.{StillPosted, acts_on, process_stays, serves_nothing, unserved}
use Rattle.step_world.proofs.Taking.{no_sendings}
use Rattle.sql_base.proofs.ListFacts.{map_set}

module _ (setting : Setting) (tellings : List Telling) (w : Scene) (at : ℕ) (s new : Seat Asking) (name : TxnName) (floor : ℕ) (run : Driving setting tellings w) (here : slice_get w.seats at ≡ Some s)
    (draws : next_at s.requester.way 0 ≡ Draws name floor) (answered : IsAnswered (Stamp (next_drawn (record_of w) name floor).stamp) s new) where
  abbrev n : ℕ
  n = suc at

  abbrev d : Drawn
  d = next_drawn (record_of w) name floor

  abbrev act : Act
  act = Draw n

  abbrev kept_now : RunRecord
  kept_now = with_acts (with_drawn (with_log (record_of w) n new.requester.log) d) (w.acts ++ act ∷ [])

  abbrev ways_now : List UnderWay
  ways_now = with_way (ways_of w) n new.requester.way

  way : s.requester.way ≡ Drawing name floor
  way = draw_way s.requester.way name floor draws

  lies : Lies 1 (length setting.script.sessions) n
  lies = lies_at setting tellings w at s run here

  way_was : way_of (ways_of w) n ≡ Drawing name floor
  way_was = way_at w at s here ∙ way

  named : name.session ≡ n
  named = subst (AreSendable s.requester) way (run.seats at s here).asking.sendable ∙ (run.seats at s here).asker

  many : length (ways_of w) ≡ length setting.script.sessions
  many =
      let ways = length-map w.seats (λ (x : Seat Asking). x.requester.way) in
      let logs = length-map w.seats (λ (x : Seat Asking). x.requester.log) in
      let sessions = run.so_far.logs_begin.logs in
      omega (arith, ways, logs, sessions)

  takes : TakesStamp setting.script n (log_of (record_of w) n) d new.requester.log new.requester.way
  takes =
      let is = run.seats at s here in
      let taken = subst (λ next. HasTaken s.requester next (Stamp d.stamp) s.losses new.requester) draws answered.taken in
      subst (λ m. TakesStamp setting.script m (log_of (record_of w) n) d new.requester.log new.requester.way) is.asker
      (subst (λ p. TakesStamp p s.requester.number (log_of (record_of w) n) d new.requester.log new.requester.way) is.script
      (subst (λ log. TakesStamp s.requester.script s.requester.number log d new.requester.log new.requester.way) (sym (log_at w at s here)) taken))

  still : StillPosted (length setting.script.sessions) (record_of w) (ways_of w) (with_drawn (with_log (record_of w) n new.requester.log) d) ways_now
  still m part sync request l posted = posted_drawn setting.script (record_of w) (ways_of w) run.so_far many n lies new.requester.log new.requester.way m part sync request l name floor way_was takes posted

  never : (x : Sending) → request_in new.requester.way ≡ Some x → (request : Request) → IsPosted (record_of w) (ways_of w) n x.part x.sync request → ⊥
  never x is request posted =
      let above = above_open new.requester.log new.requester.way x answered.asking.asks.0 is in
      let old : Contains (log_of (record_of w) n ++ []) (Asked x.part x.sync request posted.0 posted.1) = subst (λ u. Contains (log_of (record_of w) n ++ unanswered u) (Asked x.part x.sync request posted.0 posted.1)) way_was posted.2 in
      let in_log = subst (λ log. Contains log (Asked x.part x.sync request posted.0 posted.1)) (append-nil (log_of (record_of w) n)) old in
      let in_new = subst (λ log. Contains log (Asked x.part x.sync request posted.0 posted.1)) (sym takes.put_in)
      (Contains-append_left (log_of (record_of w) n) (Drew name floor (Stamp d.stamp) ∷ []) (Asked x.part x.sync request posted.0 posted.1) in_log) in
      let less = above_in new.requester.log x x.part x.sync posted.0 request posted.1 above in_new refl in
      omega arith

  place : n - 1 ≡ at
  place = omega arith

  record_is : record_of (next_scene w at new w.processes (w.journal ++ d ∷ []) act) ≡ kept_now
  record_is =
      let logs : map (λ (x : Seat Asking). x.requester.log) (slice_set w.seats at new) ≡ slice_set (record_of w).logs (n - 1) new.requester.log =
      map_set (λ (x : Seat Asking). x.requester.log) w.seats at new ∙ ap (λ i. slice_set (record_of w).logs i new.requester.log) (sym place) in
      (λ i. record { histories = (record_of w).histories; rows = []; journal = w.journal ++ d ∷ []; logs = logs i; acts = w.acts ++ act ∷ [] })

  ways_are : ways_of (next_scene w at new w.processes (w.journal ++ d ∷ []) act) ≡ ways_now
  ways_are = map_set (λ (x : Seat Asking). x.requester.way) w.seats at new ∙ ap (λ i. slice_set (ways_of w) i new.requester.way) (sym place)

  lies_in : Lies 1 (length (record_of w).logs) n
  lies_in =
      let less = slice_get_within w.seats at s here in
      let long = length-map w.seats (λ (z : Seat Asking). z.requester.log) in
      (omega arith, omega (arith, less, long))

  steps_were : seat_steps s ≡ []
  steps_were = ap (λ q. steps_with q s.losses s.waits) (ap request_in way)

  adds : Adds (steps_in w.seats) (steps_in (slice_set w.seats at new)) (record_of w) kept_now act
  adds =
      let own = own_steps w.seats at s here ∙ steps_were in
      let after = own_steps (slice_set w.seats at new) at new (get_set_same w.seats at s new here) ∙ no_steps new answered.unlost answered.goes in
      let its : Adds (steps_in w.seats) (steps_in (slice_set w.seats at new)) (record_of w)
      (with_acts (with_drawn (with_log (record_of w) name.session (log_of (record_of w) name.session ++ Drew name floor (Stamp d.stamp) ∷ [])) d) (w.acts ++ Draw name.session ∷ [])) (Draw name.session) =
      adds_draw (record_of w) (steps_in w.seats) (steps_in (slice_set w.seats at new)) d (subst (Lies 1 (length (record_of w).logs)) (sym named) lies_in) (Stamp d.stamp)
      (subst (λ m. steps_in w.seats m ≡ []) (sym named) own) (subst (λ m. steps_in (slice_set w.seats at new) m ≡ []) (sym named) after)
      (subst (λ m. (k : ℕ) → k ≢ m → steps_in (slice_set w.seats at new) k ≡ steps_in w.seats k) (sym named) (others_stay w.seats at new)) in
      subst (λ log. Adds (steps_in w.seats) (steps_in (slice_set w.seats at new)) (record_of w) (with_acts (with_drawn (with_log (record_of w) n log) d) (w.acts ++ act ∷ [])) act) (sym takes.put_in)
      (subst (λ m. Adds (steps_in w.seats) (steps_in (slice_set w.seats at new)) (record_of w)
      (with_acts (with_drawn (with_log (record_of w) m (log_of (record_of w) m ++ Drew name floor (Stamp d.stamp) ∷ [])) d) (w.acts ++ Draw m ∷ [])) (Draw m)) named its)

  told : IsTold setting.told tellings at (w.acts ++ act ∷ []) new
  told first now f i =
      let old = (run.seats at s here).told first now f i in
      let passages : passages_of n (w.acts ++ act ∷ []) ≡ passages_of n w.acts = passages_more n w.acts act ∙ append-nil (passages_of n w.acts) in
      let stands : (s.losses ≡ 0) × (s.waits ≡ false) = subst (Stands s) (ap request_in way) (run.seats at s here).stands in
      let log : new.requester.log ≡ s.requester.log ++ Drew name floor (Stamp d.stamp) ∷ [] = answered.in_order ∙ ap (λ next. s.requester.log ++ entries_kept next (Stamp d.stamp) s.losses) draws in
      let carried = carried_drawn first.first first.round (passages_of n w.acts) now.first s.requester.log (sendings_so_far s) old.0 name floor (Stamp d.stamp) in (
        subst (λ (ps : List Passage). IsCarried first.first first.round ps now.first new.requester.log (sendings_so_far new)) (sym passages)
            (subst (λ (l : List LogEntry). IsCarried first.first first.round (passages_of n w.acts) now.first l (sendings_so_far new)) (sym log)
            (subst (λ (bs : List Bool). IsCarried first.first first.round (passages_of n w.acts) now.first (s.requester.log ++ Drew name floor (Stamp d.stamp) ∷ []) bs)
            (no_sendings s stands.0 stands.1 ∙ sym (no_sendings new answered.unlost answered.goes)) carried)),
        old.1,
      )

  pub drew_on : next_actor setting w ≡ Some (OfSession n) → Driving setting tellings (next_scene w at new w.processes (w.journal ++ d ∷ []) act)
  drew_on chosen =
      let is = run.seats at s here in
      let to_record = sym record_is in
      let to_ways = sym ways_are in
      let it = next_scene w at new w.processes (w.journal ++ d ∷ []) act in
      session_acts setting tellings tellings w at s new w.processes (w.journal ++ d ∷ []) act run chosen here refl (ap has_some way)
      (subst (λ k. LegalSoFar setting.script k (ways_of it)) to_record
      (subst (λ ws. LegalSoFar setting.script kept_now ws) to_ways
      (other_acts setting.script (with_drawn (with_log (record_of w) n new.requester.log) d) ways_now (w.acts ++ act ∷ [])
      (drawn setting.script (record_of w) (ways_of w) run.so_far many n lies name floor new.requester.log new.requester.way way_was takes))))
      (subst (λ k. Adds (steps_in w.seats) (steps_in (slice_set w.seats at new)) (record_of w) k act) to_record adds)
      (λ i differ. refl)
      (record {
        number = answered.number ∙ is.number;
        asker = answered.same.number ∙ is.asker;
        script = answered.same.script ∙ is.script;
        asking = answered.asking;
        one = answered.one;
        stands = fresh_stands new (request_in new.requester.way) answered.unlost answered.goes;
        waits = fold_one (awaits n) None w.acts act ∙ ap (λ (b : Bool). cond b None (awaited n w.acts)) (eq-eqb n n refl) ∙ sym (ap (λ b. cond b (option_map awaited_of (request_in new.requester.way)) None) answered.goes);
        noted = λ x is_open. unserved n (awaited_of x) w.acts act (serves_nothing act at n (awaited_of x) refl)
            ∙ unserved_so_far (length setting.script.sessions) (record_of w) (ways_of w) n x (never x is_open) w.acts run.served ∙ sym answered.unserved;
        told = told;
      })
      (subst (λ k. EachAt (IsProcess setting.script k (ways_of it)) w.processes) to_record
      (subst (λ ws. EachAt (IsProcess setting.script kept_now ws) w.processes) to_ways
      (each_map (IsProcess setting.script (record_of w) (ways_of w)) (IsProcess setting.script kept_now ways_now) w.processes
      (λ part x there p. process_stays setting.script (record_of w) kept_now (ways_of w) ways_now act part x still refl (λ mail. refl) p) run.processes)))
      (subst (λ k. AllByRecursion (WasPosted (length setting.script.sessions) k (ways_of it)) w.acts) to_record
      (subst (λ ws. AllByRecursion (WasPosted (length setting.script.sessions) kept_now ws) w.acts) to_ways
      (acts_on (length setting.script.sessions) (record_of w) kept_now (ways_of w) ways_now still w.acts run.served)))

-- the stamps count, so that the next is one more than their number
pub counted_at : (setting : Setting) (tellings : List Telling) (w : Scene) → Driving setting tellings w → last_stamp 0 w.journal ≡ length w.journal
counted_at setting tellings w run = (stamps_count setting.script (record_of w) (ways_of w) run.so_far).counted

pub low_floor : (setting : Setting) (tellings : List Telling) (w : Scene) (at : ℕ) (s : Seat Asking) (name : TxnName) (floor : ℕ) → Driving setting tellings w → slice_get w.seats at ≡ Some s → next_at s.requester.way 0 ≡ Draws name floor
    → floor ≤ length w.journal
low_floor setting tellings w at s name floor run here draws =
    (stamps_count setting.script (record_of w) (ways_of w) run.so_far).floors (suc at) name floor (lies_at setting tellings w at s run here) (way_at w at s here ∙ draw_way s.requester.way name floor draws)

-- no transaction draws twice
pub undrawn : (setting : Setting) (tellings : List Telling) (w : Scene) (at : ℕ) (s : Seat Asking) (name : TxnName) (floor : ℕ) → Driving setting tellings w → slice_get w.seats at ≡ Some s → next_at s.requester.way 0 ≡ Draws name floor
    → drawn_for name w.journal ≡ None
undrawn setting tellings w at s name floor run here draws =
    not_drawn setting.script (record_of w) (ways_of w) run.so_far (suc at) name floor (lies_at setting tellings w at s run here) (way_at w at s here ∙ draw_way s.requester.way name floor draws)
