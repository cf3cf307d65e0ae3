-- A session's request is answered: what of it keeps the run going.
use Rattle.std.proofs.Common.{◌≡◌, ◌≢◌, ◌<◌, ◌-◌, ℕ, zero, suc, List, [], ◌∷◌, ◌++◌, length, map, get_or, Option, Some, None, Bool, true, false, cond, refl, ap, sym, ◌∙◌, subst, arith, inl, inr}
use Rattle.std.specs.Prelude.{Contains, ◌==◌, option_map, slice_get, slice_set}
use Rattle.std.specs.List.{AllByRecursion, list_any}
use Rattle.std.proofs.lemmas.Bool.{eqb-true}
use Rattle.std.proofs.lemmas.List.{length-map}
use Rattle.std.proofs.lemmas.List.Elements.{Contains-append_cases, Contains-append_left, Contains-append_right}
use Rattle.sql_base.specs.declared.scripts.Script.{Script}
use Rattle.dp_messages.specs.declared.requests.Request.{Request}
use Rattle.partition_state.specs.declared.entries.Entry.{Entry}
use Rattle.requester_fs.specs.Asking.{Asking, HasTaken, next_at}
use Rattle.session_grammar.specs.Sessions.{Sends, entries_kept}
use Rattle.session_grammar.specs.UnderWay.{AreAbove, Awaiting, Drawing, IsAbove, Sending, TakesAnswer, UnderWay, unanswered}
use Rattle.session_grammar.specs.declared.logs.Answer.{Answer}
use Rattle.session_grammar.specs.declared.logs.Answer.TheVariants.{PathFailed}
use Rattle.session_grammar.specs.declared.logs.LogEntry.{LogEntry}
use Rattle.session_grammar.specs.declared.logs.LogEntry.TheVariants.{Asked}
use Rattle.run_record.specs.Openings.{log_of}
use Rattle.run_record.specs.declared.records.Act.{Act}
use Rattle.run_record.specs.declared.records.Act.TheVariants.{Send, Take, ByHand, Draw, Serve}
use Rattle.run_record.specs.declared.records.RunRecord.{RunRecord}
use Rattle.record_laws.specs.SoFar.{LegalSoFar, way_of}
use Rattle.driver_laws.specs.Moves.{IsPosted, with_acts, with_log, with_way}
use Rattle.driver_laws.specs.Scheduling.{Adds, Awaited, OfSession, actor_of, awaited, awaits, is_serve_of}
use Rattle.driver_laws.proofs.Posting.{posted_taken}
use Rattle.driver_laws.proofs.Starting.{other_acts}
use Rattle.requester_fs.specs.Beginnings.{EachAt}
use Rattle.driver_laws.specs.Carrying.{Telling}
use Rattle.step_world.specs.Scaffold.Seats.{IsAnswered}
use Rattle.step_world.specs.Scaffold.Worlds.{Driving, IsProcess, IsTold, Scene, Setting, Stands, WasPosted, awaited_of, has_some, next_actor, record_of, request_in, seat_steps, steps_in, steps_with, ways_of}
use Rattle.step_world.specs.declared.processes.DiskProcess.{DiskProcess}
use Rattle.step_world.specs.declared.seats.Seat.{Seat}
use Rattle.step_world.proofs.Acting.{next_scene, session_acts}
use Rattle.step_world.proofs.Opened.{lies_at, log_at, way_at}
use Rattle.step_world.proofs.Places.{fold_one}
use Rattle.step_world.proofs.Staying.{StillPosted, acts_on, serves_nothing, unserved}
use Rattle.sql_base.proofs.ListFacts.{map_set}

-- nothing is left of a request that was answered
fresh_steps : (o : Option Sending) → steps_with o 0 false ≡ []
fresh_steps None = refl
fresh_steps (Some r) = refl

pub no_steps : (new : Seat Asking) → new.losses ≡ 0 → new.waits ≡ false → seat_steps new ≡ []
no_steps new losses waits = ap (λ n. steps_with (request_in new.requester.way) n new.waits) losses ∙ ap (steps_with (request_in new.requester.way) 0) waits ∙ fresh_steps (request_in new.requester.way)

pub fresh_stands : (new : Seat Asking) (o : Option Sending) → new.losses ≡ 0 → new.waits ≡ false → Stands new o
fresh_stands new None losses waits = (losses, waits)
fresh_stands new (Some r) losses waits = (omega (arith, losses), (λ e. omega (arith, losses)), (λ e. omega (arith, losses)))

-- a request under way is above all that was asked of its partition
pub above_open : (log : List LogEntry) (way : UnderWay) (x : Sending) → AreAbove log way → request_in way ≡ Some x → AllByRecursion (λ e. IsAbove e x) log
above_open log (Awaiting []) x above is = absurd (cc)
above_open log (Awaiting (y ∷ sends)) x above is = let same : y ≡ x = cc in subst (λ z. AllByRecursion (λ e. IsAbove e z) log) same above.0.0
above_open log (Drawing name floor) x above is = absurd (cc)

pub above_in : (log : List LogEntry) (x : Sending) (part sync losses : ℕ) (request : Request) (answer : Answer) → AllByRecursion (λ e. IsAbove e x) log → Contains log (Asked part sync request losses answer) → part ≡ x.part → sync < x.sync
above_in [] x part sync losses request answer all is_in = absurd (omega (arith, is_in.1))
above_in (e ∷ log) x part sync losses request answer all is_in = at is_in.0 is_in.1 is_in.2 (λ h. above_in log x part sync losses request answer all.1 h)
  where
    at : (k : ℕ) → k < length (e ∷ log) → get_or (e ∷ log) k (Asked part sync request losses answer) ≡ Asked part sync request losses answer → (Contains log (Asked part sync request losses answer) → part ≡ x.part → sync < x.sync) → part ≡ x.part
        → sync < x.sync
    at zero lt is behind = subst (λ z. IsAbove z x) is all.0
    at (suc k) lt is behind = behind (k, omega (arith, lt), is)

-- a message that was served before isn't that of a request above all that was posted
pub unserved_so_far : (sessions : ℕ) (kept : RunRecord) (ways : List UnderWay) (n : ℕ) (x : Sending) → ((request : Request) → IsPosted kept ways n x.part x.sync request → ⊥) → (acts : List Act) → AllByRecursion (WasPosted sessions kept ways) acts
    → list_any (is_serve_of n (awaited_of x)) acts ≡ false
unserved_so_far sessions kept ways n x never [] all = refl
unserved_so_far sessions kept ways n x never (Send session part sync passage ∷ acts) all = unserved_so_far sessions kept ways n x never acts all.1
unserved_so_far sessions kept ways n x never (Take session ∷ acts) all = unserved_so_far sessions kept ways n x never acts all.1
unserved_so_far sessions kept ways n x never (ByHand session part sync ∷ acts) all = unserved_so_far sessions kept ways n x never acts all.1
unserved_so_far sessions kept ways n x never (Draw session ∷ acts) all = unserved_so_far sessions kept ways n x never acts all.1
unserved_so_far sessions kept ways n x never (Serve part opener sync ∷ acts) all = by_test (part == x.part) (opener == n) (sync == x.sync) refl refl refl (unserved_so_far sessions kept ways n x never acts all.1)
  where
    by_test : (a b c : Bool) → (part == x.part) ≡ a → (opener == n) ≡ b → (sync == x.sync) ≡ c → list_any (is_serve_of n (awaited_of x)) acts ≡ false → list_any (is_serve_of n (awaited_of x)) (Serve part opener sync ∷ acts) ≡ false
    by_test true true true p o s rest =
        let its_part = eqb-true part x.part p in
        let its_opener = eqb-true opener n o in
        let its_sync = eqb-true sync x.sync s in
        absurd (never all.0.0 (subst (λ m. IsPosted kept ways m x.part x.sync all.0.0) its_opener (subst (λ m. IsPosted kept ways opener m x.sync all.0.0) its_part (subst (λ m. IsPosted kept ways opener part m all.0.0) its_sync all.0.2))))
    by_test true true false p o s rest = rw (p, o, s) rest
    by_test true false c p o s rest = rw (p, o) rest
    by_test false b c p o s rest = rw p rest

-- the answer to the one request of a session
module _ (setting : Setting) (before after : List Telling) (w : Scene) (at : ℕ) (s new : Seat Asking) (r : Sending) (losses : ℕ) (answer : Answer) (act : Act) (run : Driving setting before w) (here : slice_get w.seats at ≡ Some s)
    (way : s.requester.way ≡ Awaiting (r ∷ [])) (answered : IsAnswered answer (record s { losses = losses }) new) where
  abbrev script : Script
  script = setting.script

  abbrev n : ℕ
  n = suc at

  abbrev entry : LogEntry
  entry = Asked r.part r.sync r.request losses answer

  next_is : next_at s.requester.way 0 ≡ Sends r.part r.sync r.request
  next_is = ap (λ u. next_at u 0) way

  pub log_is : new.requester.log ≡ s.requester.log ++ entry ∷ []
  log_is = answered.in_order ∙ ap (λ next. s.requester.log ++ entries_kept next answer losses) next_is

  pub log_now : new.requester.log ≡ log_of (record_of w) n ++ entry ∷ []
  log_now = log_is ∙ ap (λ log. log ++ entry ∷ []) (sym (log_at w at s here))

  pub takes : TakesAnswer script n (log_of (record_of w) n) (r ∷ []) r losses answer new.requester.log new.requester.way
  takes =
      let is = run.seats at s here in
      let taken = subst (λ next. HasTaken s.requester next answer losses new.requester) next_is answered.taken in
      let same : Awaiting taken.0 ≡ Awaiting (r ∷ []) = sym taken.1 ∙ way in
      let sends : taken.0 ≡ r ∷ [] = cc in
      subst (λ m. TakesAnswer script m (log_of (record_of w) n) (r ∷ []) r losses answer new.requester.log new.requester.way) is.asker
      (subst (λ p. TakesAnswer p s.requester.number (log_of (record_of w) n) (r ∷ []) r losses answer new.requester.log new.requester.way) is.script
      (subst (λ log. TakesAnswer s.requester.script s.requester.number log (r ∷ []) r losses answer new.requester.log new.requester.way) (sym (log_at w at s here))
      (subst (λ xs. TakesAnswer s.requester.script s.requester.number s.requester.log xs r losses answer new.requester.log new.requester.way) sends taken.2)))

  pub way_was : way_of (ways_of w) n ≡ Awaiting (r ∷ [])
  way_was = way_at w at s here ∙ way

  pub many : length (ways_of w) ≡ length script.sessions
  many =
      let ways = length-map w.seats (λ (x : Seat Asking). x.requester.way) in
      let logs = length-map w.seats (λ (x : Seat Asking). x.requester.log) in
      let sessions = run.so_far.logs_begin.logs in
      omega (arith, ways, logs, sessions)

  pub contains_it : Contains (r ∷ []) r
  contains_it = (zero, omega arith, refl)

  -- what was posted is posted still
  pub still : StillPosted (length script.sessions) (record_of w) (ways_of w) (with_log (record_of w) n new.requester.log) (with_way (ways_of w) n new.requester.way)
  still m part sync request lies posted =
      posted_taken script (record_of w) (ways_of w) run.so_far many n (lies_at setting before w at s run here) new.requester.log new.requester.way m part sync request lies (r ∷ []) r losses answer way_was contains_it takes posted

  -- the next request is above all that was posted
  never : (x : Sending) → request_in new.requester.way ≡ Some x → (request : Request) → IsPosted (record_of w) (ways_of w) n x.part x.sync request → ⊥
  never x is request posted =
      let above = above_open new.requester.log new.requester.way x answered.asking.asks.0 is in
      let z : LogEntry = Asked x.part x.sync request posted.0 posted.1 in
      let in_both : Contains (s.requester.log ++ Asked r.part r.sync r.request 4 PathFailed ∷ []) z =
      subst (λ log. Contains (log ++ Asked r.part r.sync r.request 4 PathFailed ∷ []) z) (log_at w at s here) (subst (λ u. Contains (log_of (record_of w) n ++ unanswered u) z) way_was posted.2) in
      elim (Contains-append_cases s.requester.log (Asked r.part r.sync r.request 4 PathFailed ∷ []) z in_both) [
        | inl old ↦ early above (subst (λ log. Contains log z) (sym log_is) (Contains-append_left s.requester.log (entry ∷ []) z old))
        | inr last ↦ own above (the_one last.0 last.1 last.2)
      ]
    where
      early : AllByRecursion (λ e. IsAbove e x) new.requester.log → Contains new.requester.log (Asked x.part x.sync request posted.0 posted.1) → ⊥
      early above is_in = let less = above_in new.requester.log x x.part x.sync posted.0 request posted.1 above is_in refl in omega arith

      the_one : (k : ℕ) → k < length (Asked r.part r.sync r.request 4 PathFailed ∷ []) → get_or (Asked r.part r.sync r.request 4 PathFailed ∷ []) k (Asked x.part x.sync request posted.0 posted.1) ≡ Asked x.part x.sync request posted.0 posted.1
          → (r.part ≡ x.part) × (r.sync ≡ x.sync)
      the_one zero lt e = (cc, cc)
      the_one (suc k) lt e = absurd (omega (arith, lt))

      own : AllByRecursion (λ e. IsAbove e x) new.requester.log → (r.part ≡ x.part) × (r.sync ≡ x.sync) → ⊥
      own above same =
          let less = above_in new.requester.log x r.part r.sync losses r.request answer above
          (subst (λ log. Contains log entry) (sym log_is) (Contains-append_right s.requester.log (entry ∷ []) entry (zero, omega arith, refl))) same.0 in
          omega (arith, same.1, less)

  -- the record, where the histories are these
  module _ (processes : List DiskProcess) where
    abbrev histories : List (List Entry)
    histories = map (λ (d : DiskProcess). d.partition.history) processes

    abbrev kept : RunRecord
    kept = record (record_of w) { histories = histories }

    abbrev kept_now : RunRecord
    kept_now = with_acts (with_log kept n new.requester.log) (w.acts ++ act ∷ [])

    abbrev ways_now : List UnderWay
    ways_now = with_way (ways_of w) n new.requester.way

    place : n - 1 ≡ at
    place = omega arith

    record_is : record_of (next_scene w at new processes w.journal act) ≡ kept_now
    record_is =
        let logs : map (λ (x : Seat Asking). x.requester.log) (slice_set w.seats at new) ≡ slice_set (record_of w).logs (n - 1) new.requester.log =
        map_set (λ (x : Seat Asking). x.requester.log) w.seats at new ∙ ap (λ i. slice_set (record_of w).logs i new.requester.log) (sym place) in
        (λ i. record { histories = histories; rows = []; journal = w.journal; logs = logs i; acts = w.acts ++ act ∷ [] })

    ways_are : ways_of (next_scene w at new processes w.journal act) ≡ ways_now
    ways_are = map_set (λ (x : Seat Asking). x.requester.way) w.seats at new ∙ ap (λ i. slice_set (ways_of w) i new.requester.way) (sym place)

    pub answered_on : next_actor setting w ≡ Some (OfSession n) → actor_of act ≡ OfSession n → ((v : Option Awaited) → awaits n v act ≡ None) → LegalSoFar script (with_log kept n new.requester.log) ways_now
        → Adds (steps_in w.seats) (steps_in (slice_set w.seats at new)) (record_of w) kept_now act → ((i : ℕ) → i ≢ at → slice_get after i ≡ slice_get before i) → IsTold setting.told after at (w.acts ++ act ∷ []) new
        → EachAt (IsProcess script kept_now ways_now) processes → Driving setting after (next_scene w at new processes w.journal act)
    answered_on chosen of none legal adds others told all =
        let is = run.seats at s here in
        let to_record = sym record_is in
        let to_ways = sym ways_are in
        session_acts setting before after w at s new processes w.journal act run chosen here of (ap has_some way)
        (subst (λ k. LegalSoFar script k (ways_of (next_scene w at new processes w.journal act))) to_record
        (subst (λ ws. LegalSoFar script kept_now ws) to_ways (other_acts script (with_log kept n new.requester.log) ways_now (w.acts ++ act ∷ []) legal)))
        (subst (λ k. Adds (steps_in w.seats) (steps_in (slice_set w.seats at new)) (record_of w) k act) to_record adds)
        others
        (record {
          number = answered.number ∙ is.number;
          asker = answered.same.number ∙ is.asker;
          script = answered.same.script ∙ is.script;
          asking = answered.asking;
          one = answered.one;
          stands = fresh_stands new (request_in new.requester.way) answered.unlost answered.goes;
          waits = fold_one (awaits n) None w.acts act ∙ none (awaited n w.acts) ∙ sym (ap (λ b. cond b (option_map awaited_of (request_in new.requester.way)) None) answered.goes);
          noted = λ x is_open. unserved n (awaited_of x) w.acts act (serves_nothing act at n (awaited_of x) of)
              ∙ unserved_so_far (length script.sessions) (record_of w) (ways_of w) n x (never x is_open) w.acts run.served ∙ sym answered.unserved;
          told = told;
        })
        (subst (λ k. EachAt (IsProcess script k (ways_of (next_scene w at new processes w.journal act))) processes) to_record
        (subst (λ ws. EachAt (IsProcess script kept_now ws) processes) to_ways all))
        (subst (λ k. AllByRecursion (WasPosted (length script.sessions) k (ways_of (next_scene w at new processes w.journal act))) w.acts) to_record
        (subst (λ ws. AllByRecursion (WasPosted (length script.sessions) kept_now ws) w.acts) to_ways
        (acts_on (length script.sessions) (record_of w) kept_now (ways_of w) ways_now still w.acts run.served)))
