-- A run begins with nothing done.
use Rattle.std.proofs.Common.{◌≡◌, ◌≤◌, ◌-◌, ℕ, zero, suc, List, [], ◌∷◌, ◌++◌, length, map, Option, Some, None, Bool, false, refl, ap, sym, ◌∙◌, subst, arith}
use Rattle.std.specs.Prelude.{if◌then◌else◌, option_map, slice_get, unwrap_or}
use Rattle.std.specs.List.{AllZip}
use Rattle.std.proofs.lemmas.List.{length-map}
use Rattle.std.proofs.lemmas.Option.{same_Some}
use Rattle.sql_base.specs.Scripts.{IsScript, Lies}
use Rattle.sql_base.specs.declared.scripts.Script.{Script}
use Rattle.partition_state.specs.State.{State}
use Rattle.session_grammar.specs.UnderWay.{Asks, Sending, UnderWay}
use Rattle.requester_fs.specs.Asking.{Asking}
use Rattle.run_record.specs.Openings.{openings}
use Rattle.run_record.specs.declared.records.RunRecord.{RunRecord}
use Rattle.record_laws.specs.SoFar.{LegalSoFar, way_of}
use Rattle.driver_laws.specs.Carrying.{Telling, sendings}
use Rattle.driver_laws.specs.Moves.{nothing_yet}
use Rattle.driver_laws.specs.Scheduling.{ScheduledSoFar, mail_after, posted_of, steps_of}
use Rattle.driver_laws.proofs.Starting.{begun}
use Rattle.partition_core.specs.Kept.{Kept, opened_with}
use Rattle.requester_fs.specs.Beginnings.{AreNew, EachAt, IsNew}
use Rattle.step_world.specs.Scaffold.Openings.{AreOpened, is_opened, new_process}
use Rattle.step_world.specs.Runs.{AreSeated, new_seat}
use Rattle.step_world.specs.Scaffold.Seats.{seen}
use Rattle.step_world.specs.Scaffold.Worlds.{Driving, IsMessage, IsProcess, IsSeat, IsTold, Scene, Setting, awaited_of, live_in, record_of, request_in, seat_steps, sendings_so_far, steps_in, steps_with, ways_of}
use Rattle.step_world.specs.declared.processes.DiskProcess.{DiskProcess}
use Rattle.step_world.specs.declared.seats.Seat.{Seat}
use Rattle.step_world.proofs.Opened.{way_at}
use Rattle.step_world.proofs.Places.{get_back, get_map}
use Rattle.step_world.proofs.Answering.{fresh_stands}
use Rattle.sql_base.proofs.ListFacts.{some-at}

-- a seat in which nothing has been done
record IsFirst (script : Script) (at : ℕ) (s : Seat Asking) : Type 0 where
  pub new : IsNew script (suc at) s.requester
  pub number : s.number ≡ suc at
  pub losses : s.losses ≡ 0
  pub waits : s.waits ≡ false
  pub unserved : s.is_served ≡ false

first_seats : {Q : Type 0} (asking : Q → Asking) (script : Script) (requesters : List Q) (seats : List (Seat Q)) → AreNew asking script requesters → AreSeated requesters seats → EachAt (IsFirst script) (map (seen asking) seats)
first_seats asking script requesters seats new seated at s found =
    let back = get_back (seen asking) seats at s found in
    let is : seen asking back.0 ≡ s = back.2 in
    let fresh : back.0 ≡ new_seat (suc at) back.0.requester = seated.each at back.0 back.1 in
    let there : slice_get requesters at ≡ Some back.0.requester = ap (λ qs. slice_get qs at) (sym seated.same) ∙ get_map (λ x. x.requester) seats at back.0 back.1 in
    subst (IsFirst script at) is
    (record {
      new = new.each at back.0.requester there;
      number = ap (λ x. x.number) fresh;
      losses = ap (λ x. x.losses) fresh;
      waits = ap (λ x. x.waits) fresh;
      unserved = ap (λ x. x.is_served) fresh;
    })

-- lists of nothing
all_nil : {X Y Z : Type 0} (f : X → List Y) (xs : List X) (zs : List Z) → EachAt (λ at x. f x ≡ []) xs → length xs ≡ length zs → map f xs ≡ map (λ z. []) zs
all_nil f [] [] each many = refl
all_nil f [] (z ∷ zs) each many = absurd (omega (arith, many))
all_nil f (x ∷ xs) [] each many = absurd (omega (arith, many))
all_nil f (x ∷ xs) (z ∷ zs) each many = (λ i. each 0 x refl i ∷ all_nil f xs zs (λ at y found. each (suc at) y found) (omega (arith, many)) i)

nil_at : {Y Z : Type 0} (zs : List Z) (i : ℕ) → unwrap_or (slice_get (map {B = List Y} (λ z. []) zs) i) [] ≡ []
nil_at [] i = refl
nil_at (z ∷ zs) zero = refl
nil_at (z ∷ zs) (suc i) = nil_at zs i

no_histories : (states : List State) (processes : List DiskProcess) → AreOpened states processes → map (λ d. d.partition.history) processes ≡ map (λ p. []) states
no_histories [] [] all = refl
no_histories [] (d ∷ processes) all = absurd all
no_histories (p ∷ states) [] all = absurd all
no_histories (p ∷ states) (d ∷ processes) all = (λ i. (all.0 i).partition.history ∷ no_histories states processes all.1 i)

opened_there : (states : List State) (processes : List DiskProcess) → AreOpened states processes → (part : ℕ) (d : DiskProcess) → slice_get processes part ≡ Some d → (p : State) × (slice_get states part ≡ Some p) × is_opened p d
opened_there [] [] all part d found = absurd (cc)
opened_there [] (e ∷ processes) all part d found = absurd all
opened_there (p ∷ states) [] all part d found = absurd all
opened_there (p ∷ states) (e ∷ processes) all zero d found = (p, refl, sym (same_Some e d found) ∙ all.0)
opened_there (p ∷ states) (e ∷ processes) all (suc part) d found = opened_there states processes all.1 part d found

-- the processes of partitions that have just opened
pub all_opened : (states : List State) (processes : List DiskProcess) (partitions : List Kept) → partitions ≡ map opened_with states → processes ≡ map new_process partitions → AreOpened states processes
all_opened states processes partitions opened made = subst (AreOpened states) (sym (made ∙ ap (map new_process) opened)) (each states)
  where
    each : (states : List State) → AreOpened states (map new_process (map opened_with states))
    each [] = tt
    each (p ∷ states) = (refl, each states)

-- nothing of a request has been sent
no_steps : (s : Seat Asking) (o : Option Sending) → s.losses ≡ 0 → s.waits ≡ false → steps_with o s.losses s.waits ≡ []
no_steps s None losses waits = refl
no_steps s (Some r) losses waits = rw losses (rw waits refl)

no_steps_in : (seats : List (Seat Asking)) → EachAt (λ at s. seat_steps s ≡ []) seats → (n : ℕ) → steps_in seats n ≡ []
no_steps_in seats each zero = refl
no_steps_in [] each (suc at) = refl
no_steps_in (s ∷ seats) each (suc zero) = each 0 s refl
no_steps_in (s ∷ seats) each (suc (suc at)) = no_steps_in seats (λ i y found. each (suc i) y found) (suc at)

module _ (script : Script) (choices : List ℕ) (told : List Telling) where
  abbrev setting : Setting
  setting = record { script = script; choices = choices; told = told }

  first_told : (at : ℕ) (s : Seat Asking) → IsFirst script at s → IsTold told told at [] s
  first_told at s is first now f n =
      let same : first ≡ now = same_Some first now (sym f ∙ n) in
      let none : sendings_so_far s ≡ [] = rw is.losses (rw is.waits refl) in (
        record { told = ap (λ t. t.first) (sym same); losses = sym (ap (λ log. sendings log ++ sendings_so_far s) is.new.log ∙ none) },
        ap (λ t. t.round) (sym same),
      )

  seat_at_first : (at : ℕ) (s : Seat Asking) → IsFirst script at s → IsSeat setting told [] at s
  seat_at_first at s is =
      record {
        number = is.number;
        asker = is.new.number_is;
        script = is.new.script_is;
        asking = is.new.asking;
        one = is.new.one;
        stands = fresh_stands s (request_in s.requester.way) is.losses is.waits;
        waits = sym (ap (λ (b : Bool). if b then option_map awaited_of (request_in s.requester.way) else None) is.waits);
        noted = λ r here. sym is.unserved;
        told = first_told at s is;
      }

  process_at_first : (kept : RunRecord) (ways : List UnderWay) (part : ℕ) (p : State) (d : DiskProcess) → kept.acts ≡ [] → slice_get (openings script) part ≡ Some p → is_opened p d → IsProcess script kept ways part d
  process_at_first kept ways part p d none there is = subst (IsProcess script kept ways part) (sym is) (record {
    opened = there;
    replayed = record { legal = tt; replayed = refl };
    unmarked = refl;
    came = tt;
    mail = subst (λ acts. AllZip (IsMessage (length script.sessions) kept ways part) (mail_after part acts) []) (sym none) tt;
  })

  module _ {Q : Type 0} (asking : Q → Asking) (requesters : List Q) (seats : List (Seat Q)) (processes : List DiskProcess) (is : IsScript script) (new : AreNew asking script requesters) (seated : AreSeated requesters seats) (opened : AreOpened (openings script) processes) where
    abbrev w : Scene
    w = record { seats = map (seen asking) seats; processes = processes; journal = []; acts = [] }

    firsts : EachAt (IsFirst script) w.seats
    firsts = first_seats asking script requesters seats new seated

    many : length w.seats ≡ length script.sessions
    many = length-map seats (seen asking) ∙ sym (length-map seats (λ x. x.requester)) ∙ ap length seated.same ∙ new.many

    nothing : record_of w ≡ nothing_yet script
    nothing =
        let histories = no_histories (openings script) processes opened in
        let logs = all_nil (λ s. s.requester.log) w.seats script.sessions (λ at s found. (firsts at s found).new.log) many in
        (λ i. record { histories = histories i; rows = []; journal = []; logs = logs i; acts = [] })

    asks_at : (at : ℕ) → suc at ≤ length script.sessions → Asks script (suc at) [] (way_of (ways_of w) (suc at))
    asks_at at most =
        let some = some-at w.seats at (omega (arith, most, many)) in
        let s = some.0 in
        let a = (firsts at s some.1).new in
        let its : Asks s.requester.script s.requester.number s.requester.log s.requester.way = a.asking.asks in
        let of_script : Asks script s.requester.number s.requester.log s.requester.way = subst (λ c. Asks c s.requester.number s.requester.log s.requester.way) a.script_is its in
        let of_session : Asks script (suc at) s.requester.log s.requester.way = subst (λ n. Asks script n s.requester.log s.requester.way) a.number_is of_script in
        let of_log : Asks script (suc at) [] s.requester.way = subst (λ log. Asks script (suc at) log s.requester.way) a.log of_session in
        subst (Asks script (suc at) []) (sym (way_at w at s some.1)) of_log

    asks : (session : ℕ) → Lies 1 (length script.sessions) session → Asks script session [] (way_of (ways_of w) session)
    asks zero lies = absurd (omega (arith, lies.0))
    asks (suc at) lies = asks_at at lies.1

    no_step : (n : ℕ) → steps_in w.seats n ≡ []
    no_step = no_steps_in w.seats (λ at s found. no_steps s (request_in s.requester.way) (firsts at s found).losses (firsts at s found).waits)

    scheduled : ScheduledSoFar (live_in w.seats) (steps_in w.seats) choices (nothing_yet script)
    scheduled =
        record {
          mails = tt;
          chosen = tt;
          of_logs = λ n lies. sym (ap (λ log. steps_of log ++ steps_in w.seats n) (nil_at script.sessions (n - 1)) ∙ no_step n);
          draws = refl;
          new_serves = λ part less. sym (ap (map posted_of) (nil_at (openings script) part));
        }

    -- the run of a script begins
    pub driving_at_first : Driving setting told w
    driving_at_first =
        record {
          so_far = subst (λ kept. LegalSoFar script kept (ways_of w)) (sym nothing) (begun script (ways_of w) is asks);
          scheduled = subst (ScheduledSoFar (live_in w.seats) (steps_in w.seats) choices) (sym nothing) scheduled;
          seats = λ at s found. seat_at_first at s (firsts at s found);
          processes = λ part d found.
              let there = opened_there (openings script) processes opened part d found in
              process_at_first (record_of w) (ways_of w) part there.0 d refl there.1 there.2;
          served = tt;
        }
