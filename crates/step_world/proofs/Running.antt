-- A run from one turn to the next.
use Rattle.std.proofs.Common.{◌≡◌, ◌≤◌, ◌%◌, ℕ, suc, List, [], ◌∷◌, ◌++◌, length, map, Option, Some, None, Ok, Err, refl, ap, sym, ◌∙◌, subst, arith}
use Rattle.std.specs.Prelude.{Result, IfOk, filter, option_map, slice_get, unwrap_or}
use Rattle.std.specs.List.{AllByRecursion, AllZip, range_with_len}
use Rattle.std.proofs.lemmas.List.{length-map}
use Rattle.sql_base.specs.Scripts.{IsScript}
use Rattle.requester_fs.specs.Asking.{Asking}
use Rattle.run_record.specs.Openings.{openings}
use Rattle.session_grammar.specs.UnderWay.{Awaiting}
use Rattle.session_grammar.specs.declared.logs.LogEntry.{LogEntry}
use Rattle.driver_laws.specs.Scheduling.{Actor, OfPartition, OfSession, chosen_of}
use Rattle.requester_fs.specs.Beginnings.{AreNew, IsLater}
use Rattle.driver_laws.specs.Carrying.{Telling}
use Rattle.step_world.specs.Choosing.{actor_seen, acts_at, mail_at}
use Rattle.step_world.specs.Scaffold.Openings.{AreOpened}
use Rattle.step_world.specs.Runs.{AreSeated, CanAct, GoesOnFrom}
use Rattle.step_world.specs.Scaffold.Seats.{seen}
use Rattle.step_world.specs.Scaffold.Worlds.{AreLater, Driving, Scene, Setting, next_actor, scene}
use Rattle.step_world.specs.declared.choosing.Agent.{Agent}
use Rattle.step_world.specs.declared.seats.Seat.{Seat}
use Rattle.step_world.specs.declared.worlds.World.{World}
use Rattle.step_world.proofs.Beginning.{driving_at_first}
use Rattle.step_world.proofs.Handed.{same_scene}
use Rattle.step_world.proofs.Turning.{actors_now, can_act, enabled, enabled_actors, nobody_chosen}

-- the run so far, by requesters that are further on than those that were handed in, with a wire for each
pub record IsRun {Q : Type 0} (asking : Q → Asking) (single : Q → Type 0) (allows : Q → List LogEntry → Type 0) (setting : Setting) (requesters : List Q) (tellings : List Telling) (wires : ℕ) (w : World Q) : Type 0 where
  pub driving : Driving setting tellings (scene asking w)
  pub later : AllZip (λ q s. IsLater single allows q s.requester) requesters w.seats.items
  pub singles : AllByRecursion (λ s. single s.requester) w.seats.items
  pub enough : length w.seats.items ≤ wires

module _ {Q : Type 0} (asking : Q → Asking) (single : Q → Type 0) (allows : Q → List LogEntry → Type 0) where
  own_seats : (seats : List (Seat Q)) → AllZip (λ q s. IsLater single allows q s.requester) (map (λ s. s.requester) seats) seats
  own_seats [] = tt
  own_seats (s ∷ seats) = (record { single_still = λ h. h; allowed = λ log h. h }, own_seats seats)

  own_single : (seats : List (Seat Q)) → AllByRecursion single (map (λ s. s.requester) seats) → AllByRecursion (λ s. single s.requester) seats
  own_single [] all = tt
  own_single (s ∷ seats) all = (all.0, own_single seats all.1)

  pub run_begins : (setting : Setting) (requesters : List Q) (tellings : List Telling) (wires : ℕ) (w : World Q) → IsScript setting.script → AreNew asking setting.script requesters → AllByRecursion single requesters → length requesters ≤ wires
      → AreSeated requesters w.seats.items → AreOpened (openings setting.script) w.processes.items → w.journal ≡ [] → w.acts ≡ [] → tellings ≡ setting.told → IsRun asking single allows setting requesters tellings wires w
  run_begins setting requesters tellings wires w is new all enough seated opened journal acts same =
      let first : Scene = record { seats = map (seen asking) w.seats.items; processes = w.processes.items; journal = []; acts = [] } in
      let begun : Driving setting setting.told first = driving_at_first setting.script setting.choices setting.told asking requesters w.seats.items w.processes.items is new seated opened in
      let here : first ≡ scene asking w = same_scene first (scene asking w) refl refl (sym journal) (sym acts) in
      let many = length-map w.seats.items (λ s. s.requester) in
      let sames = ap length seated.same in
      record {
        driving = subst (λ ts. Driving setting ts (scene asking w)) (sym same) (subst (Driving setting setting.told) here begun);
        later = subst (λ qs. AllZip (λ q s. IsLater single allows q s.requester) qs w.seats.items) seated.same (own_seats w.seats.items);
        singles = own_single w.seats.items (subst (AllByRecursion single) (sym seated.same) all);
        enough = omega (arith, many, sames, enough);
      }

  -- further on still
  on_later : (requesters : List Q) (before after : List (Seat Q)) → AllZip (λ q s. IsLater single allows q s.requester) requesters before → AreLater single allows before after → AllZip (λ q s. IsLater single allows q s.requester) requesters after
  on_later [] [] [] all later = tt
  on_later [] [] (b ∷ after) all later = absurd later
  on_later [] (a ∷ before) after all later = absurd all
  on_later (q ∷ requesters) [] after all later = absurd all
  on_later (q ∷ requesters) (a ∷ before) [] all later = absurd later
  on_later (q ∷ requesters) (a ∷ before) (b ∷ after) all later = (
    record { single_still = λ h. later.0.single_still (all.0.single_still h); allowed = λ log h. all.0.allowed log (later.0.allowed log h) },
    on_later requesters before after all.1 later.1,
  )

  on_single : (before after : List (Seat Q)) → AreLater single allows before after → AllByRecursion (λ s. single s.requester) before → AllByRecursion (λ s. single s.requester) after
  on_single [] [] later all = tt
  on_single [] (b ∷ after) later all = absurd later
  on_single (a ∷ before) [] later all = absurd later
  on_single (a ∷ before) (b ∷ after) later all = (later.0.single_still all.0, on_single before after later.1 all.1)

  as_many_later : (before after : List (Seat Q)) → AreLater single allows before after → length after ≡ length before
  as_many_later [] [] later = refl
  as_many_later [] (b ∷ after) later = absurd later
  as_many_later (a ∷ before) [] later = absurd later
  as_many_later (a ∷ before) (b ∷ after) later = ap suc (as_many_later before after later.1)

  -- what the code finds enabled
  abbrev agents_of : World Q → List Actor
  agents_of w =
      map OfSession (filter (acts_at (scene asking w).seats) (range_with_len 1 (length w.seats.items))) ++ map OfPartition (filter (mail_at w.processes.items) (range_with_len 0 (length w.processes.items)))

  agents_are : (w : World Q) → agents_of w ≡ enabled (scene asking w)
  agents_are w =
      ap (λ n. map OfSession (filter (acts_at (scene asking w).seats) (range_with_len 1 n)) ++ map OfPartition (filter (mail_at w.processes.items) (range_with_len 0 (length w.processes.items)))) (sym (length-map w.seats.items (seen asking)))

  module _ (setting : Setting) (requesters : List Q) (tellings : List Telling) (wires : ℕ) (w : World Q) (run : IsRun asking single allows setting requesters tellings wires w) (next : Option Agent) (is : option_map actor_seen next ≡ chosen_of setting.choices (length w.acts) (map OfSession (filter (acts_at (scene asking w).seats) (range_with_len 1 (length w.seats.items))) ++ map OfPartition (filter (mail_at w.processes.items) (range_with_len 0 (length w.processes.items))))) where
    of_enabled : option_map actor_seen next ≡ chosen_of setting.choices (length w.acts) (enabled (scene asking w))
    of_enabled = is ∙ ap (chosen_of setting.choices (length w.acts)) (agents_are w)

    pub of_actors : option_map actor_seen next ≡ next_actor setting (scene asking w)
    of_actors = of_enabled ∙ ap (chosen_of setting.choices (length w.acts)) (enabled_actors setting tellings (scene asking w) run.driving)

    pub may_act : (agent : Agent) → next ≡ Some agent → CanAct (scene asking w) agent
    may_act agent some =
        let list = enabled (scene asking w) in
        can_act (scene asking w) (unwrap_or (slice_get setting.choices (length w.acts)) 0 % length list) agent (sym of_enabled ∙ ap (option_map actor_seen) some)

    pub nobody_may : next ≡ None → actors_now (scene asking w) ≡ []
    nobody_may none = nobody_chosen setting.choices (length w.acts) (actors_now (scene asking w)) (sym of_actors ∙ ap (option_map actor_seen) none)

    pub run_goes_on : (agent : Agent) → next ≡ Some agent → (after : List Telling) (others : ℕ) (v : World Q) → GoesOnFrom (actor_seen agent) tellings (scene asking w) after (scene asking v) → AreLater single allows w.seats.items v.seats.items → others ≡ wires
        → IsRun asking single allows setting requesters after others v
    run_goes_on agent some after others v goes later same =
        let many = as_many_later w.seats.items v.seats.items later in
        let enough = run.enough in
        record {
          driving = goes setting run.driving (sym of_actors ∙ ap (option_map actor_seen) some);
          later = on_later requesters w.seats.items v.seats.items run.later later;
          singles = on_single w.seats.items v.seats.items later run.singles;
          enough = omega (arith, many, enough, same);
        }

  -- what the last seats allow is what the requesters allow
  pub allowed_first : (requesters : List Q) (seats : List (Seat Q)) (logs : List (List LogEntry)) → AllZip (λ q s. IsLater single allows q s.requester) requesters seats → AllZip (λ s log. allows s.requester log) seats logs → AllZip allows requesters logs
  allowed_first [] [] logs later all = all
  allowed_first [] (s ∷ seats) logs later all = absurd later
  allowed_first (q ∷ requesters) [] logs later all = absurd later
  allowed_first (q ∷ requesters) (s ∷ seats) [] later all = absurd all
  allowed_first (q ∷ requesters) (s ∷ seats) (log ∷ logs) later all = (later.0.allowed log all.0, allowed_first requesters seats logs later.1 all.1)

  -- all that contracts see of the seats holds of the seats
  pub all_ended : (seats : List (Seat Q)) → AllByRecursion (λ s. s.requester.way ≡ Awaiting []) (map (seen asking) seats) → AllByRecursion (λ s. (asking s.requester).way ≡ Awaiting []) seats
  all_ended [] all = tt
  all_ended (s ∷ seats) all = (all.0, all_ended seats all.1)

-- as many seats as requesters, and as many wires as tellings
pub many_seats : {Q : Type 0} (requesters : List Q) (seats : List (Seat Q)) → AreSeated requesters seats → length seats ≡ length requesters
many_seats requesters seats seated = sym (length-map seats (λ s. s.requester)) ∙ ap length seated.same

pub as_many_told : {W : Type 0} (f : W → Telling) (xs ys : List W) → map f ys ≡ map f xs → length ys ≡ length xs
as_many_told f xs ys same = sym (length-map ys f) ∙ ap length same ∙ length-map xs f

-- what is kept is what a record was proved of
pub of_kept : {A E : Type 0} (P : A → Type 0) (result : Result A E) (a : A) → P a → IfOk result (λ kept. kept ≡ a) → IfOk result P
of_kept P (Ok kept) a h is = subst P (sym is) h
of_kept P (Err e) a h is = tt

pub if_ok : {A E : Type 0} (P R : A → Type 0) (result : Result A E) → ((a : A) → P a → R a) → IfOk result P → IfOk result R
if_ok P R (Ok a) to h = to a h
if_ok P R (Err e) to h = tt

pub enough_told : {Q W : Type 0} (asking : Q → Asking) (f : W → Telling) (wires : List W) (seats : List (Seat Q)) → length seats ≤ length wires → length (map (seen asking) seats) ≤ length (map f wires)
enough_told asking f wires seats enough =
    let sessions = length-map seats (seen asking) in
    let told = length-map wires f in
    omega (arith, sessions, told, enough)
