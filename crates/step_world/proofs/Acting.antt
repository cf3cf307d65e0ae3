-- One act of a session: what of it keeps the run going.
use Rattle.std.proofs.Common.{◌≡◌, ◌≢◌, ℕ, zero, suc, List, [], ◌∷◌, ◌++◌, length, Option, Some, Bool, true, false, refl, ap, sym, ◌∙◌, inl, inr}
use Rattle.std.specs.Prelude.{◌||◌, option_map, slice_get, slice_set, unwrap_or}
use Rattle.std.specs.List.{AllByRecursion}
use Rattle.std.proofs.lemmas.Bool.{ne_eqb, eq-eqb}
use Rattle.commit_journal.specs.declared.Drawn.{Drawn}
use Rattle.requester_fs.specs.Asking.{Asking}
use Rattle.run_record.specs.declared.records.Act.{Act}
use Rattle.run_record.specs.declared.records.Act.TheVariants.{Send, Take, ByHand, Draw, Serve}
use Rattle.record_laws.specs.SoFar.{LegalSoFar}
use Rattle.driver_laws.specs.Scheduling.{Adds, IsOldest, OfSession, actor_of, is_by}
use Rattle.driver_laws.proofs.Scheduling.{acts_more}
use Rattle.requester_fs.specs.Beginnings.{EachAt}
use Rattle.driver_laws.specs.Carrying.{Telling}
use Rattle.step_world.specs.Scaffold.Worlds.{Driving, IsProcess, IsSeat, Scene, Setting, WasPosted, has_some, live_in, next_actor, record_of, seat_steps, steps_in, ways_of}
use Rattle.step_world.specs.declared.processes.DiskProcess.{DiskProcess}
use Rattle.step_world.specs.declared.seats.Seat.{Seat}
use Rattle.step_world.proofs.Places.{each_set, get_set_other, same_or}
use Rattle.step_world.proofs.Staying.{acts_with, by_it, not_by, not_served, seat_stays, serves_nothing}

abbrev pub next_scene : Scene → ℕ → Seat Asking → List DiskProcess → List Drawn → Act → Scene
next_scene w at new processes journal act = record { seats = slice_set w.seats at new; processes = processes; journal = journal; acts = w.acts ++ act ∷ [] }

oldest_of : (act : Act) (at : ℕ) (done rest : List Act) → actor_of act ≡ OfSession (suc at) → IsOldest done act rest
oldest_of (Send session part sync passage) at done rest of = tt
oldest_of (Take session) at done rest of = tt
oldest_of (ByHand session part sync) at done rest of = tt
oldest_of (Draw session) at done rest of = tt
oldest_of (Serve part opener sync) at done rest of = absurd (cc)

-- the other sessions have as much under way as before
pub others_stay : (seats : List (Seat Asking)) (at : ℕ) (new : Seat Asking) (n : ℕ) → n ≢ suc at → steps_in (slice_set seats at new) n ≡ steps_in seats n
others_stay seats at new zero differ = refl
others_stay seats at new (suc i) differ = ap (λ (s : Option (Seat Asking)). unwrap_or (option_map seat_steps s) []) (get_set_other seats at i new (λ e. differ (ap suc e)))

pub own_steps : (seats : List (Seat Asking)) (at : ℕ) (s : Seat Asking) → slice_get seats at ≡ Some s → steps_in seats (suc at) ≡ seat_steps s
own_steps seats at s here = ap (λ (o : Option (Seat Asking)). unwrap_or (option_map seat_steps o) []) here

lives_on : (seats : List (Seat Asking)) (at : ℕ) (s new : Seat Asking) (act : Act) → actor_of act ≡ OfSession (suc at) → slice_get seats at ≡ Some s → has_some s.requester.way ≡ true → (n : ℕ)
    → live_in seats n ≡ (is_by n act || live_in (slice_set seats at new) n)
lives_on seats at s new act of here some zero = sym (ap (λ (b : Bool). b || false) (by_it act at zero of ∙ ne_eqb (suc at) zero (λ e. absurd (cc))))
lives_on seats at s new act of here some (suc i) = elim (same_or i at) [ inl e ↦ own e | inr d ↦ other d ]
  where
    own : i ≡ at → live_in seats (suc i) ≡ (is_by (suc i) act || live_in (slice_set seats at new) (suc i))
    own e =
        let yes : is_by (suc i) act ≡ true = by_it act at (suc i) of ∙ eq-eqb (suc at) (suc i) (ap suc (sym e)) in
        let live : live_in seats (suc i) ≡ true = ap (live_in seats) (ap suc e) ∙ ap (λ (o : Option (Seat Asking)). unwrap_or (option_map (λ x. has_some x.requester.way) o) false) here ∙ some in
        live ∙ sym (ap (λ (b : Bool). b || live_in (slice_set seats at new) (suc i)) yes)

    other : i ≢ at → live_in seats (suc i) ≡ (is_by (suc i) act || live_in (slice_set seats at new) (suc i))
    other d =
        sym (ap (λ (b : Bool). b || live_in (slice_set seats at new) (suc i)) (not_by act at i of d)
        ∙ ap (λ (o : Option (Seat Asking)). unwrap_or (option_map (λ x. has_some x.requester.way) o) false) (get_set_other seats at i new d))

pub session_acts : (setting : Setting) (tellings after : List Telling) (w : Scene) (at : ℕ) (s new : Seat Asking) (processes : List DiskProcess) (journal : List Drawn) (act : Act) → Driving setting tellings w
    → next_actor setting w ≡ Some (OfSession (suc at)) → slice_get w.seats at ≡ Some s → actor_of act ≡ OfSession (suc at) → has_some s.requester.way ≡ true
    → LegalSoFar setting.script (record_of (next_scene w at new processes journal act)) (ways_of (next_scene w at new processes journal act))
    → Adds (steps_in w.seats) (steps_in (slice_set w.seats at new)) (record_of w) (record_of (next_scene w at new processes journal act)) act → ((i : ℕ) → i ≢ at → slice_get after i ≡ slice_get tellings i)
    → IsSeat setting after (w.acts ++ act ∷ []) at new
    → EachAt (IsProcess setting.script (record_of (next_scene w at new processes journal act)) (ways_of (next_scene w at new processes journal act))) processes
    → AllByRecursion (WasPosted (length setting.script.sessions) (record_of (next_scene w at new processes journal act)) (ways_of (next_scene w at new processes journal act))) w.acts
    → Driving setting after (next_scene w at new processes journal act)
session_acts setting tellings after w at s new processes journal act run chosen here of some legal adds same own all served =
    record {
      so_far = legal;
      scheduled = acts_more (live_in w.seats) (live_in (slice_set w.seats at new)) act (lives_on w.seats at s new act of here some) (steps_in w.seats) (steps_in (slice_set w.seats at new)) setting.choices (record_of w)
          (record_of (next_scene w at new processes journal act)) run.scheduled (record { chosen = chosen ∙ ap Some (sym of); oldest = oldest_of act at w.acts [] of }) adds;
      seats = each_set (IsSeat setting tellings w.acts) (IsSeat setting after (w.acts ++ act ∷ [])) w.seats at s new here own
          (λ i z differ found is. seat_stays setting tellings after w.acts act i z (not_by act at i of differ) (λ v. serves_nothing act at (suc i) v of) (same i differ) is) run.seats;
      processes = all;
      served = acts_with (length setting.script.sessions) (record_of (next_scene w at new processes journal act)) (ways_of (next_scene w at new processes journal act)) w.acts act served
          (not_served (length setting.script.sessions) at (record_of (next_scene w at new processes journal act)) (ways_of (next_scene w at new processes journal act)) act of);
    }
