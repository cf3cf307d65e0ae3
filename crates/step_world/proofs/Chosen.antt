-- From what an action keeps to what the choice of it keeps.
use Rattle.std.proofs.Common.{◌≡◌, ◌<◌, ◌-◌, ◌^◌, ℕ, zero, suc, List, [], ◌∷◌, length, map, get_or, Some, Ok, Err, true, false, refl, ap, sym, ◌∙◌, subst, arith}
use Rattle.std.specs.Prelude.{Result, OnOk, option_map, slice_get, slice_set, unwrap_or}
use Rattle.std.proofs.lemmas.List.{length-map}
use Rattle.std.proofs.lemmas.Option.{slice_get_within}
use Rattle.outside.specs.Wire.{Answers}
use Rattle.outside.specs.declared.wire.Passage.{Passage}
use Rattle.record_laws.proofs.FiveFacts.{within_tables}
use Rattle.driver_laws.specs.Scheduling.{Actor, OfPartition, OfSession}
use Rattle.driver_laws.specs.Carrying.{Telling}
use Rattle.step_world.specs.Choosing.{actor_seen, acts_at, has_mail, is_acting, mail_at, some_mail}
use Rattle.requester_fs.specs.Asking.{Asking}
use Rattle.step_world.specs.Scaffold.Seats.{turn_of}
use Rattle.step_world.specs.declared.seats.Seat.{Seat}
use Rattle.step_world.specs.Runs.{GoesOnFrom}
use Rattle.step_world.specs.Tellings.{HasTold}
use Rattle.step_world.specs.Scaffold.Worlds.{Driving, GoesOn, GoesOnWith, HasMail, Scene, Setting, record_of}
use Rattle.step_world.specs.declared.choosing.Agent.{Agent}
use Rattle.step_world.specs.declared.choosing.Agent.TheVariants.{Partition}
use Rattle.step_world.specs.declared.processes.DiskProcess.{DiskProcess}
use Rattle.step_world.proofs.Places.{get_map}
use Rattle.sql_base.proofs.ListFacts.{map_set}

pub from_same : {T E : Type 0} (result : Result T E) (actor : Actor) (tellings : List Telling) (a b : Scene) → OnOk result (GoesOn actor a b) → OnOk result (GoesOnFrom actor tellings a tellings b)
from_same (Ok u) actor tellings a b goes = λ setting run chosen. goes setting tellings run chosen
from_same (Err e) actor tellings a b goes = tt

pub from_seen : {T E : Type 0} (result : Result T E) (agent : Agent) (part : ℕ) (before after : List Telling) (a b : Scene) → agent ≡ Partition part → OnOk result (GoesOnFrom (OfPartition part) before a after b)
    → OnOk result (GoesOnFrom (actor_seen agent) before a after b)
from_seen result agent part before after a b is goes = subst (λ x. OnOk result (GoesOnFrom (actor_seen x) before a after b)) (sym is) goes

pub from_told : {T E : Type 0} (result : Result T E) (at : ℕ) (passage : Passage) (before after : List Telling) (a b : Scene) → HasTold at passage before after → OnOk result (GoesOnWith at passage a b)
    → OnOk result (GoesOnFrom (OfSession (suc at)) before a after b)
from_told (Ok u) at passage before after a b told goes = λ setting run chosen. goes setting before after told run chosen
from_told (Err e) at passage before after a b told goes = tt

-- a wire of a list has told an answer
pub told_at : {W : Type 0} (f : W → Telling) (wires : List W) (at : ℕ) (x y : W) (answer : Passage) → at < length wires → x ≡ get_or wires at x → Answers (f x).first (f x).round answer (f y).first → (f y).round ≡ (f x).round
    → HasTold at answer (map f wires) (map f (slice_set wires at y))
told_at f wires at x y answer less is answers same =
    let found = get_map f wires at x (found_at wires at x less is) in
    record {
      wire = f x;
      others = (f y).first;
      is = found;
      answers = answers;
      left = map_set f wires at y ∙ ap (λ (t : Telling). slice_set (map f wires) at t) (λ i. record { first = (f y).first; round = same i });
    }
  where
    found_at : {X : Type 0} (xs : List X) (i : ℕ) (x : X) → i < length xs → x ≡ get_or xs i x → slice_get xs i ≡ Some x
    found_at [] i x less is = absurd (omega arith)
    found_at (z ∷ xs) zero x less is = ap Some (sym is)
    found_at (z ∷ xs) (suc i) x less is = found_at xs i x (omega arith) is

-- a partition with mail is one of the sixteen at most
some_process : (processes : List DiskProcess) (part : ℕ) → mail_at processes part ≡ true → (d : DiskProcess) × (slice_get processes part ≡ Some d) × (has_mail d ≡ true)
some_process [] part h = absurd (cc)
some_process (d ∷ processes) zero h = (d, refl, h)
some_process (d ∷ processes) (suc part) h = some_process processes part h

no_none : {A : Type 0} (xs : List A) → some_mail xs ≡ true → xs ≡ [] → ⊥
no_none [] h is = absurd (cc)
no_none (x ∷ xs) h is = absurd (cc)

pub mail_there : (processes : List DiskProcess) (part : ℕ) → mail_at processes part ≡ true → HasMail processes part
mail_there processes part h = let some = some_process processes part h in (some.0, some.1, no_none some.0.mail some.2)

pub few_parts : (setting : Setting) (tellings : List Telling) (w : Scene) (part : ℕ) → Driving setting tellings w → mail_at w.processes part ≡ true → part < 2 ^ 32
few_parts setting tellings w part run h =
    let some = some_process w.processes part h in
    let less = slice_get_within w.processes part some.0 some.1 in
    let long = length-map w.processes (λ (d : DiskProcess). d.partition.history) in
    let within = within_tables setting.script (record_of w) run.so_far.histories_replay part (omega (arith, less, long)) in
    let most = run.so_far.script_runs.parts in
    omega (arith, within, most)

-- a session that may act has a turn at which it acts
pub acting_seat : {X : Type 0} (f : X → Seat Asking) (xs : List X) (at : ℕ) (x : X) → acts_at (map f xs) (suc at) ≡ true → x ≡ get_or xs at x → is_acting (turn_of (f x)) ≡ true
acting_seat {X = X} f xs at x acts is =
    let place : suc at - 1 ≡ at = omega arith in
    found xs at (ap (λ n. unwrap_or (option_map (λ s. is_acting (turn_of s)) (slice_get (map f xs) n)) false) (sym place) ∙ acts) is
  where
    found : (ys : List X) (i : ℕ) → unwrap_or (option_map (λ s. is_acting (turn_of s)) (slice_get (map f ys) i)) false ≡ true → x ≡ get_or ys i x → is_acting (turn_of (f x)) ≡ true
    found [] i h e = absurd (cc)
    found (y ∷ ys) zero h e = ap (λ z. is_acting (turn_of (f z))) e ∙ h
    found (y ∷ ys) (suc i) h e = found ys i h e
