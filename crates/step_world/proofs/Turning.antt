-- Who may act, as the code finds it, is who is enabled in a run so far.
use Rattle.std.proofs.Common.{◌≡◌, ◌≤◌, ◌<◌, ◌-◌, ◌+◌, ℕ, zero, suc, List, [], ◌∷◌, ◌++◌, length, map, Option, Some, None, Bool, true, false, cond, refl, ap, sym, ◌∙◌, subst, arith}
use Rattle.std.specs.Prelude.{◌%◌, ◌==◌, ◌&&◌, if◌then◌else◌, filter, option_map, slice_get, unwrap_or}
use Rattle.std.specs.List.{AllByRecursion, AllZip, list_any, range_with_len}
use Rattle.std.proofs.lemmas.List.{length-map}
use Rattle.std.proofs.lemmas.Nat.{mod_below}
use Rattle.requester_fs.specs.Asking.{Asking, next_at}
use Rattle.session_grammar.specs.UnderWay.{Awaiting, Drawing, Sending, UnderWay}
use Rattle.run_record.specs.declared.records.Act.{Act}
use Rattle.driver_laws.specs.Scheduling.{Actor, OfPartition, OfSession, Posted, actors, awaited, chosen_of, is_serve_of, is_served, is_some, is_unfinished, mail_after, may_go}
use Rattle.driver_laws.specs.Carrying.{Telling}
use Rattle.step_world.specs.Choosing.{actor_seen, acts_at, has_mail, is_acting, mail_at, some_mail}
use Rattle.step_world.specs.Runs.{CanAct}
use Rattle.step_world.specs.Scaffold.Seats.{turn_of, turn_to}
use Rattle.step_world.specs.Scaffold.Worlds.{Driving, IsMessage, Scene, Setting, awaited_of, has_some, live_in, record_of, request_in, ways_of}
use Rattle.step_world.specs.declared.choosing.Agent.{Agent}
use Rattle.step_world.specs.declared.choosing.Agent.TheVariants.{Partition, Session}
use Rattle.step_world.specs.declared.processes.DiskProcess.{DiskProcess}
use Rattle.step_world.specs.declared.seats.Seat.{Seat}
use Rattle.step_world.specs.declared.seats.Turn.TheVariants.{Send, Take, ServeByHand, Wait}
use Rattle.sql_base.proofs.ListFacts.{some-at}

-- a session acts where it has something under way and doesn't wait for a reply that isn't there
acts_with : (n : ℕ) (acts : List Act) (s : Seat Asking) (way : UnderWay) → awaited n acts ≡ (if s.waits then option_map awaited_of (request_in way) else None)
    → ((r : Sending) → request_in way ≡ Some r → list_any (is_serve_of n (awaited_of r)) acts ≡ s.is_served) → is_acting (turn_to s (next_at way 0)) ≡ (has_some way && may_go n acts)
acts_with n acts s (Awaiting []) waits noted = refl
acts_with n acts s (Awaiting (r ∷ rest)) waits noted = bits s.waits s.is_served (s.losses == 4) (noted r refl) ∙ sym (ap (is_served n acts) waits)
  where
    bits : (w served four : Bool) → list_any (is_serve_of n (awaited_of r)) acts ≡ served → is_acting (if w then (if served then Take else Wait) else (if four then ServeByHand else Send)) ≡ is_served n acts (if w then Some (awaited_of r) else None)
    bits true true four h = sym h
    bits true false four h = sym h
    bits false served true h = refl
    bits false served false h = refl
acts_with n acts s (Drawing name floor) waits noted = sym (ap (is_served n acts) (waits ∙ none s.waits))
  where
    none : (b : Bool) → (if b then option_map awaited_of (request_in (Drawing name floor)) else None) ≡ None
    none true = refl
    none false = refl

acts_same : (setting : Setting) (tellings : List Telling) (w : Scene) → Driving setting tellings w → (at : ℕ) → at < length w.seats → acts_at w.seats (suc at) ≡ (is_unfinished (live_in w.seats) [] (suc at) && may_go (suc at) w.acts)
acts_same setting tellings w run at less =
    let some = some-at w.seats at less in
    let s : Seat Asking = some.0 in
    let is = run.seats at s some.1 in
    let place : suc at - 1 ≡ at = omega arith in
    let acts : acts_at w.seats (suc at) ≡ is_acting (turn_of s) =
    ap (λ n. unwrap_or (option_map (λ x. is_acting (turn_of x)) (slice_get w.seats n)) false) place ∙ ap (λ (o : Option (Seat Asking)). unwrap_or (option_map (λ x. is_acting (turn_of x)) o) false) some.1 in
    let lives : live_in w.seats (suc at) ≡ has_some s.requester.way = ap (λ (o : Option (Seat Asking)). unwrap_or (option_map (λ x. has_some x.requester.way) o) false) some.1 in
    acts ∙ acts_with (suc at) w.acts s s.requester.way is.waits is.noted ∙ ap (λ (b : Bool). b && may_go (suc at) w.acts) (sym lives)

-- a partition has mail where something was posted that it hasn't served
zip_some : (R : Posted → List ℕ → Type 0) (ms : List Posted) (bytes : List (List ℕ)) → AllZip R ms bytes → some_mail bytes ≡ is_some ms
zip_some R [] [] all = refl
zip_some R [] (b ∷ bytes) all = absurd all
zip_some R (m ∷ ms) [] all = absurd all
zip_some R (m ∷ ms) (b ∷ bytes) all = refl

mail_same : (setting : Setting) (tellings : List Telling) (w : Scene) → Driving setting tellings w → (part : ℕ) → part < length w.processes → mail_at w.processes part ≡ is_some (mail_after part w.acts)
mail_same setting tellings w run part less =
    let some = some-at w.processes part less in
    let d : DiskProcess = some.0 in
    ap (λ (o : Option DiskProcess). unwrap_or (option_map has_mail o) false) some.1
    ∙ zip_some (IsMessage (length setting.script.sessions) (record_of w) (ways_of w) part) (mail_after part w.acts) d.mail (run.processes part d some.1).mail

-- filters that agree in a range
filter_within : (p q : ℕ → Bool) (a n : ℕ) → ((m : ℕ) → a ≤ m → m < a + n → p m ≡ q m) → filter p (range_with_len a n) ≡ filter q (range_with_len a n)
filter_within p q a zero agree = refl
filter_within p q a (suc n) agree =
    let rest = filter_within p q (a + 1) n (λ m low high. agree m (omega (arith, low)) (omega (arith, high))) in
    let first : p a ≡ q a = agree a (omega arith) (omega arith) in
    ap (λ (b : Bool). cond b (a ∷ filter p (range_with_len (a + 1) n)) (filter p (range_with_len (a + 1) n))) first ∙ ap (λ (ms : List ℕ). cond (q a) (a ∷ ms) ms) rest

-- the enabled, as the code finds them
abbrev pub enabled : Scene → List Actor
enabled w = map OfSession (filter (acts_at w.seats) (range_with_len 1 (length w.seats))) ++ map OfPartition (filter (mail_at w.processes) (range_with_len 0 (length w.processes)))

abbrev pub actors_now : Scene → List Actor
actors_now w = actors (live_in w.seats) (length (record_of w).logs) (length (record_of w).histories) w.acts []

pub enabled_actors : (setting : Setting) (tellings : List Telling) (w : Scene) → Driving setting tellings w → enabled w ≡ actors_now w
enabled_actors setting tellings w run =
    let unfinished : ℕ → Bool = λ n. is_unfinished (live_in w.seats) [] n && may_go n w.acts in
    let posted : ℕ → Bool = λ part. is_some (mail_after part w.acts) in
    let sessions : filter (acts_at w.seats) (range_with_len 1 (length w.seats)) ≡ filter unfinished (range_with_len 1 (length w.seats)) = filter_within (acts_at w.seats) unfinished 1 (length w.seats) acting in
    let partitions : filter (mail_at w.processes) (range_with_len 0 (length w.processes)) ≡ filter posted (range_with_len 0 (length w.processes)) =
    filter_within (mail_at w.processes) posted 0 (length w.processes) (λ part low high. mail_same setting tellings w run part (omega (arith, high))) in
    let logs : length w.seats ≡ length (record_of w).logs = sym (length-map w.seats (λ s. s.requester.log)) in
    let histories : length w.processes ≡ length (record_of w).histories = sym (length-map w.processes (λ d. d.partition.history)) in
    (λ i. map OfSession (sessions i) ++ map OfPartition (partitions i)) ∙ (λ i. map OfSession (filter unfinished (range_with_len 1 (logs i))) ++ map OfPartition (filter posted (range_with_len 0 (histories i))))
  where
    acting : (n : ℕ) → 1 ≤ n → n < 1 + length w.seats → acts_at w.seats n ≡ (is_unfinished (live_in w.seats) [] n && may_go n w.acts)
    acting zero low high = absurd (omega (arith, low))
    acting (suc at) low high = acts_same setting tellings w run at (omega (arith, high))

-- who is chosen is one of them
range_all : (low high a n : ℕ) → low ≤ a → a + n ≤ high → AllByRecursion (λ m. (low ≤ m) × (m < high)) (range_with_len a n)
range_all low high a zero above below = tt
range_all low high a (suc n) above below = ((above, omega (arith, below)), range_all low high (a + 1) n (omega (arith, above)) (omega (arith, below)))

filter_all : (P : ℕ → Type 0) (p : ℕ → Bool) (xs : List ℕ) → AllByRecursion P xs → AllByRecursion (λ x. P x × (p x ≡ true)) (filter p xs)
filter_all P p [] all = tt
filter_all P p (x ∷ xs) all = by_test (p x) refl (filter_all P p xs all.1)
  where
    by_test : (b : Bool) → p x ≡ b → AllByRecursion (λ y. P y × (p y ≡ true)) (filter p xs) → AllByRecursion (λ y. P y × (p y ≡ true)) (cond b (x ∷ filter p xs) (filter p xs))
    by_test true h rest = ((all.0, h), rest)
    by_test false h rest = rest

module _ (P : ℕ → Type 0) where
  no_session : (ms : List ℕ) (k n : ℕ) → slice_get (map OfPartition ms) k ≡ Some (OfSession n) → P n
  no_session [] k n found = absurd (cc)
  no_session (m ∷ ms) zero n found = absurd (cc)
  no_session (m ∷ ms) (suc k) n found = no_session ms k n found

  of_session : (ns ms : List ℕ) → AllByRecursion P ns → (k n : ℕ) → slice_get (map OfSession ns ++ map OfPartition ms) k ≡ Some (OfSession n) → P n
  of_session [] ms all k n found = no_session ms k n found
  of_session (m ∷ ns) ms all zero n found = let same : m ≡ n = cc in subst P same all.0
  of_session (m ∷ ns) ms all (suc k) n found = of_session ns ms all.1 k n found

  of_partition : (ns ms : List ℕ) → AllByRecursion P ms → (k n : ℕ) → slice_get (map OfSession ns ++ map OfPartition ms) k ≡ Some (OfPartition n) → P n
  of_partition [] [] all k n found = absurd (cc)
  of_partition [] (m ∷ ms) all zero n found = let same : m ≡ n = cc in subst P same all.0
  of_partition [] (m ∷ ms) all (suc k) n found = of_partition [] ms all.1 k n found
  of_partition (m ∷ ns) ms all zero n found = absurd (cc)
  of_partition (m ∷ ns) ms all (suc k) n found = of_partition ns ms all k n found

pub can_act : (w : Scene) (k : ℕ) (agent : Agent) → slice_get (enabled w) k ≡ Some (actor_seen agent) → CanAct w agent
can_act w k (Session n) found =
    let ns = filter (acts_at w.seats) (range_with_len 1 (length w.seats)) in
    let ms = filter (mail_at w.processes) (range_with_len 0 (length w.processes)) in
    let range = range_all 1 (1 + length w.seats) 1 (length w.seats) (omega arith) (omega arith) in
    let is = of_session (λ m. ((1 ≤ m) × (m < 1 + length w.seats)) × (acts_at w.seats m ≡ true)) ns ms (filter_all (λ m. (1 ≤ m) × (m < 1 + length w.seats)) (acts_at w.seats) (range_with_len 1 (length w.seats)) range) k n found in
    ((is.0.0, omega (arith, is.0.1)), is.1)
can_act w k (Partition part) found =
    let ns = filter (acts_at w.seats) (range_with_len 1 (length w.seats)) in
    let ms = filter (mail_at w.processes) (range_with_len 0 (length w.processes)) in
    let range = range_all 0 (0 + length w.processes) 0 (length w.processes) (omega arith) (omega arith) in
    (of_partition (λ m. ((0 ≤ m) × (m < 0 + length w.processes)) × (mail_at w.processes m ≡ true)) ns ms (filter_all (λ m. (0 ≤ m) × (m < 0 + length w.processes)) (mail_at w.processes) (range_with_len 0 (length w.processes)) range) k part found).1

-- a choice among some finds one
pub nobody_chosen : (choices : List ℕ) (place : ℕ) (some : List Actor) → chosen_of choices place some ≡ None → some ≡ []
nobody_chosen choices place [] none = refl
nobody_chosen choices place (a ∷ some) none =
    let number = unwrap_or (slice_get choices place) 0 in
    let found = some-at (a ∷ some) (number % length (a ∷ some)) (mod_below number (length (a ∷ some)) (omega arith)) in
    absurd (cc (sym found.1 ∙ none))
