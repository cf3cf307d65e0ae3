-- A run in which nobody is enabled is over.
use Rattle.std.proofs.Common.{◌≡◌, ◌≤◌, ◌<◌, ◌-◌, ◌+◌, ℕ, zero, suc, List, [], ◌∷◌, ◌++◌, length, map, replicate, Option, Some, None, Bool, true, false, cond, refl, ap, sym, ◌∙◌, subst, arith, inl, inr}
use Rattle.std.proofs.lemmas.Bool.{and_parts, eq-eqb, eqb-true, false≢true}
use Rattle.std.proofs.lemmas.List.{append-nil, append_assoc, length-map}
use Rattle.std.proofs.lemmas.List.Folds.{list_any-append}
use Rattle.std.specs.Prelude.{drop, filter, filter_map, option_map, slice_get, take, unwrap_or, ◌&&◌, ◌||◌, ◌==◌, ◌⊎◌}
use Rattle.std.specs.List.{AllByRecursion, cons_option, list_any, range_with_len}
use Rattle.outside.specs.declared.wire.Passage.{Passage}
use Rattle.outside.specs.declared.wire.Passage.TheVariants.{Carry, Repeat, LoseRequest, LoseReply}
use Rattle.outside.specs.Wire.{is_loss}
use Rattle.sql_base.specs.Scripts.{Lies}
use Rattle.sql_base.specs.declared.scripts.Script.{Script}
use Rattle.sql_base.specs.declared.values.Value.{Value}
use Rattle.key_sequenced.specs.Cells.{records}
use Rattle.key_sequenced.specs.declared.Cell.{Cell}
use Rattle.partition_core.specs.Kept.{IsReplayed, Kept, rows_in}
use Rattle.partition_openings.proofs.LeftRows.{rows_by_part}
use Rattle.std.proofs.lemmas.Simd.{map-map}
use Rattle.partition_state.specs.State.{State}
use Rattle.requester_fs.specs.Asking.{Asking, next_at}
use Rattle.session_grammar.specs.Follows.{follows}
use Rattle.session_grammar.specs.UnderWay.{Awaiting, Drawing, UnderWay}
use Rattle.session_grammar.specs.declared.logs.LogEntry.{LogEntry}
use Rattle.run_record.specs.Legal.{Legal, RowsLeft}
use Rattle.run_record.specs.Openings.{by_part, log_of, openings, rows_left}
use Rattle.run_record.specs.declared.records.Act.{Act}
use Rattle.run_record.specs.declared.records.Act.TheVariants.{Send, Take, ByHand, Draw, Serve}
use Rattle.run_record.specs.declared.records.RunRecord.{RunRecord}
use Rattle.record_laws.specs.SoFar.{LegalSoFar, way_of}
use Rattle.record_laws.proofs.Finishing.{finished-legal}
use Rattle.driver_laws.specs.Carrying.{AllCarried, IsCarried, Telling, passages_of}
use Rattle.driver_laws.specs.Scheduling.{AtEach, Awaited, IsOldest, OfPartition, OfSession, Posted, Scheduled, ScheduledSoFar, actors, awaited, awaits, copies, is_serve_of, is_served, is_some, is_unfinished, mail_after, mailed, may_go, nobody}
use Rattle.driver_laws.proofs.Carrying.{carried_whole}
use Rattle.driver_laws.proofs.Scheduling.{scheduled_whole}
use Rattle.step_world.specs.Runs.{with_rows}
use Rattle.step_world.specs.Scaffold.Seats.{IsSending}
use Rattle.step_world.specs.Scaffold.Worlds.{Driving, Scene, Setting, Stands, awaited_of, has_some, live_in, record_of, request_in, seat_steps, sendings_so_far, steps_in, steps_with, ways_of}
use Rattle.step_world.specs.declared.processes.DiskProcess.{DiskProcess}
use Rattle.step_world.specs.declared.seats.Seat.{Seat}
use Rattle.step_world.proofs.Opened.{OpenSeat, log_at, opened_at, way_at}
use Rattle.step_world.proofs.Places.{any_one, fold_one, get_back}
use Rattle.sql_base.proofs.ListFacts.{all_places, some-at, place-within}
use Rattle.sql_base.proofs.Truths.{or-true}

-- what a session waits for was served, or its message lies in the mail
module _ (n : ℕ) (v : Awaited) where
  abbrev is_its : Posted → Bool
  is_its m = (m.opener == n) && (m.sync == v.sync)

  abbrev Comes : List Act → Type 0
  Comes acts = (list_any (is_serve_of n v) acts ≡ true) ⊎ (list_any is_its (mail_after v.part acts) ≡ true)

  any_left : (xs ys : List Posted) → list_any is_its xs ≡ true → list_any is_its (xs ++ ys) ≡ true
  any_left xs ys h = list_any-append is_its xs ys ∙ ap (λ (b : Bool). b || list_any is_its ys) h

  any_right : (xs ys : List Posted) → list_any is_its ys ≡ true → list_any is_its (xs ++ ys) ≡ true
  any_right xs ys h = list_any-append is_its xs ys ∙ ap (λ (b : Bool). list_any is_its xs || b) h ∙ or-true (list_any is_its xs)

  served_on : (done : List Act) (act : Act) → list_any (is_serve_of n v) done ≡ true → list_any (is_serve_of n v) (done ++ act ∷ []) ≡ true
  served_on done act h = any_one (is_serve_of n v) done act ∙ ap (λ (b : Bool). b || is_serve_of n v act) h

  served_now : (done : List Act) (act : Act) → is_serve_of n v act ≡ true → list_any (is_serve_of n v) (done ++ act ∷ []) ≡ true
  served_now done act h = any_one (is_serve_of n v) done act ∙ ap (λ (b : Bool). list_any (is_serve_of n v) done || b) h ∙ or-true (list_any (is_serve_of n v) done)

  in_mail : (done : List Act) (act : Act) → list_any is_its (mailed v.part (mail_after v.part done) act) ≡ true → Comes (done ++ act ∷ [])
  in_mail done act h = inr (ap (list_any is_its) (fold_one (mailed v.part) [] done act) ∙ h)

  -- an act that takes nothing out of the mail
  stays_mailed : (done : List Act) (act : Act) → (list_any is_its (mail_after v.part done) ≡ true → list_any is_its (mailed v.part (mail_after v.part done) act) ≡ true) → Comes done → Comes (done ++ act ∷ [])
  stays_mailed done act on (inl served) = inl (served_on done act served)
  stays_mailed done act on (inr mail) = in_mail done act (on mail)

  -- an act of a session that sends nothing
  quiet : (done : List Act) (act : Act) (b : Bool) → mailed v.part (mail_after v.part done) act ≡ mail_after v.part done → cond b None (awaited n done) ≡ Some v → (awaited n done ≡ Some v → Comes done) → Comes (done ++ act ∷ [])
  quiet done act true same is so_far = absurd (cc)
  quiet done act false same is so_far = stays_mailed done act (λ h. ap (list_any is_its) same ∙ h) (so_far is)

  -- a message that is sent and carried
  arrives : (mail more : List Posted) (p session sync : ℕ) → session ≡ n → p ≡ v.part → sync ≡ v.sync
      → list_any is_its (cond (p == v.part) (mail ++ record { opener = session; sync = sync } ∷ more) mail) ≡ true
  arrives mail more p session sync own part its =
      let m : Posted = record { opener = session; sync = sync } in
      let is : is_its m ≡ true = ap (λ (b : Bool). b && (sync == v.sync)) (eq-eqb session n own) ∙ eq-eqb sync v.sync its in
      ap (λ (b : Bool). list_any is_its (cond b (mail ++ m ∷ more) mail)) (eq-eqb p v.part part) ∙ any_right mail (m ∷ more) (ap (λ (b : Bool). b || list_any is_its more) is)

  some_parts : (p sync : ℕ) → Some (record { part = p; sync = sync }) ≡ Some v → (p ≡ v.part) × (sync ≡ v.sync)
  some_parts p sync h = let same : record { part = p; sync = sync } ≡ v = cc in (ap (λ (x : Awaited). x.part) same, ap (λ (x : Awaited). x.sync) same)

  sends : (done : List Act) (session p sync : ℕ) (passage : Passage) → session ≡ n → cond (is_loss passage) None (Some (record { part = p; sync = sync })) ≡ Some v → Comes (done ++ Send session p sync passage ∷ [])
  sends done session p sync Carry own h = let same = some_parts p sync h in in_mail done (Send session p sync Carry) (arrives (mail_after v.part done) [] p session sync own same.0 same.1)
  sends done session p sync Repeat own h =
      let same = some_parts p sync h in in_mail done (Send session p sync Repeat) (arrives (mail_after v.part done) (record { opener = session; sync = sync } ∷ []) p session sync own same.0 same.1)
  sends done session p sync LoseRequest own h = absurd (cc)
  sends done session p sync LoseReply own h = absurd (cc)

  more_mail : (b : Bool) (mail more : List Posted) → list_any is_its mail ≡ true → list_any is_its (cond b (mail ++ more) mail) ≡ true
  more_mail true mail more h = any_left mail more h
  more_mail false mail more h = h

  -- the message that is taken was it, or it is still there
  first_or : (mail : List Posted) (m : Posted) → take 1 mail ≡ m ∷ [] → list_any is_its mail ≡ true → (is_its m ≡ true) ⊎ (list_any is_its (drop 1 mail) ≡ true)
  first_or [] m oldest h = absurd (false≢true h)
  first_or (x ∷ mail) m oldest h = by_first (is_its x) refl h
    where
      none_dropped : (xs : List Posted) → list_any is_its xs ≡ list_any is_its (drop 0 xs)
      none_dropped [] = refl
      none_dropped (y ∷ xs) = refl

      by_first : (b : Bool) → is_its x ≡ b → (b || list_any is_its mail) ≡ true → (is_its m ≡ true) ⊎ (list_any is_its (drop 1 (x ∷ mail)) ≡ true)
      by_first true e g = let same : x ≡ m = cc in inl (ap is_its (sym same) ∙ e)
      by_first false e g = inr (sym (none_dropped mail) ∙ g)

  takes : (done : List Act) (p opener sync : ℕ) → take 1 (mail_after p done) ≡ record { opener = opener; sync = sync } ∷ [] → Comes done → Comes (done ++ Serve p opener sync ∷ [])
  takes done p opener sync oldest (inl served) = inl (served_on done (Serve p opener sync) served)
  takes done p opener sync oldest (inr mail) = by_part_of (p == v.part) refl
    where
      by_part_of : (b : Bool) → (p == v.part) ≡ b → Comes (done ++ Serve p opener sync ∷ [])
      by_part_of true e = by_oldest (first_or (mail_after v.part done) (record { opener = opener; sync = sync }) (subst (λ q. take 1 (mail_after q done) ≡ record { opener = opener; sync = sync } ∷ []) (eqb-true p v.part e) oldest) mail)
        where
          by_oldest : (is_its (record { opener = opener; sync = sync }) ≡ true) ⊎ (list_any is_its (drop 1 (mail_after v.part done)) ≡ true) → Comes (done ++ Serve p opener sync ∷ [])
          by_oldest (inl is) = inl (served_now done (Serve p opener sync) (its_serve (and_parts (opener == n) (sync == v.sync) is)))
            where
              its_serve : ((opener == n) ≡ true) × ((sync == v.sync) ≡ true) → is_serve_of n v (Serve p opener sync) ≡ true
              its_serve two = rw (e, two.0, two.1) refl
          by_oldest (inr left) = in_mail done (Serve p opener sync) (ap (λ (b : Bool). list_any is_its (cond b (drop 1 (mail_after v.part done)) (mail_after v.part done))) e ∙ left)
      by_part_of false e = in_mail done (Serve p opener sync) (ap (λ (b : Bool). list_any is_its (cond b (drop 1 (mail_after v.part done)) (mail_after v.part done))) e ∙ mail)

  one_more : (done : List Act) (act : Act) (rest : List Act) → IsOldest done act rest → (awaited n done ≡ Some v → Comes done) → awaits n (awaited n done) act ≡ Some v → Comes (done ++ act ∷ [])
  one_more done (Send session p sync passage) rest oldest so_far is = by_session (session == n) refl is
    where
      by_session : (b : Bool) → (session == n) ≡ b → cond b (cond (is_loss passage) None (Some (record { part = p; sync = sync }))) (awaited n done) ≡ Some v → Comes (done ++ Send session p sync passage ∷ [])
      by_session true e h = sends done session p sync passage (eqb-true session n e) h
      by_session false e h =
          stays_mailed done (Send session p sync passage) (λ mail. more_mail (p == v.part) (mail_after v.part done) (copies passage (record { opener = session; sync = sync })) mail) (so_far h)
  one_more done (Take session) rest oldest so_far is = quiet done (Take session) (session == n) refl is so_far
  one_more done (ByHand session p sync) rest oldest so_far is = quiet done (ByHand session p sync) (session == n) refl is so_far
  one_more done (Draw session) rest oldest so_far is = quiet done (Draw session) (session == n) refl is so_far
  one_more done (Serve p opener sync) rest oldest so_far is = takes done p opener sync oldest (so_far is)

  all_come : (done rest : List Act) → AtEach IsOldest done rest → (awaited n done ≡ Some v → Comes done) → awaited n (done ++ rest) ≡ Some v → Comes (done ++ rest)
  all_come done [] each so_far is = subst Comes (sym (append-nil done)) (so_far (ap (awaited n) (sym (append-nil done)) ∙ is))
  all_come done (act ∷ rest) each so_far is =
      let same = append_assoc done (act ∷ []) rest in
      subst Comes same
      (all_come (done ++ act ∷ []) rest each.1 (λ now. one_more done act rest each.0 so_far (sym (fold_one (awaits n) None done act) ∙ now)) (ap (awaited n) same ∙ is))

  pub served_or_mailed : (acts : List Act) → AtEach IsOldest [] acts → awaited n acts ≡ Some v → Comes acts
  served_or_mailed acts each is = all_come [] acts each (λ none. absurd (cc)) is

some_any : (p : Posted → Bool) (mail : List Posted) → list_any p mail ≡ true → is_some mail ≡ true
some_any p [] h = absurd (false≢true h)
some_any p (m ∷ mail) h = refl

-- nothing of a range passes
none_kept : {X : Type 0} (b : Bool) (x : X) (xs : List X) → cond b (x ∷ xs) xs ≡ [] → (b ≡ false) × (xs ≡ [])
none_kept true x xs h = absurd (cc)
none_kept false x xs h = (refl, h)

none_passes : (p : ℕ → Bool) (a n i : ℕ) → filter p (range_with_len a n) ≡ [] → i < n → p (a + i) ≡ false
none_passes p a zero i h less = absurd (omega (arith, less))
none_passes p a (suc n) zero h less = let place : a + 0 ≡ a = omega arith in ap p place ∙ (none_kept (p a) a (filter p (range_with_len (a + 1) n)) h).0
none_passes p a (suc n) (suc i) h less =
    let place : a + suc i ≡ (a + 1) + i = omega arith in ap p place ∙ none_passes p (a + 1) n i (none_kept (p a) a (filter p (range_with_len (a + 1) n)) h).1 (omega (arith, less))

none_mapped : {X Y : Type 0} (f : X → Y) (xs : List X) (ys : List Y) → map f xs ++ ys ≡ [] → (xs ≡ []) × (ys ≡ [])
none_mapped f [] ys h = (refl, h)
none_mapped f (x ∷ xs) ys h = absurd (cc)

map_none : {X Y : Type 0} (f : X → Y) (xs : List X) → map f xs ≡ [] → xs ≡ []
map_none f [] h = refl
map_none f (x ∷ xs) h = absurd (cc)

-- no clause but the last speaks of rows
module _ (kept : RunRecord) (rows : List (List (List Value))) where
  abbrev having : RunRecord
  having = record kept { rows = rows }

  rows_free : (script : Script) (ways : List UnderWay) → LegalSoFar script kept ways → LegalSoFar script having ways
  rows_free script ways h =
      record {
        script_runs = h.script_runs;
        histories_replay = h.histories_replay;
        stamps_drawn = record { rise = h.stamps_drawn.rise; once = h.stamps_drawn.once; drawn = h.stamps_drawn.drawn; in_order = h.stamps_drawn.in_order };
        entries_asked = record { openers = h.entries_asked.openers; served = h.entries_asked.served };
        logs_begin = record { logs = h.logs_begin.logs; each = h.logs_begin.each };
      }

  scheduled_still : (choices : List ℕ) → Scheduled choices kept → Scheduled choices having
  scheduled_still choices h = record { mails = h.mails; chosen = h.chosen; over = h.over; of_logs = h.of_logs; draws = h.draws; new_serves = h.new_serves }

-- the rows of the partitions of processes
rows_of_processes : (ps : List State) (ds : List DiskProcess) → ((part : ℕ) (d : DiskProcess) → slice_get ds part ≡ Some d → (slice_get ps part ≡ Some d.partition.opening) × IsReplayed d.partition)
    → map (λ (d : DiskProcess). rows_in d.partition) ds ≡ by_part rows_left ps (map (λ (d : DiskProcess). d.partition.history) ds)
rows_of_processes ps ds each =
    let its : DiskProcess → Kept = λ d. d.partition in
    sym (map-map rows_in its ds)
    ∙ rows_by_part ps (map its ds) (λ part k found. let back = get_back its ds part k found in subst (λ (x : Kept). (slice_get ps part ≡ Some x.opening) × IsReplayed x) back.2 (each part back.0 back.1))
    ∙ ap (by_part rows_left ps) (map-map (λ (k : Kept). k.history) its ds)

module _ (setting : Setting) (tellings : List Telling) (w : Scene) (run : Driving setting tellings w)
    (over : actors (live_in w.seats) (length (record_of w).logs) (length (record_of w).histories) w.acts [] ≡ []) where
  sessions_rest : (at : ℕ) → at < length w.seats → (is_unfinished (live_in w.seats) [] (suc at) && may_go (suc at) w.acts) ≡ false
  sessions_rest at less =
      let p : ℕ → Bool = λ n. is_unfinished (live_in w.seats) [] n && may_go n w.acts in
      let none = none_mapped OfSession (filter p (range_with_len 1 (length (record_of w).logs))) (map OfPartition (filter (λ part. is_some (mail_after part w.acts)) (range_with_len 0 (length (record_of w).histories)))) over in
      let place : 1 + at ≡ suc at = omega arith in
      let logs = length-map w.seats (λ (s : Seat Asking). s.requester.log) in
      ap p (sym place) ∙ none_passes p 1 (length (record_of w).logs) at none.0 (omega (arith, less, logs))

  mails_empty : (part : ℕ) → part < length w.processes → is_some (mail_after part w.acts) ≡ false
  mails_empty part less =
      let p : ℕ → Bool = λ n. is_unfinished (live_in w.seats) [] n && may_go n w.acts in
      let q : ℕ → Bool = λ k. is_some (mail_after k w.acts) in
      let none = none_mapped OfSession (filter p (range_with_len 1 (length (record_of w).logs))) (map OfPartition (filter q (range_with_len 0 (length (record_of w).histories)))) over in
      let place : 0 + part ≡ part = omega arith in
      let histories = length-map w.processes (λ (d : DiskProcess). d.partition.history) in
      ap q (sym place) ∙ none_passes q 0 (length (record_of w).histories) part (map_none OfPartition (filter q (range_with_len 0 (length (record_of w).histories))) none.1) (omega (arith, less, histories))

  -- a session that may not go waits, and its message wasn't served and isn't in the mail
  nothing_waits : (at : ℕ) (s : Seat Asking) → OpenSeat w at s → may_go (suc at) w.acts ≡ false → ⊥
  nothing_waits at s o stuck =
      let is = run.seats at s o.here in
      by_waits s.waits (is.waits ∙ ap (λ u. cond s.waits (option_map awaited_of (request_in u)) None) o.way)
    where
      by_waits : (b : Bool) → awaited (suc at) w.acts ≡ cond b (Some (awaited_of o.r)) None → ⊥
      by_waits false is = false≢true (sym stuck ∙ ap (is_served (suc at) w.acts) is)
      by_waits true is = by_place (served_or_mailed (suc at) (awaited_of o.r) w.acts run.scheduled.mails is)
        where
          by_place : Comes (suc at) (awaited_of o.r) w.acts → ⊥
          by_place (inl served) = false≢true (sym stuck ∙ ap (is_served (suc at) w.acts) is ∙ served)
          by_place (inr mail) = false≢true (sym (mails_empty o.r.part o.part) ∙ some_any (is_its (suc at) (awaited_of o.r)) (mail_after o.r.part w.acts) mail)

  -- so nothing is under way
  pub all_finished : (at : ℕ) (s : Seat Asking) → slice_get w.seats at ≡ Some s → s.requester.way ≡ Awaiting []
  all_finished at s here = by_way s.requester.way refl rests
    where
      rests : (has_some s.requester.way && may_go (suc at) w.acts) ≡ false
      rests =
          ap (λ (o : Option (Seat Asking)). unwrap_or (option_map (λ x. has_some x.requester.way) o) false && may_go (suc at) w.acts) (sym here) ∙ sessions_rest at (place-within w.seats at s here)

      none_awaited : (b : Bool) → cond b (option_map awaited_of None) None ≡ None
      none_awaited true = refl
      none_awaited false = refl

      by_way : (way : UnderWay) → s.requester.way ≡ way → (has_some way && may_go (suc at) w.acts) ≡ false → s.requester.way ≡ Awaiting []
      by_way (Awaiting []) e h = e
      by_way (Awaiting (r ∷ rest)) e h = absurd (nothing_waits at s (opened_at setting tellings w at s run here (subst (λ u. IsSending (next_at u 0)) (sym e) tt)) h)
      by_way (Drawing name floor) e h =
          let none : awaited (suc at) w.acts ≡ None = (run.seats at s here).waits ∙ ap (λ u. cond s.waits (option_map awaited_of (request_in u)) None) e ∙ none_awaited s.waits in
          absurd (false≢true (sym h ∙ ap (is_served (suc at) w.acts) none))

  pub all_seats : AllByRecursion (λ (s : Seat Asking). s.requester.way ≡ Awaiting []) w.seats
  all_seats = all_places (λ (s : Seat Asking). s.requester.way ≡ Awaiting []) w.seats all_finished

  seat_of : (at : ℕ) → Lies 1 (length setting.script.sessions) (suc at) → (s : Seat Asking) × (slice_get w.seats at ≡ Some s)
  seat_of at lies =
      let logs = length-map w.seats (λ (s : Seat Asking). s.requester.log) in
      let sessions = run.so_far.logs_begin.logs in
      some-at w.seats at (omega (arith, lies.1, logs, sessions))

  ways_empty : (n : ℕ) → Lies 1 (length setting.script.sessions) n → way_of (ways_of w) n ≡ Awaiting []
  ways_empty zero lies = absurd (omega (arith, lies.0))
  ways_empty (suc at) lies = let s = seat_of at lies in way_at w at s.0 s.1 ∙ all_finished at s.0 s.1

  logs_whole : (n : ℕ) → Lies 1 (length setting.script.sessions) n → follows setting.script n (log_of (record_of w) n)
  logs_whole zero lies = absurd (omega (arith, lies.0))
  logs_whole (suc at) lies =
      let s = seat_of at lies in
      let is = run.seats at s.0 s.1 in
      let whole = is.asking.whole (all_finished at s.0 s.1) in
      let of_script = subst (λ (script : Script). follows script s.0.requester.number s.0.requester.log) is.script whole in
      let of_session = subst (λ n. follows setting.script n s.0.requester.log) is.asker of_script in
      subst (λ (log : List LogEntry). follows setting.script (suc at) log) (sym (log_at w at s.0 s.1)) of_session

  pub is_legal : Legal setting.script (with_rows w)
  is_legal =
      let rows : List (List (List Value)) = map (λ (d : DiskProcess). rows_in d.partition) w.processes in
      let left : RowsLeft setting.script (with_rows w) =
      rows_of_processes (openings setting.script) w.processes (λ part d found. ((run.processes part d found).opened, (run.processes part d found).replayed)) in
      finished-legal setting.script (with_rows w) (ways_of w) (rows_free (record_of w) rows setting.script (ways_of w) run.so_far) ways_empty logs_whole left

  nobody_lives : (n : ℕ) → live_in w.seats n ≡ false
  nobody_lives zero = refl
  nobody_lives (suc at) = by_seat (slice_get w.seats at) refl
    where
      by_seat : (o : Option (Seat Asking)) → slice_get w.seats at ≡ o → unwrap_or (option_map (λ (s : Seat Asking). has_some s.requester.way) o) false ≡ false
      by_seat None e = refl
      by_seat (Some s) e = ap has_some (all_finished at s e)

  none_left : (n : ℕ) → steps_in w.seats n ≡ []
  none_left zero = refl
  none_left (suc at) = by_seat (slice_get w.seats at) refl
    where
      no_steps : (s : Seat Asking) (way : UnderWay) → s.requester.way ≡ way → way ≡ Awaiting [] → seat_steps s ≡ []
      no_steps s way e none = ap (λ u. steps_with (request_in u) s.losses s.waits) (e ∙ none)

      by_seat : (o : Option (Seat Asking)) → slice_get w.seats at ≡ o → unwrap_or (option_map seat_steps o) [] ≡ []
      by_seat None e = refl
      by_seat (Some s) e = no_steps s s.requester.way refl (all_finished at s e)

  live_is : live_in w.seats ≡ nobody
  live_is = λ i n. nobody_lives n i

  pub is_scheduled : Scheduled setting.choices (with_rows w)
  is_scheduled =
      scheduled_still (record_of w) (map (λ (d : DiskProcess). rows_in d.partition) w.processes) setting.choices
      (scheduled_whole (steps_in w.seats) setting.choices (record_of w) (subst (λ (live : ℕ → Bool). ScheduledSoFar live (steps_in w.seats) setting.choices (record_of w)) live_is run.scheduled) (λ n lies. none_left n)
      (subst (λ (live : ℕ → Bool). actors live (length (record_of w).logs) (length (record_of w).histories) w.acts [] ≡ []) live_is over))

  -- there is a wire for each session
  pub all_carried : length w.seats ≤ length tellings → AllCarried setting.told (with_rows w)
  all_carried wires zero t lies told = absurd (omega (arith, lies.0))
  all_carried wires (suc at) t lies told =
      let place : suc at - 1 ≡ at = omega arith in
      let logs = length-map w.seats (λ (x : Seat Asking). x.requester.log) in
      let s = some-at w.seats at (omega (arith, lies.1, logs)) in
      let now = some-at tellings at (omega (arith, lies.1, logs, wires)) in
      let is = run.seats at s.0 s.1 in
      let stands : Stands s.0 None = subst (Stands s.0) (ap request_in (all_finished at s.0 s.1)) is.stands in
      let none : sendings_so_far s.0 ≡ [] = (λ i. replicate (stands.0 i) true ++ cond (stands.1 i) (false ∷ []) []) in
      let so_far = (is.told t now.0 (ap (slice_get setting.told) (sym place) ∙ told) now.1).0 in
      let of_log = subst (λ (log : List LogEntry). IsCarried t.first t.round (passages_of (suc at) w.acts) now.0.first log (sendings_so_far s.0)) (sym (log_at w at s.0 s.1)) so_far in
      let whole = subst (λ (bs : List Bool). IsCarried t.first t.round (passages_of (suc at) w.acts) now.0.first (log_of (record_of w) (suc at)) bs) none of_log in
      carried_whole t.first t.round (with_rows w) (suc at) (passages_of (suc at) w.acts) now.0.first whole (λ some. refl)
