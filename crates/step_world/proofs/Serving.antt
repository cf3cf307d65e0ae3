-- A partition serves the oldest message of its mail.
use Rattle.std.proofs.Common.{◌≡◌, ◌≢◌, ◌≤◌, ◌<◌, ℕ, zero, suc, List, [], ◌∷◌, ◌++◌, length, map, take, drop, Option, Some, None, Bool, true, false, cond, refl, ap, sym, ◌∙◌, subst, arith, inl, inr}
use Rattle.std.specs.Prelude.{◌||◌, ◌&&◌, ◌==◌, option_map, slice_get, slice_set, unwrap_or}
use Rattle.std.specs.List.{AllByRecursion, AllZip, list_any}
use Rattle.std.proofs.lemmas.Bool.{eq-eqb, ne_eqb}
use Rattle.std.proofs.lemmas.List.{append-nil}
use Rattle.outside.specs.declared.wire.Passage.{Passage}
use Rattle.sql_base.specs.Scripts.{Lies}
use Rattle.dp_messages.specs.Spelling.{request_bytes}
use Rattle.dp_messages.specs.declared.requests.Envelope.{Envelope}
use Rattle.dp_messages.specs.declared.requests.Request.{Request}
use Rattle.dp_messages.proofs.Meanings.{one_envelope}
use Rattle.partition_core.specs.Kept.{Kept, entry_of, opener_in, served}
use Rattle.partition_state.specs.State.{Opener}
use Rattle.partition_state.specs.declared.entries.Entry.{Entry}
use Rattle.requester_fs.specs.Asking.{Asking, next_at}
use Rattle.session_grammar.specs.Sessions.{Sends}
use Rattle.session_grammar.specs.UnderWay.{Awaiting, Drawing, Sending, UnderWay}
use Rattle.run_record.specs.declared.records.Act.{Act}
use Rattle.run_record.specs.declared.records.Act.TheVariants.{Serve}
use Rattle.run_record.specs.declared.records.RunRecord.{RunRecord}
use Rattle.record_laws.specs.SoFar.{LegalSoFar}
use Rattle.driver_laws.specs.Moves.{IsPosted, with_acts, with_entry}
use Rattle.driver_laws.specs.Scheduling.{Adds, Awaited, OfPartition, Posted, awaits, is_serve_of, mail_after}
use Rattle.driver_laws.proofs.Adding.{adds_serve_new, adds_serve_old}
use Rattle.driver_laws.proofs.Moving.{later, served as served_so_far}
use Rattle.driver_laws.specs.Carrying.{IsCarried, Telling, passages_of}
use Rattle.driver_laws.proofs.Carrying.{passages_more}
use Rattle.driver_laws.proofs.Picking.{served_before}
use Rattle.driver_laws.proofs.Scheduling.{acts_more}
use Rattle.driver_laws.proofs.Starting.{other_acts}
use Rattle.requester_fs.specs.Beginnings.{EachAt}
use Rattle.step_world.specs.Scaffold.Mails.{TakesOldest}
use Rattle.step_world.specs.Scaffold.Seats.{is_open, served_at}
use Rattle.step_world.specs.Scaffold.Worlds.{Driving, IsMessage, IsProcess, IsSeat, Scene, Setting, WasPosted, awaited_of, has_some, live_in, next_actor, record_of, request_in, seat_steps, sendings_so_far, steps_in, ways_of}
use Rattle.step_world.specs.declared.processes.DiskProcess.{DiskProcess}
use Rattle.step_world.specs.declared.processes.Sender.{Sender}
use Rattle.step_world.specs.declared.seats.Seat.{Seat}
use Rattle.step_world.proofs.Handled.{came_on, histories_on, is_next, replayed_on, unmarked_on}
use Rattle.step_world.proofs.Places.{any_one, each_set, fold_one, get_set_other, get_set_same, map_set_same, same_or}
use Rattle.step_world.proofs.Replies.{opener_is, within_histories}
use Rattle.step_world.proofs.Staying.{acts_on, acts_with, mail_on, mail_one, process_stays, seat_stays}

-- the oldest message is the first that was posted and not yet served
zip_head : {X Y : Type 0} (R : X → Y → Type 0) (xs : List X) (y : Y) (ys : List Y) → AllZip R xs (y ∷ ys) → (x : X) × (rest : List X) × (xs ≡ x ∷ rest) × R x y × AllZip R rest ys
zip_head R [] y ys h = absurd h
zip_head R (x ∷ xs) y ys h = (x, xs, refl, h.0, h.1)

-- a Serve of another session's message
not_its : (n part opener sync : ℕ) (v : Awaited) → opener ≢ n → is_serve_of n v (Serve part opener sync) ≡ false
not_its n part opener sync v differ = at (part == v.part) (sync == v.sync)
  where
    at : (a b : Bool) → ((a && (opener == n)) && b) ≡ false
    at true b = rw (ne_eqb opener n differ) refl
    at false b = refl

eqb_turned : (m n : ℕ) → (m == n) ≡ (n == m)
eqb_turned m n = elim (same_or m n) [ inl e ↦ ap (λ x. x == n) e ∙ ap (λ x. n == x) (sym e) | inr d ↦ ne_eqb m n d ∙ sym (ne_eqb n m (λ e. d (sym e))) ]

-- what is noted of a session whose message was served
noted_on : (n part sync : ℕ) (s : Seat Asking) (r : Sending) (acts : List Act) → next_at s.requester.way 0 ≡ Sends r.part r.sync r.request → list_any (is_serve_of n (awaited_of r)) acts ≡ s.is_served
    → list_any (is_serve_of n (awaited_of r)) (acts ++ Serve part n sync ∷ []) ≡ (served_at s part sync).is_served
noted_on n part sync s r acts sends was =
    any_one (is_serve_of n (awaited_of r)) acts (Serve part n sync) ∙ ap (λ (b : Bool). b || ((part == r.part && (n == n)) && (sync == r.sync))) was ∙ ap (λ (b : Bool). s.is_served || ((part == r.part && b) && (sync == r.sync))) (eq-eqb n n refl)
    ∙ by_bits s.is_served (part == r.part) (sync == r.sync) ∙ ap (λ (b : Bool). cond (b && (sync == r.sync)) true s.is_served) (eqb_turned part r.part) ∙ ap (λ (b : Bool). cond ((r.part == part) && b) true s.is_served) (eqb_turned sync r.sync)
    ∙ sym (ap (λ next. cond (is_open next part sync) true s.is_served) sends)
  where
    by_bits : (was_served a b : Bool) → (was_served || ((a && true) && b)) ≡ cond (a && b) true was_served
    by_bits true true true = refl
    by_bits true true false = refl
    by_bits true false b = refl
    by_bits false true true = refl
    by_bits false true false = refl
    by_bits false false b = refl

first_way : (way : UnderWay) (r : Sending) → request_in way ≡ Some r → next_at way 0 ≡ Sends r.part r.sync r.request
first_way (Awaiting []) r is = absurd (cc)
first_way (Awaiting (x ∷ sends)) r is = let same : x ≡ r = cc in ap (λ (y : Sending). Sends y.part y.sync y.request) same
first_way (Drawing name floor) r is = absurd (cc)

module _ (setting : Setting) (tellings : List Telling) (w : Scene) (part at : ℕ) (s : Seat Asking) (d after : DiskProcess) (sender : Sender) (run : Driving setting tellings w) (found : slice_get w.processes part ≡ Some d)
    (here : slice_get w.seats at ≡ Some s) (opener : sender.opener ≡ suc at) (took : TakesOldest d after sender) where
  abbrev act : Act
  act = Serve part sender.opener sender.sync

  abbrev it : Scene
  it = record { seats = slice_set w.seats at (served_at s part sender.sync); processes = slice_set w.processes part after; journal = w.journal; acts = w.acts ++ act ∷ [] }

  abbrev e : Envelope
  e = took.envelope

  heads : (m : Posted) × (rest : List Posted) × (mail_after part w.acts ≡ m ∷ rest) × IsMessage (length setting.script.sessions) (record_of w) (ways_of w) part m (request_bytes e)
      × AllZip (IsMessage (length setting.script.sessions) (record_of w) (ways_of w) part) rest after.mail
  heads =
      zip_head (IsMessage (length setting.script.sessions) (record_of w) (ways_of w) part) (mail_after part w.acts) (request_bytes e) after.mail
      (subst (λ mail. AllZip (IsMessage (length setting.script.sessions) (record_of w) (ways_of w) part) (mail_after part w.acts) mail) took.oldest (run.processes part d found).mail)

  same_envelope : heads.3.envelope ≡ e
  same_envelope = one_envelope heads.3.envelope e heads.3.spelled took.spelled (sym heads.3.bytes_are)

  lies : Lies 1 (length setting.script.sessions) e.opener
  lies = subst (λ (x : Envelope). Lies 1 (length setting.script.sessions) x.opener) same_envelope heads.3.opener

  posted : IsPosted (record_of w) (ways_of w) e.opener part e.sync e.request
  posted = subst (λ (x : Envelope). IsPosted (record_of w) (ways_of w) x.opener part x.sync x.request) same_envelope heads.3.posted

  message : heads.0 ≡ record { opener = sender.opener; sync = sender.sync }
  message = heads.3.message ∙ (λ i. record { opener = ((ap (λ (x : Envelope). x.opener) same_envelope) ∙ sym took.opener) i; sync = ((ap (λ (x : Envelope). x.sync) same_envelope) ∙ sym took.sync) i })

  live_same : (n : ℕ) → live_in w.seats n ≡ live_in it.seats n
  live_same zero = refl
  live_same (suc i) = elim (same_or i at) [ inl same ↦ own same | inr differ ↦ ap (λ (o : Option (Seat Asking)). unwrap_or (option_map (λ x. has_some x.requester.way) o) false) (sym (get_set_other w.seats at i (served_at s part sender.sync) differ)) ]
    where
      own : i ≡ at → live_in w.seats (suc i) ≡ live_in it.seats (suc i)
      own same =
          ap (λ (o : Option (Seat Asking)). unwrap_or (option_map (λ x. has_some x.requester.way) o) false)
          (ap (slice_get w.seats) same ∙ here) ∙ sym (ap (λ (o : Option (Seat Asking)). unwrap_or (option_map (λ x. has_some x.requester.way) o) false)
          (ap (slice_get it.seats) same ∙ get_set_same w.seats at s (served_at s part sender.sync) here))

  steps_same : (n : ℕ) → steps_in it.seats n ≡ steps_in w.seats n
  steps_same zero = refl
  steps_same (suc i) = elim (same_or i at) [ inl same ↦ own same | inr differ ↦ ap (λ (o : Option (Seat Asking)). unwrap_or (option_map seat_steps o) []) (get_set_other w.seats at i (served_at s part sender.sync) differ) ]
    where
      own : i ≡ at → steps_in it.seats (suc i) ≡ steps_in w.seats (suc i)
      own same =
          ap (λ (o : Option (Seat Asking)). unwrap_or (option_map seat_steps o) []) (ap (slice_get it.seats) same ∙ get_set_same w.seats at s (served_at s part sender.sync) here)
          ∙ sym (ap (λ (o : Option (Seat Asking)). unwrap_or (option_map seat_steps o) []) (ap (slice_get w.seats) same ∙ here))

  same_logs : map (λ (x : Seat Asking). x.requester.log) it.seats ≡ map (λ (x : Seat Asking). x.requester.log) w.seats
  same_logs = map_set_same (λ (x : Seat Asking). x.requester.log) w.seats at s (served_at s part sender.sync) here refl

  same_ways : ways_of it ≡ ways_of w
  same_ways = map_set_same (λ (x : Seat Asking). x.requester.way) w.seats at s (served_at s part sender.sync) here refl

  -- with the histories as they are now
  module _ (kept : RunRecord) (kept_is : record_of it ≡ with_acts kept (w.acts ++ act ∷ [])) (same_posts : (n p y : ℕ) (q : Request) → IsPosted (record_of w) (ways_of w) n p y q → IsPosted kept (ways_of w) n p y q)
      (legal : LegalSoFar setting.script kept (ways_of w)) (adds : Adds (steps_in w.seats) (steps_in it.seats) (record_of w) (with_acts kept (w.acts ++ act ∷ [])) act)
      (own : IsProcess setting.script (record_of w) (ways_of w) part (record d { partition = after.partition })) where
    abbrev kept_now : RunRecord
    kept_now = with_acts kept (w.acts ++ act ∷ [])

    abbrev N : ℕ
    N = length setting.script.sessions

    own_on : IsProcess setting.script kept_now (ways_of w) part after
    own_on =
        record {
          opened = own.opened;
          replayed = own.replayed;
          unmarked = own.unmarked;
          came = own.came;
          mail = subst (λ mail. AllZip (IsMessage N kept_now (ways_of w) part) mail after.mail)
              (sym (mail_one part w.acts act ∙ ap (λ (b : Bool). cond b (drop 1 (mail_after part w.acts)) (mail_after part w.acts)) (eq-eqb part part refl) ∙ ap (drop 1) heads.2 ∙ refl))
              (mail_on N (record_of w) kept_now (ways_of w) (ways_of w) (λ n p y q l h. same_posts n p y q h) part heads.1 after.mail heads.4);
        }

    pub serves : next_actor setting w ≡ Some (OfPartition part) → Driving setting tellings it
    serves chosen =
        let to_record = sym kept_is in
        let to_ways = sym same_ways in
        record {
          so_far = subst (λ k. LegalSoFar setting.script k (ways_of it)) to_record (subst (λ ws. LegalSoFar setting.script kept_now ws) to_ways (other_acts setting.script kept (ways_of w) (w.acts ++ act ∷ []) legal));
          scheduled = acts_more (live_in w.seats) (live_in it.seats) act live_same (steps_in w.seats) (steps_in it.seats) setting.choices (record_of w) (record_of it) run.scheduled
              (record { chosen = chosen; oldest = ap (take 1) heads.2 ∙ ap (λ m. m ∷ []) message })
              (subst (λ k. Adds (steps_in w.seats) (steps_in it.seats) (record_of w) k act) to_record adds);
          seats = each_set (IsSeat setting tellings w.acts) (IsSeat setting tellings (w.acts ++ act ∷ [])) w.seats at s (served_at s part sender.sync) here (own_seat (run.seats at s here))
              (λ i z differ there is. seat_stays setting tellings tellings w.acts act i z refl (λ v. not_its (suc i) part sender.opener sender.sync v (λ same. differ (cc (sym same ∙ opener)))) refl is) run.seats;
          processes = subst (λ k. EachAt (IsProcess setting.script k (ways_of it)) it.processes) to_record (subst (λ ws. EachAt (IsProcess setting.script kept_now ws) it.processes) to_ways
              (each_set (IsProcess setting.script (record_of w) (ways_of w)) (IsProcess setting.script kept_now (ways_of w)) w.processes part d after found own_on
              (λ p x differ there is. process_stays setting.script (record_of w) kept_now (ways_of w) (ways_of w) act p x (λ n q y r l h. same_posts n q y r h) refl
              (λ mail. ap (λ (b : Bool). cond b (drop 1 mail) mail) (ne_eqb part p (λ same. differ (sym same)))) is) run.processes));
          served = subst (λ k. AllByRecursion (WasPosted N k (ways_of it)) it.acts) to_record (subst (λ ws. AllByRecursion (WasPosted N kept_now ws) it.acts) to_ways
              (acts_with N kept_now (ways_of w) w.acts act (acts_on N (record_of w) kept_now (ways_of w) (ways_of w) (λ n p y q l h. same_posts n p y q h) w.acts run.served) was));
        }
      where
        own_seat : IsSeat setting tellings w.acts at s → IsSeat setting tellings (w.acts ++ act ∷ []) at (served_at s part sender.sync)
        own_seat is =
            record {
              number = is.number;
              asker = is.asker;
              script = is.script;
              asking = is.asking;
              one = is.one;
              stands = is.stands;
              waits = fold_one (awaits (suc at)) None w.acts act ∙ is.waits;
              noted = λ r open_is. subst (λ m. list_any (is_serve_of (suc at) (awaited_of r)) (w.acts ++ Serve part m sender.sync ∷ []) ≡ (served_at s part sender.sync).is_served) (sym opener)
                  (noted_on (suc at) part sender.sync s r w.acts (first_way s.requester.way r open_is) (is.noted r open_is));
              told = λ first now f n.
                  let before = is.told first now f n in
                  let passages : passages_of (suc at) (w.acts ++ act ∷ []) ≡ passages_of (suc at) w.acts = passages_more (suc at) w.acts act ∙ append-nil (passages_of (suc at) w.acts) in
                  (subst (λ (ps : List Passage). IsCarried first.first first.round ps now.first s.requester.log (sendings_so_far s)) (sym passages) before.0, before.1);
            }

        was : WasPosted N kept_now (ways_of w) act
        was = (
          e.request,
          subst (Lies 1 N) (sym took.opener) lies,
          subst (λ m. IsPosted kept_now (ways_of w) m part sender.sync e.request) (sym took.opener)
              (subst (λ m. IsPosted kept_now (ways_of w) e.opener part m e.request) (sym took.sync) (same_posts e.opener part e.sync e.request posted)),
        )

  -- the two ways in which a message is served
  pub served_on : next_actor setting w ≡ Some (OfPartition part) → Driving setting tellings it
  served_on chosen = elim took.handled [ inl new ↦ as_new new | inr old ↦ as_old old ]
    where
      as_new : ((opener_in d.partition e.opener).last < e.sync) × (after.partition ≡ served d.partition e.opener e.sync e.request) → Driving setting tellings it
      as_new h =
          let en : Entry = entry_of d.partition.now e.opener e.sync e.request in
          let is = run.processes part d found in
          let within = within_histories setting tellings w part d run found in
          let next = is_next setting tellings w part d run found e.opener e.sync e.request took.spelled h.0 in
          let histories = histories_on setting tellings w part d run found e.opener e.sync e.request took.spelled h.0 after (ap (λ (k : Kept). k.history) h.1) in
          let kept = with_entry (record_of w) part en in
          let adds = adds_serve_new (record_of w) (steps_in w.seats) (steps_in it.seats) part within en (later setting.script (record_of w) (ways_of w) run.so_far part within en lies next) steps_same in
          serves kept (λ i. record { histories = histories i; rows = []; journal = w.journal; logs = same_logs i; acts = w.acts ++ act ∷ [] }) (λ n p y q x. x)
          (served_so_far setting.script (record_of w) (ways_of w) run.so_far part within en lies next posted)
          (subst (λ m. Adds (steps_in w.seats) (steps_in it.seats) (record_of w) (with_acts kept (w.acts ++ Serve part m sender.sync ∷ [])) (Serve part m sender.sync)) (sym took.opener)
          (subst (λ m. Adds (steps_in w.seats) (steps_in it.seats) (record_of w) (with_acts kept (w.acts ++ Serve part e.opener m ∷ [])) (Serve part e.opener m)) (sym took.sync) adds))
          (subst (λ (k : Kept). IsProcess setting.script (record_of w) (ways_of w) part (record d { partition = k })) (sym h.1)
          (record {
            opened = is.opened;
            replayed = replayed_on setting tellings w part d run found e.opener e.sync e.request took.spelled h.0;
            unmarked = unmarked_on setting tellings w part d run found e.opener e.sync e.request took.spelled h.0;
            came = came_on setting tellings w part d run found e.opener e.sync e.request took.spelled h.0;
            mail = is.mail;
          })) chosen

      as_old : (e.sync ≤ (opener_in d.partition e.opener).last) × (after.partition ≡ d.partition) → Driving setting tellings it
      as_old h =
          let is = run.processes part d found in
          let within = within_histories setting tellings w part d run found in
          let first : 1 ≤ e.sync = took.spelled.sync.0 in
          let last = subst (λ (o : Opener). e.sync ≤ o.last) (opener_is setting tellings w part d run found e.opener) h.0 in
          let old = served_before setting.script (record_of w) (ways_of w) run.so_far e.opener lies part within d.partition.opening is.opened e.sync (omega (arith, first)) last in
          let histories : map (λ (x : DiskProcess). x.partition.history) it.processes ≡ (record_of w).histories = map_set_same (λ (x : DiskProcess). x.partition.history) w.processes part d after found (ap (λ (k : Kept). k.history) h.1) in
          let adds = adds_serve_old (record_of w) (steps_in w.seats) (steps_in it.seats) part e.opener e.sync within old steps_same in
          serves (record_of w) (λ i. record { histories = histories i; rows = []; journal = w.journal; logs = same_logs i; acts = w.acts ++ act ∷ [] }) (λ n p y q x. x) run.so_far
          (subst (λ m. Adds (steps_in w.seats) (steps_in it.seats) (record_of w) (with_acts (record_of w) (w.acts ++ Serve part m sender.sync ∷ [])) (Serve part m sender.sync)) (sym took.opener)
          (subst (λ m. Adds (steps_in w.seats) (steps_in it.seats) (record_of w) (with_acts (record_of w) (w.acts ++ Serve part e.opener m ∷ [])) (Serve part e.opener m)) (sym took.sync) adds))
          (subst (λ (k : Kept). IsProcess setting.script (record_of w) (ways_of w) part (record d { partition = k })) (sym h.1) is) chosen

-- the sender of the oldest message is a session of the script
pub sender_lies : (setting : Setting) (tellings : List Telling) (w : Scene) (part : ℕ) (d after : DiskProcess) (sender : Sender) → Driving setting tellings w → slice_get w.processes part ≡ Some d → TakesOldest d after sender
    → Lies 1 (length setting.script.sessions) sender.opener
sender_lies setting tellings w part d after sender run found took =
    let heads = zip_head (IsMessage (length setting.script.sessions) (record_of w) (ways_of w) part) (mail_after part w.acts) (request_bytes took.envelope) after.mail
    (subst (λ mail. AllZip (IsMessage (length setting.script.sessions) (record_of w) (ways_of w) part) (mail_after part w.acts) mail) took.oldest (run.processes part d found).mail) in
    let same = one_envelope heads.3.envelope took.envelope heads.3.spelled took.spelled (sym heads.3.bytes_are) in
    subst (Lies 1 (length setting.script.sessions)) (ap (λ (x : Envelope). x.opener) same ∙ sym took.opener) heads.3.opener
