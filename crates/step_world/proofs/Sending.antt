-- A session gives its request to its path.
use Rattle.std.proofs.Common.{◌≡◌, ℕ, suc, List, [], ◌∷◌, ◌++◌, length, map, Some, None, Bool, cond, refl, ap, sym, ◌∙◌, subst}
use Rattle.std.specs.Prelude.{slice_get, slice_set}
use Rattle.std.specs.List.{AllByRecursion, AllZip}
use Rattle.std.proofs.lemmas.Bool.{eq-eqb, ne_eqb}
use Rattle.outside.specs.Wire.{Answers, is_loss}
use Rattle.outside.specs.declared.wire.Passage.{Passage}
use Rattle.outside.specs.declared.wire.Passage.TheVariants.{Carry, Repeat, LoseRequest, LoseReply}
use Rattle.sql_base.specs.Scripts.{Lies}
use Rattle.sql_base.specs.declared.scripts.Script.{Script}
use Rattle.dp_messages.specs.Spelling.{IsEnvelope, request_bytes}
use Rattle.dp_messages.specs.declared.requests.Envelope.{Envelope}
use Rattle.requester_fs.specs.Asking.{Asking}
use Rattle.session_grammar.specs.UnderWay.{Awaiting, Sending, UnderWay}
use Rattle.session_grammar.specs.declared.logs.LogEntry.{LogEntry}
use Rattle.run_record.specs.declared.records.Act.{Act}
use Rattle.run_record.specs.declared.records.Act.TheVariants.{Send}
use Rattle.run_record.specs.declared.records.RunRecord.{RunRecord}
use Rattle.record_laws.specs.SoFar.{LegalSoFar}
use Rattle.driver_laws.specs.Carrying.{IsCarried, Telling, passages_of}
use Rattle.driver_laws.specs.Moves.{IsPosted, with_acts}
use Rattle.driver_laws.specs.Scheduling.{Adds, Lost, OfSession, Posted, Sent, Step, awaited, awaits, copies, mail_after}
use Rattle.driver_laws.proofs.Adding.{adds_send}
use Rattle.driver_laws.proofs.Carrying.{carried_sent, passages_more}
use Rattle.driver_laws.proofs.Starting.{other_acts}
use Rattle.requester_fs.specs.Beginnings.{EachAt}
use Rattle.step_world.specs.Scaffold.Mails.{copies_of}
use Rattle.step_world.specs.Tellings.{HasTold}
use Rattle.step_world.specs.Scaffold.Worlds.{Driving, IsMessage, IsProcess, IsTold, Scene, Setting, Stands, WasPosted, awaited_by, awaited_of, has_some, next_actor, record_of, request_in, seat_steps, sendings_so_far, steps_in, ways_of}
use Rattle.step_world.specs.declared.processes.DiskProcess.{DiskProcess}
use Rattle.step_world.specs.declared.seats.Seat.{Seat}
use Rattle.step_world.proofs.Acting.{next_scene, others_stay, own_steps, session_acts}
use Rattle.step_world.proofs.Opened.{is_posted, lies_at, others_tell, sendable, way_at}
use Rattle.step_world.proofs.Places.{each_set, fold_one, get_set_same, map_set_same, zip_append}
use Rattle.step_world.proofs.Staying.{StillPosted, acts_on, mail_on, mail_one, process_stays, unserved}

-- as many copies of a message as its path carries
copies_zip : {X Y : Type 0} (R : X → Y → Type 0) (copy : Passage → X → List X) → ((m : X) → copy Carry m ≡ m ∷ []) → ((m : X) → copy Repeat m ≡ m ∷ m ∷ []) → ((m : X) → copy LoseRequest m ≡ []) → ((m : X) → copy LoseReply m ≡ m ∷ [])
    → (passage : Passage) (x : X) (y : Y) → R x y → AllZip R (copy passage x) (copies_of passage y)
copies_zip R copy c r q l Carry x y h = subst (λ xs. AllZip R xs (y ∷ [])) (sym (c x)) (h, tt)
copies_zip R copy c r q l Repeat x y h = subst (λ xs. AllZip R xs (y ∷ y ∷ [])) (sym (r x)) (h, (h, tt))
copies_zip R copy c r q l LoseRequest x y h = subst (λ xs. AllZip R xs []) (sym (q x)) tt
copies_zip R copy c r q l LoseReply x y h = subst (λ xs. AllZip R xs (y ∷ [])) (sym (l x)) (h, tt)

-- the process with the copies in its mail
abbrev pub posted_to : DiskProcess → Passage → List ℕ → DiskProcess
posted_to d passage bytes = record d { mail = d.mail ++ copies_of passage bytes }

-- the mail of the partition that the request goes to
module _ (script : Script) (kept after : RunRecord) (ways now : List UnderWay) (n : ℕ) (r : Sending) (passage : Passage) (d : DiskProcess) where
  abbrev R : Posted → List ℕ → Type 0
  R = IsMessage (length script.sessions) after now r.part

  abbrev m : Posted
  m = record { opener = n; sync = r.sync }

  abbrev e : Envelope
  e = record { opener = n; sync = r.sync; request = r.request }

  mails : after.acts ≡ kept.acts ++ Send n r.part r.sync passage ∷ [] → mail_after r.part after.acts ≡ mail_after r.part kept.acts ++ copies passage m
  mails acts =
      ap (mail_after r.part) acts ∙ mail_one r.part kept.acts (Send n r.part r.sync passage)
      ∙ ap (λ (b : Bool). cond b (mail_after r.part kept.acts ++ copies passage m) (mail_after r.part kept.acts)) (eq-eqb r.part r.part refl)

  pub process_posts : StillPosted (length script.sessions) kept ways after now → after.acts ≡ kept.acts ++ Send n r.part r.sync passage ∷ [] → Lies 1 (length script.sessions) n → IsEnvelope e
      → IsPosted kept ways n r.part r.sync r.request → IsProcess script kept ways r.part d → IsProcess script after now r.part (posted_to d passage (request_bytes e))
  process_posts still acts lies spelled was is =
      let message : R m (request_bytes e) =
      record { envelope = e; spelled = spelled; bytes_are = refl; message = refl; opener = lies; posted = still n r.part r.sync r.request lies was } in
      record {
        opened = is.opened;
        replayed = is.replayed;
        unmarked = is.unmarked;
        came = is.came;
        mail = subst (λ mail. AllZip R mail (d.mail ++ copies_of passage (request_bytes e))) (sym (mails acts))
            (zip_append R (mail_after r.part kept.acts) (copies passage m) d.mail (copies_of passage (request_bytes e)) (mail_on (length script.sessions) kept after ways now still r.part (mail_after r.part kept.acts) d.mail is.mail)
            (copies_zip R copies (λ x. refl) (λ x. refl) (λ x. refl) (λ x. refl) passage m (request_bytes e) message));
      }

-- the mails of all partitions
pub posts_all : (script : Script) (kept after : RunRecord) (ways now : List UnderWay) (n : ℕ) (r : Sending) (passage : Passage) (processes : List DiskProcess) (d : DiskProcess) → StillPosted (length script.sessions) kept ways after now
    → after.acts ≡ kept.acts ++ Send n r.part r.sync passage ∷ [] → Lies 1 (length script.sessions) n → IsEnvelope (record { opener = n; sync = r.sync; request = r.request }) → IsPosted kept ways n r.part r.sync r.request
    → slice_get processes r.part ≡ Some d → EachAt (IsProcess script kept ways) processes
    → EachAt (IsProcess script after now) (slice_set processes r.part (posted_to d passage (request_bytes (record { opener = n; sync = r.sync; request = r.request }))))
posts_all script kept after ways now n r passage processes d still acts lies spelled was found each =
    each_set (IsProcess script kept ways) (IsProcess script after now) processes r.part d (posted_to d passage (request_bytes (record { opener = n; sync = r.sync; request = r.request }))) found
    (process_posts script kept after ways now n r passage d still acts lies spelled was (each r.part d found))
    (λ part x differ at is. process_stays script kept after ways now (Send n r.part r.sync passage) part x still acts
    (λ mail. ap (λ (b : Bool). cond b (mail ++ copies passage (record { opener = n; sync = r.sync })) mail) (ne_eqb r.part part (λ e. differ (sym e)))) is) each

-- the answers that the wire told, with one more
pub told_more : (told before after : List Telling) (at : ℕ) (acts : List Act) (s new : Seat Asking) (part sync : ℕ) (passage : Passage) → HasTold at passage before after → IsTold told before at acts s → new.requester.log ≡ s.requester.log
    → sendings_so_far new ≡ sendings_so_far s ++ is_loss passage ∷ [] → IsTold told after at (acts ++ Send (suc at) part sync passage ∷ []) new
told_more told before after at acts s new part sync passage has is logs sendings first now f n =
    let old = is first has.wire f has.is in
    let left : Some (record { first = has.others; round = has.wire.round }) ≡ Some now = sym (get_set_same before at has.wire (record { first = has.others; round = has.wire.round }) has.is) ∙ ap (λ (ts : List Telling). slice_get ts at) (sym has.left) ∙ n in
    let now_first : has.others ≡ now.first = cc in
    let now_round : has.wire.round ≡ now.round = cc in
    let passages : passages_of (suc at) (acts ++ Send (suc at) part sync passage ∷ []) ≡ passages_of (suc at) acts ++ passage ∷ [] =
    passages_more (suc at) acts (Send (suc at) part sync passage) ∙ ap (λ (ps : List Passage). passages_of (suc at) acts ++ ps) (own_passage (suc at) part sync passage) in
    let answers = subst (λ round. Answers has.wire.first round passage has.others) old.1 has.answers in
    let carried = carried_sent first.first first.round (passages_of (suc at) acts) has.wire.first s.requester.log (sendings_so_far s) old.0 passage has.others answers in (
      subst (λ (ps : List Passage). IsCarried first.first first.round ps now.first new.requester.log (sendings_so_far new)) (sym passages)
          (subst (λ (later : List Passage). IsCarried first.first first.round (passages_of (suc at) acts ++ passage ∷ []) later new.requester.log (sendings_so_far new)) now_first
          (subst (λ (log : List LogEntry). IsCarried first.first first.round (passages_of (suc at) acts ++ passage ∷ []) has.others log (sendings_so_far new)) (sym logs)
          (subst (λ (bs : List Bool). IsCarried first.first first.round (passages_of (suc at) acts ++ passage ∷ []) has.others s.requester.log bs) (sym sendings) carried))),
      sym now_round ∙ old.1,
    )
  where
    own_passage : (m part sync : ℕ) (p : Passage) → passages_of m (Send m part sync p ∷ []) ≡ p ∷ []
    own_passage m part sync p = rw (eq-eqb m m refl) refl

-- a message of the session at a place
abbrev pub message_of : ℕ → Sending → Envelope
message_of at r = record { opener = suc at; sync = r.sync; request = r.request }

-- a request is carried, or lost once more and stays under way
module _ (setting : Setting) (before after : List Telling) (w : Scene) (at : ℕ) (s : Seat Asking) (r : Sending) (passage : Passage) (d : DiskProcess) (losses : ℕ) (waits : Bool) where
  abbrev new : Seat Asking
  new = record s { losses = losses; waits = waits }

  abbrev act : Act
  act = Send (suc at) r.part r.sync passage

  abbrev processes : List DiskProcess
  processes = slice_set w.processes r.part (posted_to d passage (request_bytes (message_of at r)))

  same_histories : slice_get w.processes r.part ≡ Some d → map (λ (x : DiskProcess). x.partition.history) processes ≡ map (λ (x : DiskProcess). x.partition.history) w.processes
  same_histories found = map_set_same (λ (x : DiskProcess). x.partition.history) w.processes r.part d (posted_to d passage (request_bytes (message_of at r))) found refl

  same_logs : slice_get w.seats at ≡ Some s → map (λ (x : Seat Asking). x.requester.log) (slice_set w.seats at new) ≡ map (λ (x : Seat Asking). x.requester.log) w.seats
  same_logs here = map_set_same (λ (x : Seat Asking). x.requester.log) w.seats at s new here refl

  same_record : slice_get w.seats at ≡ Some s → slice_get w.processes r.part ≡ Some d → record_of (next_scene w at new processes w.journal act) ≡ with_acts (record_of w) (w.acts ++ act ∷ [])
  same_record here found = (λ i. record { histories = same_histories found i; rows = []; journal = w.journal; logs = same_logs here i; acts = w.acts ++ act ∷ [] })

  same_ways : slice_get w.seats at ≡ Some s → ways_of (next_scene w at new processes w.journal act) ≡ ways_of w
  same_ways here = map_set_same (λ (x : Seat Asking). x.requester.way) w.seats at s new here refl

  pub sent_still : Driving setting before w → HasTold at passage before after → next_actor setting w ≡ Some (OfSession (suc at)) → slice_get w.seats at ≡ Some s → slice_get w.processes r.part ≡ Some d
      → s.requester.way ≡ Awaiting (r ∷ []) → Stands new (Some r) → awaited_by new ≡ cond (is_loss passage) None (Some (awaited_of r)) → seat_steps new ≡ seat_steps s ++ cond (is_loss passage) (Lost r.part r.sync) (Sent r.part r.sync) ∷ []
      → sendings_so_far new ≡ sendings_so_far s ++ is_loss passage ∷ [] → Driving setting after (next_scene w at new processes w.journal act)
  sent_still run has chosen here found way stands waiting steps sendings =
      let is = run.seats at s here in
      let lies = lies_at setting before w at s run here in
      let spelled : IsEnvelope (message_of at r) = subst (λ n. IsEnvelope (record { opener = n; sync = r.sync; request = r.request })) is.asker (sendable s.requester r is.asking way).spelled in
      let was : IsPosted (record_of w) (ways_of w) (suc at) r.part r.sync r.request = is_posted (record_of w) (ways_of w) (suc at) r (way_at w at s here ∙ way) in
      let kept : RunRecord = with_acts (record_of w) (w.acts ++ act ∷ []) in
      let to_record = sym (same_record here found) in
      let to_ways = sym (same_ways here) in
      session_acts setting before after w at s new processes w.journal act run chosen here refl (ap has_some way)
      (subst (λ k. LegalSoFar setting.script k (ways_of (next_scene w at new processes w.journal act))) to_record
      (subst (λ ws. LegalSoFar setting.script kept ws) to_ways (other_acts setting.script (record_of w) (ways_of w) (w.acts ++ act ∷ []) run.so_far)))
      (subst (λ k. Adds (steps_in w.seats) (steps_in (slice_set w.seats at new)) (record_of w) k act) to_record
      (adds_send (record_of w) (steps_in w.seats) (steps_in (slice_set w.seats at new)) (suc at) r.part r.sync passage
      (own_steps (slice_set w.seats at new) at new (get_set_same w.seats at s new here) ∙ steps ∙ ap (λ (ss : List Step). ss ++ cond (is_loss passage) (Lost r.part r.sync) (Sent r.part r.sync) ∷ []) (sym (own_steps w.seats at s here)))
      (others_stay w.seats at new)))
      (others_tell at passage before after has)
      (record {
        number = is.number;
        asker = is.asker;
        script = is.script;
        asking = is.asking;
        one = is.one;
        stands = subst (Stands new) (sym (ap request_in way)) stands;
        waits = fold_one (awaits (suc at)) None w.acts act ∙ ap (λ (b : Bool). cond b (cond (is_loss passage) None (Some (awaited_of r))) (awaited (suc at) w.acts)) (eq-eqb (suc at) (suc at) refl) ∙ sym waiting;
        noted = λ x h. unserved (suc at) (awaited_of x) w.acts act refl ∙ is.noted x h;
        told = told_more setting.told before after at w.acts s new r.part r.sync passage has is.told refl sendings;
      })
      (subst (λ k. EachAt (IsProcess setting.script k (ways_of (next_scene w at new processes w.journal act))) processes) to_record
      (subst (λ ws. EachAt (IsProcess setting.script kept ws) processes) to_ways
      (posts_all setting.script (record_of w) kept (ways_of w) (ways_of w) (suc at) r passage w.processes d (λ n part sync request l posted. posted) refl lies spelled was found run.processes)))
      (subst (λ k. AllByRecursion (WasPosted (length setting.script.sessions) k (ways_of (next_scene w at new processes w.journal act))) w.acts) to_record
      (subst (λ ws. AllByRecursion (WasPosted (length setting.script.sessions) kept ws) w.acts) to_ways
      (acts_on (length setting.script.sessions) (record_of w) kept (ways_of w) (ways_of w) (λ n part sync request l posted. posted) w.acts run.served)))
