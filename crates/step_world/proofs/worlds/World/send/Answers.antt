-- A request goes out to a partition that there is, and the run goes on with it.
use Rattle.std.proofs.Common.{◌≡◌, ◌<◌, ◌++◌, ◌∷◌, [], ℕ, suc, List, length, refl, sym, ap, subst, ◌∙◌, rules, Ok, Err, Some}
use Rattle.std.specs.Prelude.{Result, OnOk, slice_get, slice_set}
use Rattle.outside.specs.declared.wire.Passage.{Passage}
use Rattle.dp_messages.specs.Spelling.{IsEnvelope, request_bytes}
use Rattle.requester_fs.specs.Asking.{Asking}
use Rattle.session_grammar.specs.Rows.{is_end}
use Rattle.run_record.specs.declared.records.Act.{Act}
use Rattle.run_record.specs.declared.records.Act.TheVariants.{Send}
use Rattle.step_world.specs.Scaffold.Mails.{copies_of}
use Rattle.step_world.specs.Scaffold.Seats.{IsOut, IsSent, seen, turn_of}
use Rattle.step_world.specs.Scaffold.Worlds.{Driving, GoesOnWith, Scene, scene}
use Rattle.step_world.specs.declared.processes.DiskProcess.{DiskProcess}
use Rattle.step_world.specs.declared.seats.Outgoing.{Outgoing}
use Rattle.step_world.specs.declared.seats.Seat.{Seat}
use Rattle.step_world.specs.declared.seats.Turn.TheVariants as turn
use Rattle.step_world.proofs.Acting.{next_scene}
use Rattle.step_world.proofs.Measured.{sent-less}
use Rattle.step_world.proofs.Handed.{few_losses, later_one, may_fail, process_at, same_scene, within_map}
use Rattle.step_world.proofs.Opened.{OpenSeat, opened_at, out_is, seat_is, turn_send}
use Rattle.step_world.proofs.Sending.{message_of, posted_to}
use Rattle.step_world.proofs.Sent.{sent_on}
use Rattle.step_world.proofs.worlds.World.send.Goals as goal
use Rattle.sql_base.proofs.ListFacts.{all_at, map_set}

-- the scene behind a sending is the one that the run goes on with
goes_sent : {T E : Type 0} (result : Result T E) (w : Scene) (at : ℕ) (s new : Seat Asking) (passage : Passage) (out : Outgoing) (d after : DiskProcess) (acts : List Act) (open_seat : OpenSeat w at s) → turn_of s ≡ turn.Send
    → IsOut s out → s.number ≡ suc at → slice_get w.processes out.part ≡ Some d → after.partition ≡ d.partition → after.mail ≡ d.mail ++ copies_of passage (request_bytes out.envelope)
    → acts ≡ w.acts ++ Send s.number out.part out.envelope.sync passage ∷ [] → OnOk result (IsSent passage out.is_end s new)
    → OnOk result (GoesOnWith at passage w (record { seats = slice_set w.seats at new; processes = slice_set w.processes out.part after; journal = w.journal; acts = acts }))
goes_sent (Err e) w at s new passage out d after acts open_seat turns is number found partition mail done sent = tt
goes_sent (Ok u) w at s new passage out d after acts open_seat turns is number found partition mail done sent = λ setting before telling has run chosen.
    let same = out_is s open_seat.r out open_seat.sends is in
    let envelope = same.1 ∙ (λ i. record { opener = number i; sync = open_seat.r.sync; request = open_seat.r.request }) in
    let left : after ≡ posted_to d passage (request_bytes (message_of at open_seat.r)) =
    (λ i. record { partition = partition i; mail = (mail ∙ ap (λ e. d.mail ++ copies_of passage (request_bytes e)) envelope) i }) in
    let its = subst (λ p. slice_get w.processes p ≡ Some d) same.0 found in
    let act : acts ≡ w.acts ++ Send (suc at) open_seat.r.part open_seat.r.sync passage ∷ [] =
    done ∙ (λ i. w.acts ++ Send (number i) (same.0 i) ((ap (λ e. e.sync) envelope) i) passage ∷ []) in
    subst (λ b. Driving setting telling b)
    (sym (same_scene (record { seats = slice_set w.seats at new; processes = slice_set w.processes out.part after; journal = w.journal; acts = acts })
    (next_scene w at new (slice_set w.processes open_seat.r.part (posted_to d passage (request_bytes (message_of at open_seat.r)))) w.journal (Send (suc at) open_seat.r.part open_seat.r.sync passage))
    refl (λ i. slice_set w.processes (same.0 i) (left i)) refl act))
    (sent_on setting before telling w at s new passage d open_seat turns its has run chosen out.is_end (is.is_end ∙ ap (λ e. is_end e.request.ask) same.1) sent)

pub index_mut-requires : goal.index_mut-requires
index_mut-requires g c =
    let q = c.index_mut-seat.result.now in
    let w = scene g.Q.Requester.asking c.args.self.now in
    let is = seat_is (seen g.Q.Requester.asking) c.args.self.now.seats.items c.args.at q c.requires.turn.0 c.requires.turn.1 c.index_mut-seat.ensures.value in
    let s = seen g.Q.Requester.asking q in
    let opened = opened_at c.requires.driving.0 c.requires.driving.1 w c.args.at s c.requires.driving.2 (c.requires.turn.1 ∙ ap Some (sym is.1)) (turn_send s (ap turn_of is.1 ∙ c.requires.turn.2)).0 in
    let out = out_is s opened.r c.in_ok-part.field-0 opened.sends c.in_ok-part.ensures in
    let less : c.in_ok-part.field-0.part < length c.args.self.now.processes.items = subst (λ p. p < length c.args.self.now.processes.items) (sym out.0) opened.part in
    search rules

pub index_mut-seat-requires : goal.index_mut-seat-requires
index_mut-seat-requires g c =
    let less : c.args.at < length c.args.self.now.seats.items = within_map (seen g.Q.Requester.asking) c.args.self.now.seats.items c.args.at c.requires.turn.0 c.requires.turn.1 in
    search rules

pub outgoing-requires : goal.outgoing-requires
outgoing-requires g c =
    let q = c.index_mut-seat.result.now in
    let is = seat_is (seen g.Q.Requester.asking) c.args.self.now.seats.items c.args.at q c.requires.turn.0 c.requires.turn.1 c.index_mut-seat.ensures.value in
    (turn_send (seen g.Q.Requester.asking q) (ap turn_of is.1 ∙ c.requires.turn.2)).0

pub post-requires : goal.post-requires
post-requires g c =
    let q = c.index_mut-seat.result.now in
    let w = scene g.Q.Requester.asking c.args.self.now in
    let is = seat_is (seen g.Q.Requester.asking) c.args.self.now.seats.items c.args.at q c.requires.turn.0 c.requires.turn.1 c.index_mut-seat.ensures.value in
    let s = seen g.Q.Requester.asking q in
    let here = c.requires.turn.1 ∙ ap Some (sym is.1) in
    let opened = opened_at c.requires.driving.0 c.requires.driving.1 w c.args.at s c.requires.driving.2 here (turn_send s (ap turn_of is.1 ∙ c.requires.turn.2)).0 in
    let out = out_is s opened.r c.in_ok-part.field-0 opened.sends c.in_ok-part.ensures in
    let number = (c.requires.driving.2.seats c.args.at s here).number in
    subst IsEnvelope (sym (out.1 ∙ (λ i. record { opener = number i; sync = opened.r.sync; request = opened.r.request }))) opened.spelled

pub note_passage-requires-clause-few : goal.note_passage-requires-clause-few
note_passage-requires-clause-few g c =
    let q = c.index_mut-seat.result.now in
    let w = scene g.Q.Requester.asking c.args.self.now in
    let is = seat_is (seen g.Q.Requester.asking) c.args.self.now.seats.items c.args.at q c.requires.turn.0 c.requires.turn.1 c.index_mut-seat.ensures.value in
    let s = seen g.Q.Requester.asking q in
    let turns = turn_send s (ap turn_of is.1 ∙ c.requires.turn.2) in
    let opened = opened_at c.requires.driving.0 c.requires.driving.1 w c.args.at s c.requires.driving.2 (c.requires.turn.1 ∙ ap Some (sym is.1)) turns.0 in
    few_losses s opened.r opened.stands turns.2

pub note_passage-requires-clause-fails : goal.note_passage-requires-clause-fails
note_passage-requires-clause-fails g c = may_fail (seen g.Q.Requester.asking c.index_mut-seat.result.now) c.in_ok-part.field-0 c.in_ok-part.ensures

pub note_passage-requires-clause-single : goal.note_passage-requires-clause-single
note_passage-requires-clause-single g c =
    let q = c.index_mut-seat.result.now in
    let is = seat_is (seen g.Q.Requester.asking) c.args.self.now.seats.items c.args.at q c.requires.turn.0 c.requires.turn.1 c.index_mut-seat.ensures.value in
    all_at (λ x. g.Q.Requester.single x.requester) c.args.self.now.seats.items c.args.at q c.requires.single is.0

pub returns-clause-goes_on : goal.returns-clause-goes_on
returns-clause-goes_on g c =
    let q = c.index_mut-seat.result.now in
    let w = scene g.Q.Requester.asking c.args.self.now in
    let is = seat_is (seen g.Q.Requester.asking) c.args.self.now.seats.items c.args.at q c.requires.turn.0 c.requires.turn.1 c.index_mut-seat.ensures.value in
    let s = seen g.Q.Requester.asking q in
    let here = c.requires.turn.1 ∙ ap Some (sym is.1) in
    let turns = ap turn_of is.1 ∙ c.requires.turn.2 in
    let opened = opened_at c.requires.driving.0 c.requires.driving.1 w c.args.at s c.requires.driving.2 here (turn_send s turns).0 in
    let out = out_is s opened.r c.in_ok-part.field-0 opened.sends c.in_ok-part.ensures in
    let number = (c.requires.driving.2.seats c.args.at s here).number in
    let new = seen g.Q.Requester.asking c.note_passage.new.self in
    let part = c.in_ok-part.field-0.part in
    let found = process_at w.processes part c.index_mut.result.now (subst (λ p. p < length w.processes) (sym out.0) opened.part) c.index_mut.ensures.value in
    let seats = map_set (seen g.Q.Requester.asking) c.args.self.now.seats.items c.args.at c.note_passage.new.self in
    subst (λ (xs : List (Seat Asking)). OnOk c.note_passage.result (GoesOnWith c.args.at c.args.passage w (record { seats = xs; processes = slice_set w.processes part c.post.new.self; journal = w.journal; acts = c.push.new.self })))
    (sym seats)
    (goes_sent c.note_passage.result w c.args.at s new c.args.passage c.in_ok-part.field-0 c.index_mut.result.now c.post.new.self c.push.new.self opened turns c.in_ok-part.ensures number found c.in_ok-post.ensures.partition c.in_ok-post.ensures.mail
    c.in_ok-push.ensures.ok c.note_passage.ensures.sent)

pub returns-clause-later : goal.returns-clause-later
returns-clause-later g c =
    let q = c.index_mut-seat.result.now in
    let is = seat_is (seen g.Q.Requester.asking) c.args.self.now.seats.items c.args.at q c.requires.turn.0 c.requires.turn.1 c.index_mut-seat.ensures.value in
    later_one g.Q.Requester.single g.Q.Requester.allows c.note_passage.result c.args.self.now.seats.items c.args.at q c.note_passage.new.self is.0 c.note_passage.ensures.single c.note_passage.ensures.allows

pub returns-clause-less : goal.returns-clause-less
returns-clause-less g c =
    let q = c.index_mut-seat.result.now in
    let w = scene g.Q.Requester.asking c.args.self.now in
    let is = seat_is (seen g.Q.Requester.asking) c.args.self.now.seats.items c.args.at q c.requires.turn.0 c.requires.turn.1 c.index_mut-seat.ensures.value in
    let s = seen g.Q.Requester.asking q in
    let here = c.requires.turn.1 ∙ ap Some (sym is.1) in
    let turns = ap turn_of is.1 ∙ c.requires.turn.2 in
    let opened = opened_at c.requires.driving.0 c.requires.driving.1 w c.args.at s c.requires.driving.2 here (turn_send s turns).0 in
    let out = out_is s opened.r c.in_ok-part.field-0 opened.sends c.in_ok-part.ensures in
    let number = (c.requires.driving.2.seats c.args.at s here).number in
    let new = seen g.Q.Requester.asking c.note_passage.new.self in
    let part = c.in_ok-part.field-0.part in
    let found = process_at w.processes part c.index_mut.result.now (subst (λ p. p < length w.processes) (sym out.0) opened.part) c.index_mut.ensures.value in
    sent-less g.Q.Requester.asking g.Q.Requester.left w c.args.self.now.seats.items c.args.self.now.processes.items c.note_passage.result c.args.at q c.note_passage.new.self is.0 part c.index_mut.result.now c.post.new.self found c.args.passage
    (request_bytes c.in_ok-part.field-0.envelope) c.in_ok-post.ensures.mail (turn_send s turns).1 c.note_passage.ensures.spends
