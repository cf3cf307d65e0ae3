-- The End that a session serves itself is answered by its partition, and the run goes on with it.
use Rattle.std.proofs.Common.{◌≡◌, ◌<◌, ◌≤◌, ◌++◌, ◌∷◌, [], ℕ, suc, List, length, refl, sym, ap, subst, ◌∙◌, arith, rules, Ok, Err, Some}
use Rattle.std.specs.Prelude.{Result, OnOk, slice_get, slice_set}
use Rattle.sql_base.specs.Scripts.{Lies}
use Rattle.dp_messages.specs.declared.replies.Reply.{Reply as PartitionReply}
use Rattle.dp_messages.specs.declared.requests.Envelope.{Envelope}
use Rattle.partition_core.specs.Kept.{opener_in}
use Rattle.requester_fs.specs.Asking.{Asking}
use Rattle.session_grammar.specs.declared.logs.Answer.TheVariants.{Reply}
use Rattle.run_record.specs.declared.records.Act.{Act}
use Rattle.run_record.specs.declared.records.Act.TheVariants.{ByHand}
use Rattle.driver_laws.specs.Scheduling.{OfSession}
use Rattle.step_world.specs.Scaffold.Mails.{CanReply, Handles}
use Rattle.step_world.specs.Scaffold.Seats.{IsAnswered, IsOut, seen, turn_of}
use Rattle.step_world.specs.Scaffold.Worlds.{Driving, GoesOn, Scene, scene}
use Rattle.step_world.specs.declared.processes.DiskProcess.{DiskProcess}
use Rattle.step_world.specs.declared.seats.Outgoing.{Outgoing}
use Rattle.step_world.specs.declared.seats.Seat.{Seat}
use Rattle.step_world.specs.declared.seats.Turn.TheVariants as turn
use Rattle.step_world.proofs.Acting.{next_scene}
use Rattle.step_world.proofs.Measured.{hand-advances, handed-less}
use Rattle.step_world.proofs.Handed.{later_one, process_at, same_scene, within_map}
use Rattle.step_world.proofs.Handing.{can_reply, handed_comes, handed_fits, handed_on}
use Rattle.step_world.proofs.Opened.{OpenSeat, opened_at, out_is, seat_is, turn_hand}
use Rattle.step_world.proofs.worlds.World.serve_by_hand.Goals as goal
use Rattle.sql_base.proofs.ListFacts.{all_at, map_set}

goes_by_hand : {T E : Type 0} (result : Result T E) (w : Scene) (at : ℕ) (s new : Seat Asking) (out : Outgoing) (d after : DiskProcess) (reply : PartitionReply) (acts : List Act) (o : OpenSeat w at s) → turn_of s ≡ turn.ServeByHand → IsOut s out
    → s.number ≡ suc at → slice_get w.processes o.r.part ≡ Some d → Handles d.partition (suc at) o.r.sync o.r.request after.partition → (opener_in after.partition (suc at)).kept ≡ Some reply → after.mail ≡ d.mail
    → acts ≡ w.acts ++ ByHand s.number out.part out.envelope.sync ∷ [] → OnOk result (IsAnswered (Reply reply) s new)
    → OnOk result (GoesOn (OfSession (suc at)) w (record { seats = slice_set w.seats at new; processes = slice_set w.processes out.part after; journal = w.journal; acts = acts }))
goes_by_hand (Err e) w at s new out d after reply acts o turns is number found handled told mail done answered = tt
goes_by_hand (Ok u) w at s new out d after reply acts o turns is number found handled told mail done answered = λ setting tellings run chosen.
    let same = out_is s o.r out o.sends is in
    let act : acts ≡ w.acts ++ ByHand (suc at) o.r.part o.r.sync ∷ [] = done ∙ (λ i. w.acts ++ ByHand (number i) (same.0 i) ((ap (λ (e : Envelope). e.sync) same.1) i) ∷ []) in
    subst (λ b. Driving setting tellings b)
    (sym (same_scene (record { seats = slice_set w.seats at new; processes = slice_set w.processes out.part after; journal = w.journal; acts = acts })
    (next_scene w at new (slice_set w.processes o.r.part after) w.journal (ByHand (suc at) o.r.part o.r.sync)) refl (ap (λ p. slice_set w.processes p after) same.0) refl act))
    (handed_on setting tellings w at s o d run found turns new after reply answered mail handled told chosen)

pub index_mut-seat-requires : goal.index_mut-seat-requires
index_mut-seat-requires g c =
    let less : c.args.at < length c.args.self.now.seats.items = within_map (seen g.Q.Requester.asking) c.args.self.now.seats.items c.args.at c.requires.turn.0 c.requires.turn.1 in
    search rules

pub outgoing-requires : goal.outgoing-requires
outgoing-requires g c =
    let q = c.index_mut-seat.result.now in
    let is = seat_is (seen g.Q.Requester.asking) c.args.self.now.seats.items c.args.at q c.requires.turn.0 c.requires.turn.1 c.index_mut-seat.ensures.value in
    (turn_hand (seen g.Q.Requester.asking q) (ap turn_of is.1 ∙ c.requires.turn.2)).0

pub index_mut-requires : goal.index_mut-requires
index_mut-requires g c =
    let q = c.index_mut-seat.result.now in
    let w = scene g.Q.Requester.asking c.args.self.now in
    let is = seat_is (seen g.Q.Requester.asking) c.args.self.now.seats.items c.args.at q c.requires.turn.0 c.requires.turn.1 c.index_mut-seat.ensures.value in
    let s = seen g.Q.Requester.asking q in
    let here : slice_get w.seats c.args.at ≡ Some s = c.requires.turn.1 ∙ ap Some (sym is.1) in
    let turns : turn_of s ≡ turn.ServeByHand = ap turn_of is.1 ∙ c.requires.turn.2 in
    let setting = c.requires.driving.0 in
    let tellings = c.requires.driving.1 in
    let run = c.requires.driving.2 in
    let o = opened_at setting tellings w c.args.at s run here (turn_hand s turns).0 in
    let out = c.in_ok-part.field-0 in
    let same = out_is s o.r out o.sends c.in_ok-part.ensures in
    let less : out.part < length c.args.self.now.processes.items = subst (λ p. p < length w.processes) (sym same.0) o.part in
    search rules

pub serve_and_reply-requires-clause-opener : goal.serve_and_reply-requires-clause-opener
serve_and_reply-requires-clause-opener g c =
    let q = c.index_mut-seat.result.now in
    let w = scene g.Q.Requester.asking c.args.self.now in
    let is = seat_is (seen g.Q.Requester.asking) c.args.self.now.seats.items c.args.at q c.requires.turn.0 c.requires.turn.1 c.index_mut-seat.ensures.value in
    let s = seen g.Q.Requester.asking q in
    let here : slice_get w.seats c.args.at ≡ Some s = c.requires.turn.1 ∙ ap Some (sym is.1) in
    let turns : turn_of s ≡ turn.ServeByHand = ap turn_of is.1 ∙ c.requires.turn.2 in
    let setting = c.requires.driving.0 in
    let tellings = c.requires.driving.1 in
    let run = c.requires.driving.2 in
    let o = opened_at setting tellings w c.args.at s run here (turn_hand s turns).0 in
    let out = c.in_ok-part.field-0 in
    let same = out_is s o.r out o.sends c.in_ok-part.ensures in
    let number = (run.seats c.args.at s here).number in
    let envelope : out.envelope ≡ record { opener = suc c.args.at; sync = o.r.sync; request = o.r.request } = same.1 ∙ (λ i. record { opener = number i; sync = o.r.sync; request = o.r.request }) in
    subst (λ (e : Envelope). Lies 1 8 e.opener) (sym envelope) o.spelled.opener

pub serve_and_reply-requires-clause-sync : goal.serve_and_reply-requires-clause-sync
serve_and_reply-requires-clause-sync g c =
    let q = c.index_mut-seat.result.now in
    let w = scene g.Q.Requester.asking c.args.self.now in
    let is = seat_is (seen g.Q.Requester.asking) c.args.self.now.seats.items c.args.at q c.requires.turn.0 c.requires.turn.1 c.index_mut-seat.ensures.value in
    let s = seen g.Q.Requester.asking q in
    let here : slice_get w.seats c.args.at ≡ Some s = c.requires.turn.1 ∙ ap Some (sym is.1) in
    let turns : turn_of s ≡ turn.ServeByHand = ap turn_of is.1 ∙ c.requires.turn.2 in
    let setting = c.requires.driving.0 in
    let tellings = c.requires.driving.1 in
    let run = c.requires.driving.2 in
    let o = opened_at setting tellings w c.args.at s run here (turn_hand s turns).0 in
    let out = c.in_ok-part.field-0 in
    let same = out_is s o.r out o.sends c.in_ok-part.ensures in
    let number = (run.seats c.args.at s here).number in
    let envelope : out.envelope ≡ record { opener = suc c.args.at; sync = o.r.sync; request = o.r.request } = same.1 ∙ (λ i. record { opener = number i; sync = o.r.sync; request = o.r.request }) in
    let first : 1 ≤ o.r.sync = o.spelled.sync.0 in
    subst (λ (e : Envelope). 0 < e.sync) (sym envelope) (omega (arith, first))

pub serve_and_reply-requires-clause-last : goal.serve_and_reply-requires-clause-last
serve_and_reply-requires-clause-last g c =
    let q = c.index_mut-seat.result.now in
    let w = scene g.Q.Requester.asking c.args.self.now in
    let is = seat_is (seen g.Q.Requester.asking) c.args.self.now.seats.items c.args.at q c.requires.turn.0 c.requires.turn.1 c.index_mut-seat.ensures.value in
    let s = seen g.Q.Requester.asking q in
    let here : slice_get w.seats c.args.at ≡ Some s = c.requires.turn.1 ∙ ap Some (sym is.1) in
    let turns : turn_of s ≡ turn.ServeByHand = ap turn_of is.1 ∙ c.requires.turn.2 in
    let setting = c.requires.driving.0 in
    let tellings = c.requires.driving.1 in
    let run = c.requires.driving.2 in
    let o = opened_at setting tellings w c.args.at s run here (turn_hand s turns).0 in
    let out = c.in_ok-part.field-0 in
    let same = out_is s o.r out o.sends c.in_ok-part.ensures in
    let number = (run.seats c.args.at s here).number in
    let envelope : out.envelope ≡ record { opener = suc c.args.at; sync = o.r.sync; request = o.r.request } = same.1 ∙ (λ i. record { opener = number i; sync = o.r.sync; request = o.r.request }) in
    let d = c.index_mut.result.now in
    let found = subst (λ p. slice_get w.processes p ≡ Some d) same.0 (process_at w.processes out.part d (subst (λ p. p < length w.processes) (sym same.0) o.part) c.index_mut.ensures.value) in
    subst (λ (e : Envelope). CanReply d.partition e.opener e.sync) (sym envelope) (can_reply setting tellings w c.args.at s o d run found turns)

pub take-requires-clause-comes : goal.take-requires-clause-comes
take-requires-clause-comes g c =
    let q = c.index_mut-seat.result.now in
    let w = scene g.Q.Requester.asking c.args.self.now in
    let is = seat_is (seen g.Q.Requester.asking) c.args.self.now.seats.items c.args.at q c.requires.turn.0 c.requires.turn.1 c.index_mut-seat.ensures.value in
    let s = seen g.Q.Requester.asking q in
    let here : slice_get w.seats c.args.at ≡ Some s = c.requires.turn.1 ∙ ap Some (sym is.1) in
    let turns : turn_of s ≡ turn.ServeByHand = ap turn_of is.1 ∙ c.requires.turn.2 in
    let setting = c.requires.driving.0 in
    let tellings = c.requires.driving.1 in
    let run = c.requires.driving.2 in
    let o = opened_at setting tellings w c.args.at s run here (turn_hand s turns).0 in
    let out = c.in_ok-part.field-0 in
    let same = out_is s o.r out o.sends c.in_ok-part.ensures in
    let number = (run.seats c.args.at s here).number in
    let envelope : out.envelope ≡ record { opener = suc c.args.at; sync = o.r.sync; request = o.r.request } = same.1 ∙ (λ i. record { opener = number i; sync = o.r.sync; request = o.r.request }) in
    let d = c.index_mut.result.now in
    let found = subst (λ p. slice_get w.processes p ≡ Some d) same.0 (process_at w.processes out.part d (subst (λ p. p < length w.processes) (sym same.0) o.part) c.index_mut.ensures.value) in
    let after = c.serve_and_reply.new.self in
    let reply = c.in_ok-reply.reply in
    let handled : Handles d.partition (suc c.args.at) o.r.sync o.r.request after.partition = subst (λ (e : Envelope). Handles d.partition e.opener e.sync e.request after.partition) envelope c.in_ok-reply.ensures.handled in
    let told : (opener_in after.partition (suc c.args.at)).kept ≡ Some reply = subst (λ (e : Envelope). (opener_in after.partition e.opener).kept ≡ Some reply) envelope c.in_ok-reply.ensures.reply in
    handed_comes setting tellings w c.args.at s o d run found turns reply (handed_fits setting tellings w c.args.at s o d run found turns after.partition reply handled told).0

pub take-requires-clause-spelled : goal.take-requires-clause-spelled
take-requires-clause-spelled g c =
    let q = c.index_mut-seat.result.now in
    let w = scene g.Q.Requester.asking c.args.self.now in
    let is = seat_is (seen g.Q.Requester.asking) c.args.self.now.seats.items c.args.at q c.requires.turn.0 c.requires.turn.1 c.index_mut-seat.ensures.value in
    let s = seen g.Q.Requester.asking q in
    let here : slice_get w.seats c.args.at ≡ Some s = c.requires.turn.1 ∙ ap Some (sym is.1) in
    let turns : turn_of s ≡ turn.ServeByHand = ap turn_of is.1 ∙ c.requires.turn.2 in
    let setting = c.requires.driving.0 in
    let tellings = c.requires.driving.1 in
    let run = c.requires.driving.2 in
    let o = opened_at setting tellings w c.args.at s run here (turn_hand s turns).0 in
    let out = c.in_ok-part.field-0 in
    let same = out_is s o.r out o.sends c.in_ok-part.ensures in
    let number = (run.seats c.args.at s here).number in
    let envelope : out.envelope ≡ record { opener = suc c.args.at; sync = o.r.sync; request = o.r.request } = same.1 ∙ (λ i. record { opener = number i; sync = o.r.sync; request = o.r.request }) in
    let d = c.index_mut.result.now in
    let found = subst (λ p. slice_get w.processes p ≡ Some d) same.0 (process_at w.processes out.part d (subst (λ p. p < length w.processes) (sym same.0) o.part) c.index_mut.ensures.value) in
    let after = c.serve_and_reply.new.self in
    let reply = c.in_ok-reply.reply in
    let handled : Handles d.partition (suc c.args.at) o.r.sync o.r.request after.partition = subst (λ (e : Envelope). Handles d.partition e.opener e.sync e.request after.partition) envelope c.in_ok-reply.ensures.handled in
    let told : (opener_in after.partition (suc c.args.at)).kept ≡ Some reply = subst (λ (e : Envelope). (opener_in after.partition e.opener).kept ≡ Some reply) envelope c.in_ok-reply.ensures.reply in
    (handed_fits setting tellings w c.args.at s o d run found turns after.partition reply handled told).1

pub take-requires-clause-single : goal.take-requires-clause-single
take-requires-clause-single g c =
    let q = c.index_mut-seat.result.now in
    let is = seat_is (seen g.Q.Requester.asking) c.args.self.now.seats.items c.args.at q c.requires.turn.0 c.requires.turn.1 c.index_mut-seat.ensures.value in
    all_at (λ x. g.Q.Requester.single x.requester) c.args.self.now.seats.items c.args.at q c.requires.single is.0

pub returns-clause-goes_on : goal.returns-clause-goes_on
returns-clause-goes_on g c =
    let q = c.index_mut-seat.result.now in
    let w = scene g.Q.Requester.asking c.args.self.now in
    let is = seat_is (seen g.Q.Requester.asking) c.args.self.now.seats.items c.args.at q c.requires.turn.0 c.requires.turn.1 c.index_mut-seat.ensures.value in
    let s = seen g.Q.Requester.asking q in
    let here : slice_get w.seats c.args.at ≡ Some s = c.requires.turn.1 ∙ ap Some (sym is.1) in
    let turns : turn_of s ≡ turn.ServeByHand = ap turn_of is.1 ∙ c.requires.turn.2 in
    let setting = c.requires.driving.0 in
    let tellings = c.requires.driving.1 in
    let run = c.requires.driving.2 in
    let o = opened_at setting tellings w c.args.at s run here (turn_hand s turns).0 in
    let out = c.in_ok-part.field-0 in
    let same = out_is s o.r out o.sends c.in_ok-part.ensures in
    let number = (run.seats c.args.at s here).number in
    let envelope : out.envelope ≡ record { opener = suc c.args.at; sync = o.r.sync; request = o.r.request } = same.1 ∙ (λ i. record { opener = number i; sync = o.r.sync; request = o.r.request }) in
    let d = c.index_mut.result.now in
    let found = subst (λ p. slice_get w.processes p ≡ Some d) same.0 (process_at w.processes out.part d (subst (λ p. p < length w.processes) (sym same.0) o.part) c.index_mut.ensures.value) in
    let after = c.serve_and_reply.new.self in
    let reply = c.in_ok-reply.reply in
    let handled : Handles d.partition (suc c.args.at) o.r.sync o.r.request after.partition = subst (λ (e : Envelope). Handles d.partition e.opener e.sync e.request after.partition) envelope c.in_ok-reply.ensures.handled in
    let told : (opener_in after.partition (suc c.args.at)).kept ≡ Some reply = subst (λ (e : Envelope). (opener_in after.partition e.opener).kept ≡ Some reply) envelope c.in_ok-reply.ensures.reply in
    let new = seen g.Q.Requester.asking c.take.new.self in
    let seats = map_set (seen g.Q.Requester.asking) c.args.self.now.seats.items c.args.at c.take.new.self in
    subst (λ (xs : List (Seat Asking)). OnOk c.take.result (GoesOn (OfSession (suc c.args.at)) w (record { seats = xs; processes = slice_set w.processes out.part after; journal = w.journal; acts = c.push.new.self }))) (sym seats)
    (goes_by_hand c.take.result w c.args.at s new out d after reply c.push.new.self o turns c.in_ok-part.ensures number found handled told c.in_ok-reply.ensures.mail c.in_ok-push.ensures.ok c.take.ensures.answered)

pub returns-clause-later : goal.returns-clause-later
returns-clause-later g c =
    let q = c.index_mut-seat.result.now in
    let is = seat_is (seen g.Q.Requester.asking) c.args.self.now.seats.items c.args.at q c.requires.turn.0 c.requires.turn.1 c.index_mut-seat.ensures.value in
    later_one g.Q.Requester.single g.Q.Requester.allows c.take.result c.args.self.now.seats.items c.args.at q c.take.new.self is.0 c.take.ensures.single c.take.ensures.allows

pub returns-clause-less : goal.returns-clause-less
returns-clause-less g c =
    let q = c.index_mut-seat.result.now in
    let w = scene g.Q.Requester.asking c.args.self.now in
    let is = seat_is (seen g.Q.Requester.asking) c.args.self.now.seats.items c.args.at q c.requires.turn.0 c.requires.turn.1 c.index_mut-seat.ensures.value in
    let s = seen g.Q.Requester.asking q in
    let here : slice_get w.seats c.args.at ≡ Some s = c.requires.turn.1 ∙ ap Some (sym is.1) in
    let turns : turn_of s ≡ turn.ServeByHand = ap turn_of is.1 ∙ c.requires.turn.2 in
    let setting = c.requires.driving.0 in
    let tellings = c.requires.driving.1 in
    let run = c.requires.driving.2 in
    let o = opened_at setting tellings w c.args.at s run here (turn_hand s turns).0 in
    let out = c.in_ok-part.field-0 in
    let same = out_is s o.r out o.sends c.in_ok-part.ensures in
    let number = (run.seats c.args.at s here).number in
    let envelope : out.envelope ≡ record { opener = suc c.args.at; sync = o.r.sync; request = o.r.request } = same.1 ∙ (λ i. record { opener = number i; sync = o.r.sync; request = o.r.request }) in
    let d = c.index_mut.result.now in
    let found = subst (λ p. slice_get w.processes p ≡ Some d) same.0 (process_at w.processes out.part d (subst (λ p. p < length w.processes) (sym same.0) o.part) c.index_mut.ensures.value) in
    let after = c.serve_and_reply.new.self in
    let reply = c.in_ok-reply.reply in
    let handled : Handles d.partition (suc c.args.at) o.r.sync o.r.request after.partition = subst (λ (e : Envelope). Handles d.partition e.opener e.sync e.request after.partition) envelope c.in_ok-reply.ensures.handled in
    let told : (opener_in after.partition (suc c.args.at)).kept ≡ Some reply = subst (λ (e : Envelope). (opener_in after.partition e.opener).kept ≡ Some reply) envelope c.in_ok-reply.ensures.reply in
    let there = process_at w.processes out.part d (subst (λ p. p < length w.processes) (sym same.0) o.part) c.index_mut.ensures.value in
    let fit = (handed_fits setting tellings w c.args.at s o d run found turns after.partition reply handled told).0 in
    handed-less g.Q.Requester.asking g.Q.Requester.left w c.args.self.now.seats.items c.args.self.now.processes.items c.take.result c.args.at q c.take.new.self is.0 out.part d after there (Reply reply) c.in_ok-reply.ensures.mail
    c.take.ensures.answered c.take.ensures.fewer (hand-advances w c.args.at s o reply (turn_hand s turns).2 fit)
