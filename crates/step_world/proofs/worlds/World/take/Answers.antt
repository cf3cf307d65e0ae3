-- The reply that a session waits for is kept, and the run goes on with it.
use Rattle.std.proofs.Common.{◌≡◌, ◌<◌, ◌≤◌, ◌++◌, ◌∷◌, [], ℕ, suc, List, length, refl, sym, ap, subst, ◌∙◌, arith, rules, Ok, Err, Some}
use Rattle.std.specs.Prelude.{Result, OnOk, slice_get, slice_set}
use Rattle.sql_base.specs.Scripts.{Lies}
use Rattle.dp_messages.specs.declared.replies.Reply.{Reply as PartitionReply}
use Rattle.partition_core.specs.Kept.{opener_in}
use Rattle.requester_fs.specs.Asking.{Asking, next_at}
use Rattle.session_grammar.specs.Sessions.{Sends}
use Rattle.session_grammar.specs.UnderWay.{Sending}
use Rattle.session_grammar.specs.declared.logs.Answer.TheVariants.{Reply}
use Rattle.run_record.specs.declared.records.Act.{Act}
use Rattle.run_record.specs.declared.records.Act.TheVariants.{Take}
use Rattle.driver_laws.specs.Scheduling.{OfSession}
use Rattle.step_world.specs.Scaffold.Seats.{IsAnswered, IsAwaited, seen, turn_of}
use Rattle.step_world.specs.Scaffold.Worlds.{Driving, GoesOn, Scene, scene}
use Rattle.step_world.specs.declared.processes.DiskProcess.{DiskProcess}
use Rattle.step_world.specs.declared.seats.Seat.{Seat}
use Rattle.step_world.specs.declared.seats.Turn.TheVariants as turn
use Rattle.step_world.proofs.Acting.{next_scene}
use Rattle.step_world.proofs.Measured.{reply-advances, taken-less}
use Rattle.step_world.proofs.Handed.{later_one, process_at, same_scene, within_map}
use Rattle.step_world.proofs.Opened.{OpenSeat, opened_at, seat_is, turn_take}
use Rattle.step_world.proofs.Replies.{comes_it, last_is, may_answer, spelled_it}
use Rattle.step_world.proofs.Taking.{took_on}
use Rattle.step_world.proofs.worlds.World.take.Goals as goal
use Rattle.sql_base.proofs.ListFacts.{all_at, map_set}

goes_taken : {T E : Type 0} (result : Result T E) (w : Scene) (at : ℕ) (s new : Seat Asking) (d : DiskProcess) (reply : PartitionReply) (acts : List Act) (o : OpenSeat w at s) → turn_of s ≡ turn.Take → s.number ≡ suc at
    → slice_get w.processes o.r.part ≡ Some d → (opener_in d.partition (suc at)).kept ≡ Some reply → acts ≡ w.acts ++ Take s.number ∷ [] → OnOk result (IsAnswered (Reply reply) s new)
    → OnOk result (GoesOn (OfSession (suc at)) w (record { seats = slice_set w.seats at new; processes = w.processes; journal = w.journal; acts = acts }))
goes_taken (Err e) w at s new d reply acts o turns number found told done answered = tt
goes_taken (Ok u) w at s new d reply acts o turns number found told done answered = λ setting tellings run chosen.
    let act : acts ≡ w.acts ++ Take (suc at) ∷ [] = done ∙ ap (λ m. w.acts ++ Take m ∷ []) number in
    subst (λ b. Driving setting tellings b)
    (sym (same_scene (record { seats = slice_set w.seats at new; processes = w.processes; journal = w.journal; acts = acts }) (next_scene w at new w.processes w.journal (Take (suc at))) refl refl refl act))
    (took_on setting tellings w at s new o d reply run chosen turns found told answered)

-- the request that was asked for is the one under way
awaited_is : (s : Seat Asking) (r : Sending) (part sync : ℕ) → next_at s.requester.way 0 ≡ Sends r.part r.sync r.request → IsAwaited s part sync → (part ≡ r.part) × (sync ≡ r.sync)
awaited_is s r part sync sends is = let same : Sends part sync is.0 ≡ Sends r.part r.sync r.request = sym is.1 ∙ sends in (cc, cc)

pub index_mut-seat-requires : goal.index_mut-seat-requires
index_mut-seat-requires g c =
    let less : c.args.at < length c.args.self.now.seats.items = within_map (seen g.Q.Requester.asking) c.args.self.now.seats.items c.args.at c.requires.turn.0 c.requires.turn.1 in
    search rules

pub awaited-part-requires : goal.awaited-part-requires
awaited-part-requires g c =
    let q = c.index_mut-seat.result.now in
    let is = seat_is (seen g.Q.Requester.asking) c.args.self.now.seats.items c.args.at q c.requires.turn.0 c.requires.turn.1 c.index_mut-seat.ensures.value in
    (turn_take (seen g.Q.Requester.asking q) (ap turn_of is.1 ∙ c.requires.turn.2)).0

pub index-requires : goal.index-requires
index-requires g c =
    let q = c.index_mut-seat.result.now in
    let w = scene g.Q.Requester.asking c.args.self.now in
    let is = seat_is (seen g.Q.Requester.asking) c.args.self.now.seats.items c.args.at q c.requires.turn.0 c.requires.turn.1 c.index_mut-seat.ensures.value in
    let s = seen g.Q.Requester.asking q in
    let here : slice_get w.seats c.args.at ≡ Some s = c.requires.turn.1 ∙ ap Some (sym is.1) in
    let turns : turn_of s ≡ turn.Take = ap turn_of is.1 ∙ c.requires.turn.2 in
    let run = c.requires.driving.2 in
    let o = opened_at c.requires.driving.0 c.requires.driving.1 w c.args.at s run here (turn_take s turns).0 in
    let same = awaited_is s o.r c.awaited-part.result.0 c.awaited-part.result.1 o.sends c.awaited-part.ensures in
    let number = (run.seats c.args.at s here).number in
    let less : c.awaited-part.result.0 < length c.args.self.now.processes.items = subst (λ p. p < length w.processes) (sym same.0) o.part in
    search rules

pub reply-requires-clause-opener : goal.reply-requires-clause-opener
reply-requires-clause-opener g c =
    let q = c.index_mut-seat.result.now in
    let w = scene g.Q.Requester.asking c.args.self.now in
    let is = seat_is (seen g.Q.Requester.asking) c.args.self.now.seats.items c.args.at q c.requires.turn.0 c.requires.turn.1 c.index_mut-seat.ensures.value in
    let s = seen g.Q.Requester.asking q in
    let here : slice_get w.seats c.args.at ≡ Some s = c.requires.turn.1 ∙ ap Some (sym is.1) in
    let turns : turn_of s ≡ turn.Take = ap turn_of is.1 ∙ c.requires.turn.2 in
    let run = c.requires.driving.2 in
    let o = opened_at c.requires.driving.0 c.requires.driving.1 w c.args.at s run here (turn_take s turns).0 in
    let same = awaited_is s o.r c.awaited-part.result.0 c.awaited-part.result.1 o.sends c.awaited-part.ensures in
    let number = (run.seats c.args.at s here).number in
    subst (λ m. Lies 1 8 m) (sym number) o.spelled.opener

pub reply-requires-clause-sync : goal.reply-requires-clause-sync
reply-requires-clause-sync g c =
    let q = c.index_mut-seat.result.now in
    let w = scene g.Q.Requester.asking c.args.self.now in
    let is = seat_is (seen g.Q.Requester.asking) c.args.self.now.seats.items c.args.at q c.requires.turn.0 c.requires.turn.1 c.index_mut-seat.ensures.value in
    let s = seen g.Q.Requester.asking q in
    let here : slice_get w.seats c.args.at ≡ Some s = c.requires.turn.1 ∙ ap Some (sym is.1) in
    let turns : turn_of s ≡ turn.Take = ap turn_of is.1 ∙ c.requires.turn.2 in
    let run = c.requires.driving.2 in
    let o = opened_at c.requires.driving.0 c.requires.driving.1 w c.args.at s run here (turn_take s turns).0 in
    let same = awaited_is s o.r c.awaited-part.result.0 c.awaited-part.result.1 o.sends c.awaited-part.ensures in
    let number = (run.seats c.args.at s here).number in
    let first : 1 ≤ o.r.sync = o.spelled.sync.0 in
    subst (λ m. 0 < m) (sym same.1) (omega (arith, first))

pub reply-requires-clause-last : goal.reply-requires-clause-last
reply-requires-clause-last g c =
    let q = c.index_mut-seat.result.now in
    let w = scene g.Q.Requester.asking c.args.self.now in
    let is = seat_is (seen g.Q.Requester.asking) c.args.self.now.seats.items c.args.at q c.requires.turn.0 c.requires.turn.1 c.index_mut-seat.ensures.value in
    let s = seen g.Q.Requester.asking q in
    let here : slice_get w.seats c.args.at ≡ Some s = c.requires.turn.1 ∙ ap Some (sym is.1) in
    let turns : turn_of s ≡ turn.Take = ap turn_of is.1 ∙ c.requires.turn.2 in
    let run = c.requires.driving.2 in
    let o = opened_at c.requires.driving.0 c.requires.driving.1 w c.args.at s run here (turn_take s turns).0 in
    let same = awaited_is s o.r c.awaited-part.result.0 c.awaited-part.result.1 o.sends c.awaited-part.ensures in
    let number = (run.seats c.args.at s here).number in
    let found = subst (λ p. slice_get w.processes p ≡ Some c.index.result.now) same.0
    (process_at w.processes c.awaited-part.result.0 c.index.result.now (subst (λ p. p < length w.processes) (sym same.0) o.part) c.index.ensures) in
    subst (λ m. (opener_in c.index.result.now.partition m).last ≡ c.awaited-part.result.1) (sym number)
    (last_is c.requires.driving.0 c.requires.driving.1 w c.args.at s o c.index.result.now run found (turn_take s turns).2 ∙ sym same.1)

pub take-requires-clause-comes : goal.take-requires-clause-comes
take-requires-clause-comes g c =
    let q = c.index_mut-seat.result.now in
    let w = scene g.Q.Requester.asking c.args.self.now in
    let is = seat_is (seen g.Q.Requester.asking) c.args.self.now.seats.items c.args.at q c.requires.turn.0 c.requires.turn.1 c.index_mut-seat.ensures.value in
    let s = seen g.Q.Requester.asking q in
    let here : slice_get w.seats c.args.at ≡ Some s = c.requires.turn.1 ∙ ap Some (sym is.1) in
    let turns : turn_of s ≡ turn.Take = ap turn_of is.1 ∙ c.requires.turn.2 in
    let run = c.requires.driving.2 in
    let o = opened_at c.requires.driving.0 c.requires.driving.1 w c.args.at s run here (turn_take s turns).0 in
    let same = awaited_is s o.r c.awaited-part.result.0 c.awaited-part.result.1 o.sends c.awaited-part.ensures in
    let number = (run.seats c.args.at s here).number in
    let found = subst (λ p. slice_get w.processes p ≡ Some c.index.result.now) same.0
    (process_at w.processes c.awaited-part.result.0 c.index.result.now (subst (λ p. p < length w.processes) (sym same.0) o.part) c.index.ensures) in
    let told = subst (λ m. (opener_in c.index.result.now.partition m).kept ≡ Some c.in_ok-reply.reply) number c.in_ok-reply.ensures in
    let may = may_answer c.requires.driving.0 c.requires.driving.1 w c.args.at s o c.index.result.now run found s.losses c.in_ok-reply.reply
    (last_is c.requires.driving.0 c.requires.driving.1 w c.args.at s o c.index.result.now run found (turn_take s turns).2) told in
    comes_it c.requires.driving.0 c.requires.driving.1 w c.args.at s o c.index.result.now run found s.losses c.in_ok-reply.reply (o.stands.1 (turn_take s turns).1) may

pub take-requires-clause-spelled : goal.take-requires-clause-spelled
take-requires-clause-spelled g c =
    let q = c.index_mut-seat.result.now in
    let w = scene g.Q.Requester.asking c.args.self.now in
    let is = seat_is (seen g.Q.Requester.asking) c.args.self.now.seats.items c.args.at q c.requires.turn.0 c.requires.turn.1 c.index_mut-seat.ensures.value in
    let s = seen g.Q.Requester.asking q in
    let here : slice_get w.seats c.args.at ≡ Some s = c.requires.turn.1 ∙ ap Some (sym is.1) in
    let turns : turn_of s ≡ turn.Take = ap turn_of is.1 ∙ c.requires.turn.2 in
    let run = c.requires.driving.2 in
    let o = opened_at c.requires.driving.0 c.requires.driving.1 w c.args.at s run here (turn_take s turns).0 in
    let same = awaited_is s o.r c.awaited-part.result.0 c.awaited-part.result.1 o.sends c.awaited-part.ensures in
    let number = (run.seats c.args.at s here).number in
    let found = subst (λ p. slice_get w.processes p ≡ Some c.index.result.now) same.0
    (process_at w.processes c.awaited-part.result.0 c.index.result.now (subst (λ p. p < length w.processes) (sym same.0) o.part) c.index.ensures) in
    let told = subst (λ m. (opener_in c.index.result.now.partition m).kept ≡ Some c.in_ok-reply.reply) number c.in_ok-reply.ensures in
    let may = may_answer c.requires.driving.0 c.requires.driving.1 w c.args.at s o c.index.result.now run found s.losses c.in_ok-reply.reply
    (last_is c.requires.driving.0 c.requires.driving.1 w c.args.at s o c.index.result.now run found (turn_take s turns).2) told in
    spelled_it c.requires.driving.0 c.requires.driving.1 w c.args.at s o c.index.result.now run found s.losses c.in_ok-reply.reply may

pub take-requires-clause-single : goal.take-requires-clause-single
take-requires-clause-single g c =
    let q = c.index_mut-seat.result.now in
    let is = seat_is (seen g.Q.Requester.asking) c.args.self.now.seats.items c.args.at q c.requires.turn.0 c.requires.turn.1 c.index_mut-seat.ensures.value in
    all_at (λ x. g.Q.Requester.single x.requester) c.args.self.now.seats.items c.args.at q c.requires.single is.0

pub returns-clause-goes_on : goal.returns-clause-goes_on
returns-clause-goes_on g c =
    let q = c.index_mut-seat.result.now in
    let w = scene g.Q.Requester.asking c.args.self.now in
    let is = seat_is (seen g.Q.Requester.asking) c.args.self.now.seats.items c.args.at q c.requires.turn.0 c.requires.turn.1 c.index_mut-seat.ensures.value in
    let s = seen g.Q.Requester.asking q in
    let here : slice_get w.seats c.args.at ≡ Some s = c.requires.turn.1 ∙ ap Some (sym is.1) in
    let turns : turn_of s ≡ turn.Take = ap turn_of is.1 ∙ c.requires.turn.2 in
    let run = c.requires.driving.2 in
    let o = opened_at c.requires.driving.0 c.requires.driving.1 w c.args.at s run here (turn_take s turns).0 in
    let same = awaited_is s o.r c.awaited-part.result.0 c.awaited-part.result.1 o.sends c.awaited-part.ensures in
    let number = (run.seats c.args.at s here).number in
    let found = subst (λ p. slice_get w.processes p ≡ Some c.index.result.now) same.0
    (process_at w.processes c.awaited-part.result.0 c.index.result.now (subst (λ p. p < length w.processes) (sym same.0) o.part) c.index.ensures) in
    let told = subst (λ m. (opener_in c.index.result.now.partition m).kept ≡ Some c.in_ok-reply.reply) number c.in_ok-reply.ensures in
    let new = seen g.Q.Requester.asking c.take.new.self in
    let seats = map_set (seen g.Q.Requester.asking) c.args.self.now.seats.items c.args.at c.take.new.self in
    subst (λ (xs : List (Seat Asking)). OnOk c.take.result (GoesOn (OfSession (suc c.args.at)) w (record { seats = xs; processes = w.processes; journal = w.journal; acts = c.push.new.self }))) (sym seats)
    (goes_taken c.take.result w c.args.at s new c.index.result.now c.in_ok-reply.reply c.push.new.self o turns number found told c.in_ok-push.ensures.ok c.take.ensures.answered)

pub returns-clause-later : goal.returns-clause-later
returns-clause-later g c =
    let q = c.index_mut-seat.result.now in
    let is = seat_is (seen g.Q.Requester.asking) c.args.self.now.seats.items c.args.at q c.requires.turn.0 c.requires.turn.1 c.index_mut-seat.ensures.value in
    later_one g.Q.Requester.single g.Q.Requester.allows c.take.result c.args.self.now.seats.items c.args.at q c.take.new.self is.0 c.take.ensures.single c.take.ensures.allows

pub returns-clause-less : goal.returns-clause-less
returns-clause-less g c =
    let q = c.index_mut-seat.result.now in
    let w = scene g.Q.Requester.asking c.args.self.now in
    let is = seat_is (seen g.Q.Requester.asking) c.args.self.now.seats.items c.args.at q c.requires.turn.0 c.requires.turn.1 c.index_mut-seat.ensures.value in
    let s = seen g.Q.Requester.asking q in
    let here : slice_get w.seats c.args.at ≡ Some s = c.requires.turn.1 ∙ ap Some (sym is.1) in
    let turns : turn_of s ≡ turn.Take = ap turn_of is.1 ∙ c.requires.turn.2 in
    let run = c.requires.driving.2 in
    let o = opened_at c.requires.driving.0 c.requires.driving.1 w c.args.at s run here (turn_take s turns).0 in
    let same = awaited_is s o.r c.awaited-part.result.0 c.awaited-part.result.1 o.sends c.awaited-part.ensures in
    let number = (run.seats c.args.at s here).number in
    let found = subst (λ p. slice_get w.processes p ≡ Some c.index.result.now) same.0
    (process_at w.processes c.awaited-part.result.0 c.index.result.now (subst (λ p. p < length w.processes) (sym same.0) o.part) c.index.ensures) in
    let told = subst (λ m. (opener_in c.index.result.now.partition m).kept ≡ Some c.in_ok-reply.reply) number c.in_ok-reply.ensures in
    taken-less g.Q.Requester.asking g.Q.Requester.left w c.args.self.now.seats.items c.args.self.now.processes.items c.take.result c.args.at q c.take.new.self is.0 (Reply c.in_ok-reply.reply) c.take.ensures.answered c.take.ensures.fewer
    (reply-advances w c.args.at s o c.index.result.now c.in_ok-reply.reply found (last_is c.requires.driving.0 c.requires.driving.1 w c.args.at s o c.index.result.now run found (turn_take s turns).2) told)
