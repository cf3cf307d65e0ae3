-- The commit that a session draws is the next of the journal, above a floor that is none too high, and the run goes on with it.
use Rattle.std.proofs.Common.{◌≡◌, ◌<◌, ◌++◌, ◌∷◌, [], ℕ, suc, List, length, refl, sym, ap, subst, ◌∙◌, rules, Ok, Err, Some}
use Rattle.std.specs.Prelude.{Result, OnOk, slice_get, slice_set}
use Rattle.sql_base.specs.declared.lock_names.TxnName.{TxnName}
use Rattle.commit_journal.specs.declared.Drawn.{Drawn}
use Rattle.requester_fs.specs.Asking.{Advances, Asking, next_at}
use Rattle.ending_laws.specs.Keys.{above_in, keys_count}
use Rattle.step_world.proofs.Measured.{taken-less}
use Rattle.session_grammar.specs.Sessions.{Draws, MayCome}
use Rattle.session_grammar.specs.declared.logs.Answer.TheVariants.{Stamp}
use Rattle.run_record.specs.declared.records.Act.{Act}
use Rattle.run_record.specs.declared.records.Act.TheVariants.{Draw}
use Rattle.driver_laws.specs.Moves.{next_drawn}
use Rattle.driver_laws.specs.Scheduling.{OfSession}
use Rattle.step_world.specs.Scaffold.Seats.{IsAnswered, seen, turn_of}
use Rattle.step_world.specs.Scaffold.Worlds.{Driving, GoesOn, Scene, record_of, scene}
use Rattle.step_world.specs.declared.seats.Seat.{Seat}
use Rattle.step_world.proofs.Acting.{next_scene}
use Rattle.step_world.proofs.Drawing.{counted_at, drew_on, low_floor, undrawn}
use Rattle.step_world.proofs.Handed.{later_one, same_scene, within_map}
use Rattle.step_world.proofs.Opened.{seat_is}
use Rattle.step_world.proofs.worlds.World.draw.Goals as goal
use Rattle.sql_base.proofs.ListFacts.{all_at, map_set}

goes_drawn : {T E : Type 0} (result : Result T E) (w : Scene) (at : ℕ) (s new : Seat Asking) (name : TxnName) (floor stamp : ℕ) (journal : List Drawn) (acts : List Act) → slice_get w.seats at ≡ Some s → next_at s.requester.way 0 ≡ Draws name floor
    → s.number ≡ suc at → stamp ≡ (next_drawn (record_of w) name floor).stamp → journal ≡ w.journal ++ next_drawn (record_of w) name floor ∷ [] → acts ≡ w.acts ++ Draw s.number ∷ [] → OnOk result (IsAnswered (Stamp stamp) s new)
    → OnOk result (GoesOn (OfSession (suc at)) w (record { seats = slice_set w.seats at new; processes = w.processes; journal = journal; acts = acts }))
goes_drawn (Err e) w at s new name floor stamp journal acts here draws number its drawn done answered = tt
goes_drawn (Ok u) w at s new name floor stamp journal acts here draws number its drawn done answered = λ setting tellings run chosen.
    let act : acts ≡ w.acts ++ Draw (suc at) ∷ [] = done ∙ ap (λ m. w.acts ++ Draw m ∷ []) number in
    subst (λ b. Driving setting tellings b)
    (sym (same_scene (record { seats = slice_set w.seats at new; processes = w.processes; journal = journal; acts = acts }) (next_scene w at new w.processes (w.journal ++ next_drawn (record_of w) name floor ∷ []) (Draw (suc at))) refl refl drawn act))
    (drew_on setting tellings w at s new name floor run here draws (subst (λ m. IsAnswered (Stamp m) s new) its answered) chosen)

pub index_mut-seat-requires : goal.index_mut-seat-requires
index_mut-seat-requires g c =
    let less : c.args.at < length c.args.self.now.seats.items = within_map (seen g.Q.Requester.asking) c.args.self.now.seats.items c.args.at c.requires.turn.0 c.requires.turn.1 in
    search rules

pub commit-floor-requires : goal.commit-floor-requires
commit-floor-requires g c =
    let q = c.index_mut-seat.result.now in
    let is = seat_is (seen g.Q.Requester.asking) c.args.self.now.seats.items c.args.at q c.requires.turn.0 c.requires.turn.1 c.index_mut-seat.ensures.value in
    ap turn_of is.1 ∙ c.requires.turn.2

pub draw-requires-clause-fresh : goal.draw-requires-clause-fresh
draw-requires-clause-fresh g c =
    let q = c.index_mut-seat.result.now in
    let is = seat_is (seen g.Q.Requester.asking) c.args.self.now.seats.items c.args.at q c.requires.turn.0 c.requires.turn.1 c.index_mut-seat.ensures.value in
    undrawn c.requires.driving.0 c.requires.driving.1 (scene g.Q.Requester.asking c.args.self.now) c.args.at (seen g.Q.Requester.asking q) c.commit-floor.result.0 c.commit-floor.result.1 c.requires.driving.2
    (c.requires.turn.1 ∙ ap Some (sym is.1)) (sym c.commit-floor.ensures)

pub draw-requires-clause-counted : goal.draw-requires-clause-counted
draw-requires-clause-counted g c = counted_at c.requires.driving.0 c.requires.driving.1 (scene g.Q.Requester.asking c.args.self.now) c.requires.driving.2

pub draw-requires-clause-low : goal.draw-requires-clause-low
draw-requires-clause-low g c =
    let q = c.index_mut-seat.result.now in
    let is = seat_is (seen g.Q.Requester.asking) c.args.self.now.seats.items c.args.at q c.requires.turn.0 c.requires.turn.1 c.index_mut-seat.ensures.value in
    low_floor c.requires.driving.0 c.requires.driving.1 (scene g.Q.Requester.asking c.args.self.now) c.args.at (seen g.Q.Requester.asking q) c.commit-floor.result.0 c.commit-floor.result.1 c.requires.driving.2
    (c.requires.turn.1 ∙ ap Some (sym is.1)) (sym c.commit-floor.ensures)

pub take-requires-clause-comes : goal.take-requires-clause-comes
take-requires-clause-comes g c = subst (λ next. MayCome next (Stamp c.in_ok-stamp.stamp) c.index_mut-seat.result.now.losses) c.commit-floor.ensures tt

pub take-requires-clause-single : goal.take-requires-clause-single
take-requires-clause-single g c =
    let q = c.index_mut-seat.result.now in
    let is = seat_is (seen g.Q.Requester.asking) c.args.self.now.seats.items c.args.at q c.requires.turn.0 c.requires.turn.1 c.index_mut-seat.ensures.value in
    all_at (λ x. g.Q.Requester.single x.requester) c.args.self.now.seats.items c.args.at q c.requires.single is.0

pub returns-clause-goes_on : goal.returns-clause-goes_on
returns-clause-goes_on g c =
    let q = c.index_mut-seat.result.now in
    let w = scene g.Q.Requester.asking c.args.self.now in
    let is = seat_is (seen g.Q.Requester.asking) c.args.self.now.seats.items c.args.at q c.requires.turn.0 c.requires.turn.1 c.index_mut-seat.ensures.value in
    let s = seen g.Q.Requester.asking q in
    let here : slice_get w.seats c.args.at ≡ Some s = c.requires.turn.1 ∙ ap Some (sym is.1) in
    let number = (c.requires.driving.2.seats c.args.at s here).number in
    let new = seen g.Q.Requester.asking c.take.new.self in
    let seats = map_set (seen g.Q.Requester.asking) c.args.self.now.seats.items c.args.at c.take.new.self in
    subst (λ (xs : List (Seat Asking)). OnOk c.take.result (GoesOn (OfSession (suc c.args.at)) w (record { seats = xs; processes = w.processes; journal = c.draw.new.journal; acts = c.push.new.self }))) (sym seats)
    (goes_drawn c.take.result w c.args.at s new c.commit-floor.result.0 c.commit-floor.result.1 c.in_ok-stamp.stamp c.draw.new.journal c.push.new.self here (sym c.commit-floor.ensures) number c.in_ok-stamp.ensures.stamp c.in_ok-stamp.ensures.drawn
    c.in_ok-push.ensures.ok c.take.ensures.answered)

pub returns-clause-later : goal.returns-clause-later
returns-clause-later g c =
    let q = c.index_mut-seat.result.now in
    let is = seat_is (seen g.Q.Requester.asking) c.args.self.now.seats.items c.args.at q c.requires.turn.0 c.requires.turn.1 c.index_mut-seat.ensures.value in
    later_one g.Q.Requester.single g.Q.Requester.allows c.take.result c.args.self.now.seats.items c.args.at q c.take.new.self is.0 c.take.ensures.single c.take.ensures.allows

pub returns-clause-less : goal.returns-clause-less
returns-clause-less g c =
    let q = c.index_mut-seat.result.now in
    let is = seat_is (seen g.Q.Requester.asking) c.args.self.now.seats.items c.args.at q c.requires.turn.0 c.requires.turn.1 c.index_mut-seat.ensures.value in
    taken-less g.Q.Requester.asking g.Q.Requester.left (scene g.Q.Requester.asking c.args.self.now) c.args.self.now.seats.items c.args.self.now.processes.items c.take.result c.args.at q c.take.new.self is.0 (Stamp c.in_ok-stamp.stamp)
    c.take.ensures.answered c.take.ensures.fewer (λ setting tellings run. subst (λ next. Advances (above_in setting.script) (keys_count setting.script) next (Stamp c.in_ok-stamp.stamp)) c.commit-floor.ensures tt)
