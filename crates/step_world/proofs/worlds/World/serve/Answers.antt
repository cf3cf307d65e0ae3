-- The message that a partition serves is of a session that there is, and the run goes on with it.
use Rattle.std.proofs.Common.{◌≡◌, ◌<◌, ◌-◌, ◌++◌, ◌∷◌, [], ℕ, suc, List, length, map, refl, sym, ap, subst, ◌∙◌, arith, rules, Some}
use Rattle.std.specs.Prelude.{slice_set}
use Rattle.std.proofs.lemmas.List.{length-map}
use Rattle.std.proofs.lemmas.Option.{slice_get_within}
use Rattle.sql_base.specs.Scripts.{Lies}
use Rattle.requester_fs.specs.Asking.{Asking}
use Rattle.run_record.specs.declared.records.Act.TheVariants.{Serve}
use Rattle.driver_laws.specs.Carrying.{Telling}
use Rattle.step_world.specs.Scaffold.Seats.{seen, served_at}
use Rattle.step_world.specs.Scaffold.Worlds.{Driving, Scene, Setting, scene}
use Rattle.step_world.specs.declared.processes.DiskProcess.{DiskProcess}
use Rattle.step_world.specs.declared.seats.Seat.{Seat}
use Rattle.step_world.proofs.Measured.{served-less}
use Rattle.step_world.proofs.Handed.{later_same, process_at, same_scene}
use Rattle.step_world.proofs.Places.{get_map}
use Rattle.step_world.proofs.Serving.{sender_lies, served_on}
use Rattle.step_world.proofs.worlds.World.serve.Goals as goal
use Rattle.sql_base.proofs.ListFacts.{map_set}

-- the place of the sender is one of the seats
sender_seat : (setting : Setting) (tellings : List Telling) (w : Scene) (opener : ℕ) → Driving setting tellings w → Lies 1 (length setting.script.sessions) opener → opener - 1 < length w.seats
sender_seat setting tellings w opener run lies =
    let logs = length-map w.seats (λ (x : Seat Asking). x.requester.log) in
    let sessions = run.so_far.logs_begin.logs in
    omega (arith, lies.0, lies.1, logs, sessions)

pub index_mut-requires : goal.index_mut-requires
index_mut-requires g c =
    let less : c.args.part < length c.args.self.now.processes.items = slice_get_within c.args.self.now.processes.items c.args.part c.requires.mail.0 c.requires.mail.1 in
    search rules

pub serve_oldest-requires : goal.serve_oldest-requires
serve_oldest-requires g c =
    let less = slice_get_within c.args.self.now.processes.items c.args.part c.requires.mail.0 c.requires.mail.1 in
    let found = process_at c.args.self.now.processes.items c.args.part c.index_mut.result.now less c.index_mut.ensures.value in
    let same : Some c.requires.mail.0 ≡ Some c.index_mut.result.now = sym c.requires.mail.1 ∙ found in
    let it : c.requires.mail.0 ≡ c.index_mut.result.now = cc in
    λ none. c.requires.mail.2 (ap (λ (d : DiskProcess). d.mail) it ∙ none)

pub overflow_sub-sender : goal.overflow_sub-sender
overflow_sub-sender g c =
    let w = scene g.Q.Requester.asking c.args.self.now in
    let less = slice_get_within c.args.self.now.processes.items c.args.part c.requires.mail.0 c.requires.mail.1 in
    let found = process_at c.args.self.now.processes.items c.args.part c.index_mut.result.now less c.index_mut.ensures.value in
    (sender_lies c.requires.driving.0 c.requires.driving.1 w c.args.part c.index_mut.result.now c.serve_oldest.new.self c.in_ok-sender.sender c.requires.driving.2 found c.in_ok-sender.ensures).0

pub index_mut-requires-2 : goal.index_mut-requires-2
index_mut-requires-2 g c =
    let w = scene g.Q.Requester.asking c.args.self.now in
    let less = slice_get_within c.args.self.now.processes.items c.args.part c.requires.mail.0 c.requires.mail.1 in
    let found = process_at c.args.self.now.processes.items c.args.part c.index_mut.result.now less c.index_mut.ensures.value in
    let lies = sender_lies c.requires.driving.0 c.requires.driving.1 w c.args.part c.index_mut.result.now c.serve_oldest.new.self c.in_ok-sender.sender c.requires.driving.2 found c.in_ok-sender.ensures in
    let seats = length-map c.args.self.now.seats.items (seen g.Q.Requester.asking) in
    let within = sender_seat c.requires.driving.0 c.requires.driving.1 w c.in_ok-sender.sender.opener c.requires.driving.2 lies in
    let it : c.in_ok-sender.sender.opener - 1 < length c.args.self.now.seats.items = omega (arith, seats, within) in
    search rules

pub returns-clause-goes_on : goal.returns-clause-goes_on
returns-clause-goes_on g c = λ setting tellings run chosen.
    let w = scene g.Q.Requester.asking c.args.self.now in
    let sender = c.in_ok-sender.sender in
    let less = slice_get_within c.args.self.now.processes.items c.args.part c.requires.mail.0 c.requires.mail.1 in
    let found = process_at c.args.self.now.processes.items c.args.part c.index_mut.result.now less c.index_mut.ensures.value in
    let lies = sender_lies setting tellings w c.args.part c.index_mut.result.now c.serve_oldest.new.self sender run found c.in_ok-sender.ensures in
    let long = length-map c.args.self.now.seats.items (seen g.Q.Requester.asking) in
    let within = sender_seat setting tellings w sender.opener run lies in
    let it : sender.opener - 1 < length c.args.self.now.seats.items = omega (arith, long, within) in
    let q = c.index_mut-2.result.now in
    let here_q = process_at c.args.self.now.seats.items (sender.opener - 1) q it c.index_mut-2.ensures.value in
    let s = seen g.Q.Requester.asking q in
    let here = get_map (seen g.Q.Requester.asking) c.args.self.now.seats.items (sender.opener - 1) q here_q in
    let opener : sender.opener ≡ suc (sender.opener - 1) = omega (arith, lies.0) in
    let seats = map_set (seen g.Q.Requester.asking) c.args.self.now.seats.items (sender.opener - 1) c.note_served.new.self
    ∙ ap (λ (x : Seat Asking). slice_set w.seats (sender.opener - 1) x) c.note_served.ensures.seen in
    subst (λ (b : Scene). Driving setting tellings b)
    (sym (same_scene (record { seats = map (seen g.Q.Requester.asking) (slice_set c.args.self.now.seats.items (sender.opener - 1) c.note_served.new.self); processes = slice_set w.processes c.args.part c.serve_oldest.new.self; journal = w.journal; acts = c.push.new.self })
    (record { seats = slice_set w.seats (sender.opener - 1) (served_at s c.args.part sender.sync); processes = slice_set w.processes c.args.part c.serve_oldest.new.self; journal = w.journal; acts = w.acts ++ Serve c.args.part sender.opener sender.sync ∷ [] })
    seats refl refl c.in_ok-push.ensures.ok))
    (served_on setting tellings w c.args.part (sender.opener - 1) s c.index_mut.result.now c.serve_oldest.new.self sender run found here opener c.in_ok-sender.ensures chosen)

pub returns-clause-later : goal.returns-clause-later
returns-clause-later g c =
    let w = scene g.Q.Requester.asking c.args.self.now in
    let sender = c.in_ok-sender.sender in
    let less = slice_get_within c.args.self.now.processes.items c.args.part c.requires.mail.0 c.requires.mail.1 in
    let found = process_at c.args.self.now.processes.items c.args.part c.index_mut.result.now less c.index_mut.ensures.value in
    let lies = sender_lies c.requires.driving.0 c.requires.driving.1 w c.args.part c.index_mut.result.now c.serve_oldest.new.self sender c.requires.driving.2 found c.in_ok-sender.ensures in
    let long = length-map c.args.self.now.seats.items (seen g.Q.Requester.asking) in
    let within = sender_seat c.requires.driving.0 c.requires.driving.1 w sender.opener c.requires.driving.2 lies in
    let it : sender.opener - 1 < length c.args.self.now.seats.items = omega (arith, long, within) in
    let q = c.index_mut-2.result.now in
    later_same g.Q.Requester.single g.Q.Requester.allows c.args.self.now.seats.items (sender.opener - 1) q c.note_served.new.self (process_at c.args.self.now.seats.items (sender.opener - 1) q it c.index_mut-2.ensures.value) c.note_served.ensures.same

pub returns-clause-less : goal.returns-clause-less
returns-clause-less g c = λ setting tellings run.
    let w = scene g.Q.Requester.asking c.args.self.now in
    let sender = c.in_ok-sender.sender in
    let less = slice_get_within c.args.self.now.processes.items c.args.part c.requires.mail.0 c.requires.mail.1 in
    let found = process_at c.args.self.now.processes.items c.args.part c.index_mut.result.now less c.index_mut.ensures.value in
    let lies = sender_lies setting tellings w c.args.part c.index_mut.result.now c.serve_oldest.new.self sender run found c.in_ok-sender.ensures in
    let long = length-map c.args.self.now.seats.items (seen g.Q.Requester.asking) in
    let within = sender_seat setting tellings w sender.opener run lies in
    let it : sender.opener - 1 < length c.args.self.now.seats.items = omega (arith, long, within) in
    let q = c.index_mut-2.result.now in
    let here_q = process_at c.args.self.now.seats.items (sender.opener - 1) q it c.index_mut-2.ensures.value in
    served-less g.Q.Requester.asking g.Q.Requester.left w c.args.self.now.seats.items c.args.self.now.processes.items (sender.opener - 1) q c.note_served.new.self here_q c.args.part c.index_mut.result.now c.serve_oldest.new.self found sender
    c.in_ok-sender.ensures c.note_served.ensures.same (ap (λ (x : Seat Asking). x.losses) c.note_served.ensures.seen) (ap (λ (x : Seat Asking). x.waits) c.note_served.ensures.seen) setting tellings run
