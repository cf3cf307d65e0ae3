-- The run begins, goes on with each turn, and is over where nobody is enabled.
use Rattle.std.proofs.Common.{◌≤◌, length, sym, subst, arith, rules}
use Rattle.run_record.specs.Legal.{Legal}
use Rattle.driver_laws.specs.Scheduling.{Scheduled}
use Rattle.step_world.specs.Runs.{with_rows}
use Rattle.step_world.specs.Scaffold.Worlds.{scene}
use Rattle.step_world.proofs.Beginning.{all_opened}
use Rattle.step_world.proofs.Over.{all_carried, all_seats, is_legal, is_scheduled}
use Rattle.step_world.proofs.Running.{all_ended, allowed_first, as_many_told, enough_told, if_ok, many_seats, may_act, nobody_may, of_kept, run_begins, run_goes_on}
use Rattle.step_world.proofs.driver.drive_with.Goals as goal

pub take_seats-requires : goal.take_seats-requires
take_seats-requires g c = let many = c.requires.requesters.many in let most = c.requires.script.some_sessions.1 in omega (arith, many, most)

pub start_from-requires : goal.start_from-requires
start_from-requires g c =
    let many = many_seats c.args.requesters.items c.in_ok-take_seats.field-0.items c.in_ok-take_seats.ensures in
    let enough = c.requires.wires in
    let less : length c.in_ok-take_seats.field-0.items ≤ length c.args.wires.items = omega (arith, many, enough) in
    search (rules, less)

pub loop-world-init : goal.loop-world-init
loop-world-init g c =
    run_begins g.Q.Requester.asking g.Q.Requester.single g.Q.Requester.allows _ c.args.requesters.items _ _ _ c.requires.script c.requires.requesters c.requires.single
    (subst (λ n. length c.args.requesters.items ≤ n) (sym (as_many_told _ c.args.wires.items c.start_from.new.wires.items c.start_from.ensures.told)) c.requires.wires) c.in_ok-take_seats.ensures (all_opened _ _ _ c.in_ok-open.ensures c.in_ok-processes_of.ensures) c.new.ensures c.new-2.ensures c.start_from.ensures.told

pub act-requires-clause-driving : goal.act-requires-clause-driving
act-requires-clause-driving g c = (_, c.loop-world.invariant.driving)

pub act-requires-clause-wires : goal.act-requires-clause-wires
act-requires-clause-wires g c = c.loop-world.invariant.enough

pub act-requires-clause-enabled : goal.act-requires-clause-enabled
act-requires-clause-enabled g c =
    may_act g.Q.Requester.asking g.Q.Requester.single g.Q.Requester.allows _ _ _ _ c.loop-world.world c.loop-world.invariant c.in_ok-agent.field-0 c.in_ok-agent.ensures c.in-Some.agent c.in-Some.is

pub act-requires-clause-single : goal.act-requires-clause-single
act-requires-clause-single g c = c.loop-world.invariant.singles

pub loop-world-preserved : goal.loop-world-preserved
loop-world-preserved g c =
    run_goes_on g.Q.Requester.asking g.Q.Requester.single g.Q.Requester.allows _ _ _ _ c.loop-world.world c.loop-world.invariant c.in_ok-agent.field-0 c.in_ok-agent.ensures c.in-Some.agent c.in-Some.is _ _ c.act.new.world c.in_ok-act.ensures.goes_on
    c.in_ok-act.ensures.later c.act.ensures.wires

-- the action leaves less of the run
pub loop-world-smaller : goal.loop-world-smaller
loop-world-smaller g c = c.in_ok-act.ensures.less _ _ c.loop-world.invariant.driving

pub record-requires : goal.record-requires
record-requires g c =
    let nobody = nobody_may g.Q.Requester.asking g.Q.Requester.single g.Q.Requester.allows _ _ _ _ c.loop-world.world c.loop-world.invariant c.in_ok-agent.field-0 c.in_ok-agent.ensures c.in_default.is in
    all_ended g.Q.Requester.asking g.Q.Requester.single g.Q.Requester.allows c.loop-world.world.seats.items (all_seats _ _ _ c.loop-world.invariant.driving nobody)

pub returns-clause-legal : goal.returns-clause-legal
returns-clause-legal g c =
    let nobody = nobody_may g.Q.Requester.asking g.Q.Requester.single g.Q.Requester.allows _ _ _ _ c.loop-world.world c.loop-world.invariant c.in_ok-agent.field-0 c.in_ok-agent.ensures c.in_default.is in
    of_kept (Legal c.args.script.now) c.record.result (with_rows (scene g.Q.Requester.asking c.loop-world.world)) (is_legal _ _ _ c.loop-world.invariant.driving nobody) c.record.ensures.kept

pub returns-clause-scheduled : goal.returns-clause-scheduled
returns-clause-scheduled g c =
    let nobody = nobody_may g.Q.Requester.asking g.Q.Requester.single g.Q.Requester.allows _ _ _ _ c.loop-world.world c.loop-world.invariant c.in_ok-agent.field-0 c.in_ok-agent.ensures c.in_default.is in
    of_kept (Scheduled c.args.schedule.now) c.record.result (with_rows (scene g.Q.Requester.asking c.loop-world.world)) (is_scheduled _ _ _ c.loop-world.invariant.driving nobody) c.record.ensures.kept

pub returns-clause-carried : goal.returns-clause-carried
returns-clause-carried g c =
    let nobody = nobody_may g.Q.Requester.asking g.Q.Requester.single g.Q.Requester.allows _ _ _ _ c.loop-world.world c.loop-world.invariant c.in_ok-agent.field-0 c.in_ok-agent.ensures c.in_default.is in
    of_kept _ c.record.result (with_rows (scene g.Q.Requester.asking c.loop-world.world)) (all_carried _ _ _ c.loop-world.invariant.driving nobody (enough_told g.Q.Requester.asking _ c.loop-world.wires.items c.loop-world.world.seats.items c.loop-world.invariant.enough)) c.record.ensures.kept

pub returns-clause-allowed : goal.returns-clause-allowed
returns-clause-allowed g c =
    if_ok _ _ c.record.result (λ kept all. allowed_first g.Q.Requester.asking g.Q.Requester.single g.Q.Requester.allows c.args.requesters.items c.loop-world.world.seats.items kept.logs c.loop-world.invariant.later all) c.record.ensures.allowed
