use Rattle.std.proofs.Common.{rules, ◌≡◌, None, sym, ◌∙◌}
use Rattle.executor_pool.specs.Sessions.{seen}
use Rattle.executor_pool.proofs.Working.{ended_resting, quiet_tells, sent_tells, worked_on, worked_still}
use Rattle.executor_pool.proofs.sessions.SessionJob.work.Goals as goal

pub loop-init : goal.loop-init
loop-init g c = (tt, tt, worked_still g.Q.Requester.asking g.Q.Requester.single g.Q.Requester.allows c.args.shared.now.processes.now.items c.args.shared.now.journal.now c.args.self.now _)

pub loop-preserved-in-Continue-1 : goal.loop-preserved-in-Continue-1
loop-preserved-in-Continue-1 g c =
    let going : c.loop.self.stop ≡ None = search rules in
    let sent = c.in_ok-send-in-Send.ensures in
    let tells = sent_tells (seen g.Q.Requester.asking c.loop.self) (seen g.Q.Requester.asking c.send.new.self) _ _ c.pass.result c.pass.ensures.answer c.pass.ensures.same_round sent.told in
    (tt, tt, worked_on g.Q.Requester.asking g.Q.Requester.single g.Q.Requester.allows c.args.shared.now.processes.now.items c.args.shared.now.journal.now c.args.self.now _ c.loop.self c.send.new.self _ _ c.loop.invariant.2 going sent.goes sent.later tells)

pub loop-preserved-in-Continue-branch-2 : goal.loop-preserved-in-Continue-branch-2
loop-preserved-in-Continue-branch-2 g c =
    let going : c.loop.self.stop ≡ None = search rules in
    let served = c.in_ok-serve_by_hand-in-ServeByHand.ensures in
    let tells = quiet_tells (seen g.Q.Requester.asking c.loop.self) (seen g.Q.Requester.asking c.serve_by_hand.new.self) _ served.told in
    (tt, tt, worked_on g.Q.Requester.asking g.Q.Requester.single g.Q.Requester.allows c.args.shared.now.processes.now.items c.args.shared.now.journal.now c.args.self.now _ c.loop.self c.serve_by_hand.new.self _ _ c.loop.invariant.2 going served.goes served.later tells)

pub loop-preserved : goal.loop-preserved
loop-preserved g c =
    let going : c.loop.self.stop ≡ None = search rules in
    let drawn = c.in_ok-draw-in-Draw.ensures in
    let tells = quiet_tells (seen g.Q.Requester.asking c.loop.self) (seen g.Q.Requester.asking c.draw.new.self) _ drawn.told in
    (tt, tt, worked_on g.Q.Requester.asking g.Q.Requester.single g.Q.Requester.allows c.args.shared.now.processes.now.items c.args.shared.now.journal.now c.args.self.now _ c.loop.self c.draw.new.self _ _ c.loop.invariant.2 going (drawn.goes c.args.shared.now.processes.now.items) drawn.later tells)

pub returns-in-Rest-clause-ended : goal.returns-in-Rest-clause-ended
returns-in-Rest-clause-ended g c =
    let going : c.loop.self.stop ≡ None = search rules in
    ended_resting c.args.shared.now.processes.now.items c.args.shared.now.journal.now (seen g.Q.Requester.asking c.args.self.now) (seen g.Q.Requester.asking c.loop.self) c.loop.invariant.2.goes c.requires.session going (sym c.turn.ensures ∙ c.in-Rest.is)

pub returns-in-Rest-clause-told : goal.returns-in-Rest-clause-told
returns-in-Rest-clause-told g c = c.loop.invariant.2.told
