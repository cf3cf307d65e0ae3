use Rattle.std.proofs.Common.{Some, subst}
use Rattle.std.proofs.lemmas.Result.{on_ok_weaker}
use Rattle.executor_pool.specs.Sessions.{HearsAt, seen}
use Rattle.executor_pool.specs.declared.sessions.Stop.TheVariants.{Passed}
use Rattle.executor_pool.specs.declared.tokens.Heard.{Heard}
use Rattle.executor_pool.specs.declared.tokens.Heard.TheVariants as heard
use Rattle.executor_pool.proofs.AtParts.{awaited_within}
use Rattle.executor_pool.proofs.Awaiting.{awaited_still, heard_still, session_still, waits_on, waits_still}
use Rattle.executor_pool.proofs.Stepping.{goes_after}
use Rattle.executor_pool.proofs.Taking.{passed_goes}
use Rattle.executor_pool.proofs.sessions.SessionJob.await_reply.Goals as goal

pub loop-init : goal.loop-init
loop-init g c = (tt, tt, waits_still g.Q.Requester.asking c.args.shared.now.processes.now.items c.args.shared.now.journal.now c.args.self.now)

pub returns-in-Reply-clause-goes : goal.returns-in-Reply-clause-goes
returns-in-Reply-clause-goes g c =
    let waited = waits_on g.Q.Requester.asking c.args.shared.now.processes.now.items c.args.shared.now.journal.now c.args.self.now c.loop.self c.hear.new.self c.loop.invariant.2 c.hear.ensures.rest c.hear.ensures.goes in
    on_ok_weaker c.take_reply.result (λ goes. goes_after c.args.shared.now.processes.now.items c.args.shared.now.journal.now (seen g.Q.Requester.asking c.args.self.now) (seen g.Q.Requester.asking c.hear.new.self) (seen g.Q.Requester.asking c.take_reply.new.self) waited.goes (goes c.args.shared.now.processes.now.items c.args.shared.now.journal.now)) c.take_reply.ensures.goes

pub returns-in-Passed-clause-goes : goal.returns-in-Passed-clause-goes
returns-in-Passed-clause-goes g c =
    let waited = waits_on g.Q.Requester.asking c.args.shared.now.processes.now.items c.args.shared.now.journal.now c.args.self.now c.loop.self c.hear.new.self c.loop.invariant.2 c.hear.ensures.rest c.hear.ensures.goes in
    let awaits = awaited_still g.Q.Requester.asking c.args.shared.now.processes.now.items c.args.shared.now.journal.now c.args.self.now c.hear.new.self waited c.args.part c.args.sync c.requires.awaits in
    let passed = subst (λ (heard : Heard). HearsAt c.hear.new.self.tokens.items c.args.part c.loop.self.number c.args.sync heard) c.in-Passed.is c.in_ok-reply.ensures.heard in
    let heard = heard_still g.Q.Requester.asking c.loop.self c.hear.new.self c.args.part c.args.sync heard.Passed c.hear.ensures.rest passed in
    goes_after c.args.shared.now.processes.now.items c.args.shared.now.journal.now (seen g.Q.Requester.asking c.args.self.now) (seen g.Q.Requester.asking c.hear.new.self) (record (seen g.Q.Requester.asking c.hear.new.self) { stop = Some Passed }) waited.goes (λ script is. passed_goes script c.args.shared.now.processes.now.items c.args.shared.now.journal.now (seen g.Q.Requester.asking c.hear.new.self) is c.args.part c.args.sync awaits heard)

pub serve_one-requires-clause-part : goal.serve_one-requires-clause-part
serve_one-requires-clause-part g c =
    let waited = waits_on g.Q.Requester.asking c.args.shared.now.processes.now.items c.args.shared.now.journal.now c.args.self.now c.loop.self c.hear.new.self c.loop.invariant.2 c.hear.ensures.rest c.hear.ensures.goes in
    let awaits = awaited_still g.Q.Requester.asking c.args.shared.now.processes.now.items c.args.shared.now.journal.now c.args.self.now c.hear.new.self waited c.args.part c.args.sync c.requires.awaits in
    let session = session_still g.Q.Requester.asking c.args.shared.now.processes.now.items c.args.shared.now.journal.now c.args.self.now c.hear.new.self waited c.requires.session in
    awaited_within session.0 c.args.shared.now.processes.now.items c.args.shared.now.journal.now (seen g.Q.Requester.asking c.hear.new.self) session.1 c.args.part c.args.sync awaits

pub loop-preserved : goal.loop-preserved
loop-preserved g c =
    let waited = waits_on g.Q.Requester.asking c.args.shared.now.processes.now.items c.args.shared.now.journal.now c.args.self.now c.loop.self c.hear.new.self c.loop.invariant.2 c.hear.ensures.rest c.hear.ensures.goes in
    (tt, tt, waits_on g.Q.Requester.asking c.args.shared.now.processes.now.items c.args.shared.now.journal.now c.args.self.now c.hear.new.self c.serve_one.new.self waited c.serve_one.ensures.rest c.serve_one.ensures.goes)
