use Rattle.std.proofs.lemmas.Result.{on_ok_weaker}
use Rattle.executor_pool.specs.Sessions.{seen}
use Rattle.executor_pool.proofs.Sending.{handed_told_on}
use Rattle.executor_pool.proofs.Stepping.{goes_after}
use Rattle.executor_pool.proofs.sessions.SessionJob.serve_by_hand.Goals as goal

pub returns-clause-goes : goal.returns-clause-goes
returns-clause-goes g c = on_ok_weaker c.await_reply.result (goes_after c.args.shared.now.processes.now.items c.args.shared.now.journal.now (seen g.Q.Requester.asking c.args.self.now) (seen g.Q.Requester.asking c.hand_in.new.self) (seen g.Q.Requester.asking c.await_reply.new.self) c.hand_in.ensures.goes) c.await_reply.ensures.goes

pub returns-clause-told : goal.returns-clause-told
returns-clause-told g c =
    on_ok_weaker c.await_reply.result (handed_told_on g.Q.Requester.asking c.args.shared.now.processes.now.items c.args.shared.now.journal.now c.args.self.now c.hand_in.new.self c.in_ok-part.field-0 c.in_ok-part.ensures c.hand_in.ensures.rest (seen g.Q.Requester.asking c.await_reply.new.self) c.requires.turn) c.await_reply.ensures.told
