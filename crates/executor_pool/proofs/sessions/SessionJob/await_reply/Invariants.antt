use Rattle.executor_pool.proofs.Awaiting.{HasWaited}
use Rattle.executor_pool.proofs.sessions.SessionJob.await_reply.Given as goal

abbrev pub invariant-loop : goal.invariant-loop
invariant-loop g l =
    (goal.iterator-loop g).can_next l.iterator' × (goal.iterator-loop g).is_finite l.iterator' × HasWaited g.Q.Requester.asking l.shared.processes.now.items l.shared.journal.now l.fn.self l.self
