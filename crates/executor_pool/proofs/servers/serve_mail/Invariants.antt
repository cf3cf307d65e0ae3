use Rattle.executor_pool.proofs.Serving.{IsServing}
use Rattle.executor_pool.proofs.servers.serve_mail.Given as goal

abbrev pub invariant-loop : goal.invariant-loop
invariant-loop g l = (goal.iterator-loop g).can_next l.iterator' × (goal.iterator-loop g).is_finite l.iterator' × IsServing l.process l.fn.server l.server
