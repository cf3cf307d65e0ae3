use Rattle.driver_laws.specs.Carrying.{Telling}
use Rattle.executor_pool.proofs.Working.{IsWorking}
use Rattle.executor_pool.proofs.sessions.SessionJob.work.Given as goal

abbrev pub invariant-loop : goal.invariant-loop
invariant-loop g l =
    let wire_then : Telling = record { first = (goal.Wire-dyn g (l.fn.wire.vtable, l.fn.wire.value)).first l.fn.wire.value; round = (goal.Wire-dyn g (l.fn.wire.vtable, l.fn.wire.value)).round l.fn.wire.value } in
    let wire_now : Telling = record { first = (goal.Wire-dyn g (l.wire.vtable, l.wire.value)).first l.wire.value; round = (goal.Wire-dyn g (l.wire.vtable, l.wire.value)).round l.wire.value } in
    (goal.iterator-loop g).can_next l.iterator' × (goal.iterator-loop g).is_finite l.iterator'
    × IsWorking g.Q.Requester.asking g.Q.Requester.single g.Q.Requester.allows l.shared.processes.now.items l.shared.journal.now l.fn.self wire_then l.self wire_now
