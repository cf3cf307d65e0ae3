use Rattle.std.proofs.Common.{◌≡◌, ◌≤◌, length, map}
use Rattle.std.specs.Vec.Iter.{into_iter_items}
use Rattle.driver_laws.specs.Carrying.{Telling}
use Rattle.executor_pool.proofs.Jobbing.{JobsSoFar}
use Rattle.executor_pool.proofs.pool.session_jobs.Given as goal

-- the jobs of the sessions so far
abbrev pub invariant-loop-requester : goal.invariant-loop-requester
invariant-loop-requester g l =
    JobsSoFar (λ w. record { first = (goal.Wire-dyn g (w.vtable, w.value)).first w.value; round = (goal.Wire-dyn g (w.vtable, w.value)).round w.value })
    l.fn.requesters.items (map {B = Telling} (λ w. record { first = (goal.Wire-dyn g (w.vtable, w.value)).first w.value; round = (goal.Wire-dyn g (w.vtable, w.value)).round w.value }) l.fn.wires.items)
    (map (λ row. row.items) l.fn.tokens.items) l.fn.commits.items l.number (into_iter_items l.requester-iterator)
    (map {B = Telling} (λ w. record { first = (goal.Wire-dyn g (w.vtable, w.value)).first w.value; round = (goal.Wire-dyn g (w.vtable, w.value)).round w.value }) (into_iter_items l.wires))
    (map (λ row. row.items) (into_iter_items l.tokens)) (into_iter_items l.commits) l.jobs.items
    × (length (into_iter_items l.requester-iterator) ≤ length (into_iter_items l.wires)) × (length (into_iter_items l.tokens) ≡ length (into_iter_items l.requester-iterator)) × (length (into_iter_items l.commits) ≡ length (into_iter_items l.requester-iterator))
