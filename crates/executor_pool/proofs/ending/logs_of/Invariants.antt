use Rattle.std.proofs.Common.{◌≡◌, ◌++◌, map}
use Rattle.std.specs.List.{AllZip}
use Rattle.std.specs.Vec.Iter.{into_iter_items}
use Rattle.executor_pool.proofs.ending.logs_of.Given as goal

-- the logs of the sessions so far
abbrev pub invariant-loop-requester : goal.invariant-loop-requester
invariant-loop-requester g l =
    (l.logs ≡ map (λ q. (g.Q.Requester.asking q).log) l.yielded) × AllZip g.Q.Requester.allows l.yielded l.logs × (l.fn.requesters.items ≡ l.yielded ++ into_iter_items l.requester-iterator)
