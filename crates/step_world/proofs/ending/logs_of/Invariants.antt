use Rattle.std.proofs.Common.{◌≡◌, ◌++◌, map}
use Rattle.std.specs.List.{AllZip}
use Rattle.std.specs.Vec.Iter.{into_iter_items}
use Rattle.step_world.proofs.ending.logs_of.Given as goal

-- the logs of the sessions so far
abbrev pub invariant-loop-seat : goal.invariant-loop-seat
invariant-loop-seat g l =
    (l.logs ≡ map (λ s. (g.Q.Requester.asking s.requester).log) l.yielded) × AllZip (λ s log. g.Q.Requester.allows s.requester log) l.yielded l.logs
    × (l.fn.seats.items ≡ l.yielded ++ into_iter_items l.seat-iterator)
