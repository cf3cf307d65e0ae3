use Rattle.std.proofs.Common.{◌≡◌, ◌++◌, length}
use Rattle.std.specs.Vec.Iter.{into_iter_items}
use Rattle.step_world.specs.Runs.{AreSeated}
use Rattle.step_world.proofs.driver.take_seats.Given as goal

-- the seats of the requesters so far
abbrev pub invariant-loop-requester : goal.invariant-loop-requester
invariant-loop-requester g l =
    AreSeated l.yielded l.seats.items × (l.number ≡ length l.yielded) × (l.fn.requesters.items ≡ l.yielded ++ into_iter_items l.requester-iterator)
