use Rattle.std.proofs.Common.{◌≡◌, []}
use Rattle.turn_lock.specs.View.{fresh}
use Rattle.turn_lock.proofs.make.draw.Given as goal

abbrev pub invariant-loop : goal.invariant-loop
invariant-loop g l =
    (goal.iterator-loop g).can_next l.iterator' × (goal.iterator-loop g).is_finite l.iterator'
    × (l.seat.table_id ≡ l.shared.table_id)
    × (l.seat.me ≡ (fresh l.fn.first.me.0.starts, []))
