use Rattle.std.proofs.Common.{◌≡◌}
use mathlib.Core.List.{IsPrefix}
use Rattle.turn_lock.proofs.lock.TurnLock.turn.Given as goal

abbrev pub invariant-loop : goal.invariant-loop
invariant-loop g l =
    (goal.iterator-loop g).can_next l.iterator' × (goal.iterator-loop g).is_finite l.iterator'
    × (l.pass ≡ record l.initial.pass { losses = l.pass.losses })
    × IsPrefix l.initial.pass.losses l.pass.losses
