use Rattle.std.proofs.Common.{[], ap, ◌∙◌, arith}
use Rattle.turn_lock.specs.View.{fresh}
use Rattle.turn_lock.proofs.Steps.{splits, draws}
use Rattle.turn_lock.proofs.make.draw.Goals as goal

pub split_seat-seat-requires : goal.split_seat-seat-requires
split_seat-seat-requires g c =
    (c.requires.table.0, omega (arith, c.requires.table.1), splits g.V.StandsFor.history g.V.StandsFor.root _ _ c.args.first.now.me.0)

pub compare_exchange-requires : goal.compare_exchange-requires
compare_exchange-requires g c =
    let i = c.loop.invariant in
    let begun = i.3 ∙ ap (λ s. (fresh s, [])) c.requires.started in
    (i.2, omega (arith, c.requires.table.1), draws g.V.StandsFor.history g.V.StandsFor.root _ _ _ c.args.number c.loop.seat.me _ begun (omega arith))
