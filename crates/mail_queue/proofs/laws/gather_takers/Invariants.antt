use Rattle.std.proofs.Common.{◌≡◌, All}
use Rattle.std.specs.Vec.Iter.{into_iter_items}
use Rattle.crossbeam_queue.specs.Passes.{view}
use Rattle.mail_queue.specs.Insides.{with_takers}
use Rattle.mail_queue.specs.Insides.{IsIdlePassOf}
use Rattle.mail_queue.proofs.laws.gather_takers.Given as goal

abbrev pub invariant-loop-taker : goal.invariant-loop-taker
invariant-loop-taker g l =
    IsIdlePassOf l.mail l.whole × (with_takers (view l.whole) (into_iter_items l.taker-iterator) ≡ with_takers (view l.fn.whole) l.fn.takers.items)
    × All (λ taker. taker.mail ≡ l.mail) (into_iter_items l.taker-iterator)
