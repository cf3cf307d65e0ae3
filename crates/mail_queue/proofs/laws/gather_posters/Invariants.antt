use Rattle.std.proofs.Common.{◌≡◌, All, Some}
use Rattle.std.specs.Vec.Iter.{into_iter_items}
use Rattle.crossbeam_queue.specs.Passes.{view}
use Rattle.mail_queue.specs.Hands.{idle_hand}
use Rattle.mail_queue.specs.Tokens.{crew_of}
use Rattle.mail_queue.specs.Insides.{with_posters}
use Rattle.mail_queue.specs.Insides.{IsIdlePassOf}
use Rattle.mail_queue.proofs.laws.gather_posters.Given as goal

abbrev pub invariant-loop-poster : goal.invariant-loop-poster
invariant-loop-poster g l =
    IsIdlePassOf l.mail l.pass × (with_posters (view l.pass) (into_iter_items l.poster-iterator) ≡ with_posters (idle_hand (Some (crew_of l.mail))) l.fn.posters.items)
    × All (λ poster. poster.mail ≡ l.mail) (into_iter_items l.poster-iterator)
