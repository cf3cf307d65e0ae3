use Rattle.std.proofs.Common.{◌≡◌, ◌++◌, map}
use Rattle.crossbeam_queue.specs.Passes.{view}
use Rattle.mail_queue.specs.Insides.{IsIdlePassOf}
use Rattle.mail_queue.proofs.laws.left_in.Given as goal

abbrev pub invariant-loop : goal.invariant-loop
invariant-loop g l =
    IsIdlePassOf l.mail l.whole × (view l.whole ≡ record (view l.fn.whole) { taken = (view l.fn.whole).taken ++ map g.M.Letter.spelling l.left.items })
