use Rattle.std.proofs.Common.{◌≡◌, ◌+◌, suc, [], ◌∷◌, ◌++◌, length, ap, sym, ◌∙◌, subst, append_assoc, length-append, arith}
use Rattle.step_world.specs.Runs.{AreSeated, new_seat}
use Rattle.step_world.proofs.Yielded.{seated_more}
use Rattle.step_world.proofs.driver.take_seats.Goals as goal

pub loop-requester-preserved : goal.loop-requester-preserved
loop-requester-preserved g c =
    let at = c.loop-requester in
    let requester = c.in-Some.requester in
    let counted = at.invariant.1 in
    let number : at.number + 1 ≡ suc (length at.yielded) = omega (arith, counted) in
    let pushed = c.in_ok-push.ensures.items ∙ ap (λ n. at.seats.items ++ new_seat n requester ∷ []) number in (
      subst (λ seats. AreSeated (at.yielded ++ requester ∷ []) seats) (sym pushed) (seated_more at.yielded at.seats.items requester at.invariant.0),
      omega (arith, counted, length-append at.yielded (requester ∷ [])),
      at.invariant.2 ∙ ap (λ rest. at.yielded ++ rest) c.in-Some.ensures.steps.0 ∙ sym (append_assoc at.yielded (requester ∷ []) _),
    )
