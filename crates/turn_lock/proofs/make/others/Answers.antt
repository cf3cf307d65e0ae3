use Rattle.std.proofs.Common.{◌≡◌, ◌-◌, ap, ◌∙◌, refl, arith}
use Rattle.turn_lock.proofs.Making.{new_pass-same, one_more}
use Rattle.turn_lock.proofs.make.others.Goals as goal

pub loop-number-preserved : goal.loop-number-preserved
loop-number-preserved g c =
    let i = c.loop-number.invariant in
    let d = c.draw-seat.ensures in
    let same = new_pass-same _ _ c.args.opening.now.passes _ (g.V.StandsFor.root c.args.opening.now.value.value) _ d.table refl refl in
    let pass_is = c.pass_of.ensures ∙ ap (λ f. f c.loop-number.number) same in (
      d.first.0 ∙ i.0,
      d.first.1 ∙ i.1,
      c.in_ok-push.ensures.items ∙ one_more _ c.loop-number.number c.loop-number.list.items c.pass_of.result c.loop-number.auto.number i.2 pass_is,
    )

pub returns-clause-passes : goal.returns-clause-passes
returns-clause-passes g c =
    let all : c.args.opening.now.passes - 1 ≡ c.loop-number.number - 1 = omega arith in
    rw all c.loop-number.invariant.2
