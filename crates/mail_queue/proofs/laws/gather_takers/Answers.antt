use Rattle.std.proofs.Common.{◌≡◌, sym, ap, ◌∙◌}
use Rattle.std.proofs.lemmas.List.Elements.{All-rest}
use Rattle.std.specs.Vec.Iter.{into_iter_items}
use Rattle.crossbeam_queue.specs.Passes.{view}
use Rattle.mail_queue.specs.Hands.{both_hands}
use Rattle.mail_queue.specs.Tokens.{taker_hand}
use Rattle.mail_queue.specs.Insides.{with_takers}
use Rattle.mail_queue.proofs.Gathers.{taker_knows, with_takers-cons}
use Rattle.mail_queue.proofs.Keeps.{gathers}
use Rattle.mail_queue.proofs.laws.gather_takers.Goals as goal

pub absorb-requires-clause-rule : goal.absorb-requires-clause-rule
absorb-requires-clause-rule g c = gathers g.M.Letter.spelling _ _ _ _

pub loop-taker-preserved : goal.loop-taker-preserved
loop-taker-preserved g c =
    let at = c.loop-taker.invariant in
    let same = c.absorb.ensures.queue in
    let before = view c.loop-taker.whole in
    let rest = into_iter_items c.next.new.self in
    let knows = taker_knows c.taker.inside.number c.taker.inside.pass c.taker.invariant ∙ ap taker_hand c.taker.view_is in (
      (same.0 ∙ at.0.0, same.2 ∙ at.0.1),
      ap (λ hand. with_takers hand rest) (c.absorb.ensures.rule ∙ ap (both_hands before) knows)
          ∙ with_takers-cons before c.in-Some.taker rest
          ∙ sym (ap (with_takers before) c.in-Some.ensures.steps.0)
          ∙ at.1,
      All-rest (λ taker. taker.mail ≡ c.args.mail.now) c.in-Some.taker rest _ c.in-Some.ensures.steps.0 at.2,
    )
