use Rattle.std.proofs.Common.{◌≡◌, ◌∷◌, ◌++◌, All, Some, sym, ap, ◌∙◌, subst}
use Rattle.std.specs.Option.{option_to_list}
use Rattle.std.proofs.lemmas.List.Elements.{All-rest, All-same, All-head, All-tail}
use Rattle.std.specs.Vec.Iter.{into_iter_items}
use Rattle.crossbeam_queue.specs.Passes.{view}
use Rattle.mail_queue.specs.Hands.{both_hands, idle_hand}
use Rattle.mail_queue.specs.Tokens.{PosterToken, poster_hand, crew_of}
use Rattle.mail_queue.specs.Insides.{with_posters}
use Rattle.mail_queue.proofs.Gathers.{poster_knows, with_posters-cons}
use Rattle.mail_queue.proofs.Keeps.{gathers}
use Rattle.mail_queue.proofs.laws.gather_posters.Goals as goal

pub loop-poster-init : goal.loop-poster-init
loop-poster-init g c =
    let first = c.unwrap.result in
    let rest = into_iter_items c.next.new.self in
    let mail = c.args.mail.now in
    let IsHere : PosterToken → Type 0 = λ poster. poster.mail ≡ mail in
    let cut : c.args.posters.items ≡ first ∷ rest = sym c.into_iter-rest.ensures.rest ∙ c.next.ensures.items ∙ ap (λ o. option_to_list o ++ rest) c.unwrap.ensures in
    let all = All-same IsHere (first ∷ rest) c.args.posters.items (sym cut) c.requires.mail in
    let here : first.mail ≡ mail = All-head IsHere first rest all in
    let begins = c.into_iter-poster-iterator.ensures.into_iter_gives in
    let knows = poster_knows c.pass.inside.number c.pass.inside.pass c.pass.invariant ∙ ap poster_hand c.pass.view_is in (
      (ap (λ id. id.place) (ap (λ poster. poster.mail) c.pass.view_is ∙ here), c.pass.invariant.no_slot),
      ap (λ it. with_posters (view c.pass.inside.pass) (into_iter_items it)) begins
          ∙ ap (λ hand. with_posters hand rest) knows
          ∙ ap (λ id. with_posters (idle_hand (Some (crew_of id))) (first ∷ rest)) here
          ∙ ap (with_posters (idle_hand (Some (crew_of mail)))) (sym cut),
      subst (λ it. All IsHere (into_iter_items it)) (sym begins) (All-tail IsHere first rest all),
    )

pub absorb-requires-clause-rule : goal.absorb-requires-clause-rule
absorb-requires-clause-rule g c = gathers g.M.Letter.spelling _ _ _ _

pub loop-poster-preserved : goal.loop-poster-preserved
loop-poster-preserved g c =
    let at = c.loop-poster.invariant in
    let same = c.absorb.ensures.queue in
    let before = view c.loop-poster.pass in
    let rest = into_iter_items c.next-in-loop-poster.new.self in
    let knows = poster_knows c.poster.inside.number c.poster.inside.pass c.poster.invariant ∙ ap poster_hand c.poster.view_is in (
      (same.0 ∙ at.0.0, same.2 ∙ at.0.1),
      ap (λ hand. with_posters hand rest) (c.absorb.ensures.rule ∙ ap (both_hands before) knows)
          ∙ with_posters-cons before c.in-Some.poster rest
          ∙ sym (ap (with_posters before) c.in-Some.ensures.steps.0)
          ∙ at.1,
      All-rest (λ poster. poster.mail ≡ c.args.mail.now) c.in-Some.poster rest _ c.in-Some.ensures.steps.0 at.2,
    )
