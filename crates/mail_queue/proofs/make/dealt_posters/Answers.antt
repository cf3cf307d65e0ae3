use Rattle.std.proofs.Common.{[], ◌∷◌, ◌++◌, map, drop, sym, ap, ◌∙◌, arith}
use Rattle.std.specs.List.{range_with_len}
use Rattle.std.specs.Prelude.{is_some}
use Rattle.std.proofs.lemmas.List.FromFn.{map-range_with_len_more}
use Rattle.crossbeam_queue.specs.Passes.{view}
use Rattle.mail_queue.specs.Hands.{without_poster}
use Rattle.mail_queue.specs.Tokens.{new_poster}
use Rattle.mail_queue.specs.Insides.{mail_of}
use Rattle.mail_queue.proofs.Deals.{range_with_len-next, dealt_poster, same_mail}
use Rattle.mail_queue.proofs.Keeps.{deals_poster}
use Rattle.mail_queue.proofs.make.dealt_posters.Goals as goal

pub another-pass-requires-clause-rule : goal.another-pass-requires-clause-rule
another-pass-requires-clause-rule g c =
    let at = c.loop-number.invariant in
    deals_poster g.M.Letter.spelling _ _ (ap (λ h. h.posted) at.1 ∙ c.requires.all.0.posted)

pub poster_of-requires-clause-poster : goal.poster_of-requires-clause-poster
poster_of-requires-clause-poster g c =
    let at = c.loop-number.invariant in
    let dealt = c.another-pass.ensures in
    dealt_poster c.loop-number.number _ c.another-pass.result (view c.loop-number.keeper) dealt.rule.1 dealt.queue.1.1
    (ap (λ h. is_some h.crew) at.1 ∙ c.requires.all.0.crew)
    (ap (λ h. h.posters) at.1 ∙ range_with_len-next c.loop-number.number c.args.count c.loop-number-test.true)

pub loop-number-preserved : goal.loop-number-preserved
loop-number-preserved g c =
    let at = c.loop-number.invariant in
    let hand = view c.args.keeper.now in
    let dealt = c.another-pass.ensures in
    let numbers = range_with_len-next c.loop-number.number c.args.count c.loop-number-test.true in
    let mail = same_mail c.another-pass.result c.args.keeper.now (dealt.queue.1.0 ∙ sym c.requires.pass.0) (ap (λ h. h.crew) dealt.rule.1 ∙ ap (λ h. h.crew) at.1) in (
      (dealt.queue.0.0 ∙ at.0.0, dealt.queue.0.1 ∙ at.0.1, dealt.queue.0.2 ∙ at.0.2),
      dealt.rule.0 ∙ ap without_poster at.1 ∙ ap (λ xs. record hand { posters = drop 1 xs }) numbers,
      c.in_ok-push.ensures.items ∙ ap (λ xs. xs ++ c.poster_of.result ∷ []) at.2
          ∙ ap (λ token. map (new_poster (mail_of c.args.keeper.now)) (range_with_len 0 c.loop-number.number) ++ token ∷ []) (c.poster_of.ensures ∙ ap (λ m. new_poster m c.loop-number.number) mail)
          ∙ sym (map-range_with_len_more (new_poster (mail_of c.args.keeper.now)) 0 c.loop-number.number c.loop-number.number (omega arith)),
    )
