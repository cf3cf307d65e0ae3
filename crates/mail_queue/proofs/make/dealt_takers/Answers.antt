use Rattle.std.proofs.Common.{[], ◌∷◌, ◌++◌, map, drop, sym, ap, ◌∙◌, arith}
use Rattle.std.specs.List.{range_with_len}
use Rattle.std.specs.Prelude.{is_some}
use Rattle.std.proofs.lemmas.List.FromFn.{map-range_with_len_more}
use Rattle.crossbeam_queue.specs.Passes.{view}
use Rattle.mail_queue.specs.Hands.{without_taker}
use Rattle.mail_queue.specs.Tokens.{new_taker}
use Rattle.mail_queue.specs.Insides.{mail_of}
use Rattle.mail_queue.proofs.Deals.{range_with_len-next, dealt_taker, same_mail}
use Rattle.mail_queue.proofs.Keeps.{deals_taker}
use Rattle.mail_queue.proofs.make.dealt_takers.Goals as goal

pub another-pass-requires-clause-rule : goal.another-pass-requires-clause-rule
another-pass-requires-clause-rule g c =
    let at = c.loop-number.invariant in
    deals_taker g.M.Letter.spelling _ _ (ap (λ h. h.taken) at.1 ∙ c.requires.all.0.taken)

pub taker_of-requires-clause-taker : goal.taker_of-requires-clause-taker
taker_of-requires-clause-taker g c =
    let at = c.loop-number.invariant in
    let dealt = c.another-pass.ensures in
    dealt_taker c.loop-number.number _ c.another-pass.result (view c.loop-number.keeper) dealt.rule.1 dealt.queue.1.1
    (ap (λ h. is_some h.crew) at.1 ∙ c.requires.all.0.crew)
    (ap (λ h. h.takers) at.1 ∙ range_with_len-next c.loop-number.number c.args.count c.loop-number-test.true)

pub loop-number-preserved : goal.loop-number-preserved
loop-number-preserved g c =
    let at = c.loop-number.invariant in
    let hand = view c.args.keeper.now in
    let dealt = c.another-pass.ensures in
    let numbers = range_with_len-next c.loop-number.number c.args.count c.loop-number-test.true in
    let mail = same_mail c.another-pass.result c.args.keeper.now (dealt.queue.1.0 ∙ sym c.requires.pass.0) (ap (λ h. h.crew) dealt.rule.1 ∙ ap (λ h. h.crew) at.1) in (
      (dealt.queue.0.0 ∙ at.0.0, dealt.queue.0.1 ∙ at.0.1, dealt.queue.0.2 ∙ at.0.2),
      dealt.rule.0 ∙ ap without_taker at.1 ∙ ap (λ xs. record hand { takers = drop 1 xs }) numbers,
      c.in_ok-push.ensures.items ∙ ap (λ xs. xs ++ c.taker_of.result ∷ []) at.2
          ∙ ap (λ token. map (new_taker (mail_of c.args.keeper.now)) (range_with_len 0 c.loop-number.number) ++ token ∷ []) (c.taker_of.ensures ∙ ap (λ m. new_taker m c.loop-number.number) mail)
          ∙ sym (map-range_with_len_more (new_taker (mail_of c.args.keeper.now)) 0 c.loop-number.number c.loop-number.number (omega arith)),
    )
