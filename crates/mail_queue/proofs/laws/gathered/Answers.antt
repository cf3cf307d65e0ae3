use Rattle.std.proofs.Common.{◌<◌, map, sym, ap, ◌∙◌, subst}
use Rattle.mail_queue.specs.declared.hand.Hand.{Hand}
use Rattle.mail_queue.specs.Messages.{Balances}
use Rattle.mail_queue.specs.Gathering.{IsComplete}
use Rattle.mail_queue.specs.Insides.{HasAllNumbers, with_takers}
use Rattle.mail_queue.proofs.Gathers.{gathers_all}
use Rattle.mail_queue.proofs.Times.{taken_is_posted}
use Rattle.mail_queue.proofs.laws.gathered.Goals as goal

pub left_in-requires-clause-whole : goal.left_in-requires-clause-whole
left_in-requires-clause-whole g c =
    let posters = c.args.posters.items in
    let takers = c.args.takers.items in
    let all = subst (λ mail. IsComplete mail posters takers) c.mail.view_is record {
      all_posters = c.has_each_number.ensures.0 c.if-not-has_each_number.false;
      all_takers = c.has_each_number-else-not-has_each_number.ensures.0 c.if-not-has_each_number-2.false;
    } in
    let some_taker = subst (λ mail. 0 < mail.takers) c.mail.view_is c.mail.invariant.2 in
    let is = c.gather_takers.ensures.gathered ∙ ap (λ hand. with_takers hand takers) c.gather_posters-whole.ensures.gathered in
    subst HasAllNumbers (sym is) (gathers_all c.args.mail posters takers all some_taker)

pub returns-clause-only_posted : goal.returns-clause-only_posted
returns-clause-only_posted g c =
    let takers = c.args.takers.items in
    let is = c.gather_takers.ensures.gathered ∙ ap (λ hand. with_takers hand takers) c.gather_posters-whole.ensures.gathered in
    taken_is_posted _ _ (map g.M.Letter.spelling c.in_ok-left.left.items) (subst (λ (hand : Hand). Balances hand.posted hand.taken (map g.M.Letter.spelling c.in_ok-left.left.items)) is c.in_ok-left.ensures)

pub returns-clause-balance : goal.returns-clause-balance
returns-clause-balance g c =
    let takers = c.args.takers.items in
    let is = c.gather_takers.ensures.gathered ∙ ap (λ hand. with_takers hand takers) c.gather_posters-whole.ensures.gathered in
    subst (λ (hand : Hand). Balances hand.posted hand.taken (map g.M.Letter.spelling c.in_ok-left.left.items)) is c.in_ok-left.ensures
