use Rattle.std.proofs.Common.{sym, ap, ◌∙◌}
use Rattle.crossbeam_queue.specs.Passes.{view}
use Rattle.mail_queue.proofs.Gathers.{may_take, settles_after, emptied}
use Rattle.mail_queue.proofs.Keeps.{takes}
use Rattle.mail_queue.proofs.laws.left_in.Goals as goal

pub try_pop_as-requires-clause-rule : goal.try_pop_as-requires-clause-rule
try_pop_as-requires-clause-rule g c =
    takes g.M.Letter.spelling _ _ (λ none. may_take _ c.requires.whole (sym (ap (λ hand. hand.takers) c.loop.invariant.1) ∙ none))

pub is_empty_as-requires-clause-rule : goal.is_empty_as-requires-clause-rule
is_empty_as-requires-clause-rule g c =
    let is = c.in-None.ensures.rule ∙ c.loop.invariant.1 in
    settles_after g.M.Letter.spelling _ (view c.args.whole.now) (view c.try_pop_as.new.pass) c.requires.whole (ap (λ hand. hand.crew) is) (ap (λ hand. hand.posters) is) (ap (λ hand. hand.takers) is)

pub returns-then-is_empty_as : goal.returns-then-is_empty_as
returns-then-is_empty_as g c = emptied g.M.Letter.spelling (view c.args.whole.now) (view c.try_pop_as.new.pass) c.loop.left.items (c.in-None.ensures.rule ∙ c.loop.invariant.1) (c.is_empty_as.ensures.rule c.if-is_empty_as.true)
