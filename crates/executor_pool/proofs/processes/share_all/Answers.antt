use Rattle.std.proofs.Common.{rules, sym, arith, ◌∙◌}
use Rattle.executor_pool.proofs.Sharing.{next_few, next_fresh, next_opens, none_left, shares_begin, shares_end, shares_more}
use Rattle.executor_pool.proofs.processes.share_all.Goals as goal

pub loop-partition-init : goal.loop-partition-init
loop-partition-init g c = shares_begin c.args.crew _ _ _ (search rules) (search rules) c.in_ok-no_tokens.ensures (search rules)

pub share_one-requires-clause-opening : goal.share_one-requires-clause-opening
share_one-requires-clause-opening g c = next_opens c.args.crew c.args.script.now c.requires.script _ _ _ _ _ c.loop-partition.invariant c.in-Some.ensures.steps.0

pub share_one-requires-clause-fresh : goal.share_one-requires-clause-fresh
share_one-requires-clause-fresh g c = next_fresh c.args.crew c.args.script.now c.requires.script _ _ _ _ _ c.loop-partition.invariant c.in-Some.ensures.steps.0

pub share_one-requires-clause-so_far : goal.share_one-requires-clause-so_far
share_one-requires-clause-so_far g c = (c.loop-partition.invariant.opened, c.loop-partition.invariant.many, c.loop-partition.invariant.shared)

pub overflow_add-part : goal.overflow_add-part
overflow_add-part g c = let few = next_few c.args.crew c.args.script.now c.requires.script _ _ _ _ _ c.loop-partition.invariant c.in-Some.ensures.steps.0 in omega (arith, few)

pub loop-partition-preserved : goal.loop-partition-preserved
loop-partition-preserved g c =
    let e = c.in_ok-shares.ensures in
    shares_more c.args.crew c.args.script.now c.requires.script _ _ _ _ _ c.loop-partition.invariant c.in-Some.ensures.steps.0 _ e.0 e.1 e.2

pub returns : goal.returns
returns g c = shares_end c.args.crew _ _ _ _ c.loop-partition.invariant (none_left _ (sym c.loop-partition.partition-iterator.rest.ok.0 ∙ c.in-None.ensures.steps.0))
