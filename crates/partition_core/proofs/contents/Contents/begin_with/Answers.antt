use Rattle.std.proofs.Common.{rules, ap, sym, subst, ◌∙◌}
use Rattle.subset_blocks.specs.Blocks.{free_number}
use Rattle.partition_state.specs.Step.{begin_with}
use Rattle.partition_core.specs.Scaffold.Contents.{parts_of, state_of}
use Rattle.partition_core.specs.Scaffold.Firsts.{IsFirst, first_change, first_reply}
use Rattle.partition_core.proofs.Told.{begins-told, told-by, walked-told}
use Rattle.partition_core.proofs.contents.Contents.begin_with.Goals as goal
use Rattle.quantum_runner.proofs.Walking.{if_both}

pub returns-in-Walked-clause-told : goal.returns-in-Walked-clause-told
returns-in-Walked-clause-told c =
    let p = state_of (parts_of c.args.self.now) in
    let block = c.in_ok-block.block in
    let granule = c.args.granule.now in
    let walk = c.in-Walked.walk in
    let is = subst (IsFirst p block granule) c.in-Walked.is c.in_ok-lock.ensures in
    let rise = c.requires.serving.keeps.cells.rise in
    let told = walked-told p block granule walk rise is.1 is.0 in
    if_both c.after_first.result _ _ _
    (λ j reply change. begins-told p c.args.t c.args.access granule c.args.range.now c.in-Some.work block j c.in_ok-block.ensures (search rules)
    (told-by p block.holder j (first_reply (free_number p.blocks) walk.reply) (first_change (free_number p.blocks) block granule walk) reply change ∙ told) ∙ ap (begin_with p c.args.t c.args.access granule c.args.range.now) (sym c.in-Some.is))
    c.after_first.ensures.reply c.after_first.ensures.change
