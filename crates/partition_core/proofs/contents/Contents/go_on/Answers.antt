use Rattle.std.proofs.Common.{◌≡◌, ◌≤◌, length, arith, Some, true, ap, sym, ◌∙◌, subst}
use Rattle.sql_base.specs.Keys.{key_eq}
use Rattle.subset_blocks.specs.Blocks.{find_block}
use Rattle.subset_blocks.specs.declared.Numbered.{Numbered}
use Rattle.subset_blocks.proofs.BlockLists.{found_has}
use Rattle.quantum_core.specs.declared.works.SetWork.{SetWork}
use Rattle.quantum_runner.specs.Scaffold.Works.{IsWork}
use Rattle.partition_state.specs.Step.{kept_key}
use Rattle.partition_core.specs.Scaffold.Contents.{parts_of, state_of}
use Rattle.std.proofs.lemmas.Result.{IfOk-weaker}
use Rattle.partition_core.specs.Scaffold.Changes.{IsFitting}
use Rattle.partition_core.specs.Scaffold.Firsts.{next_change, next_reply}
use Rattle.partition_core.proofs.Told.{goes-told, next-fits, next-told, told-by}
use Rattle.partition_core.proofs.contents.Contents.go_on.Goals as goal
use Rattle.quantum_runner.proofs.Walking.{if_both}

pub walk-requires-clause-work : goal.walk-requires-clause-work
walk-requires-clause-work c =
    let self = c.args.self.now in
    let found = sym (c.in-Some.ensures ∙ ap (find_block c.args.subset c.args.t) c.deref.ensures.value) in
    found_has (λ (b : Numbered SetWork). IsWork self.table b.block.work) _ self.blocks.items c.in-Some.numbered.now c.requires.serving.works found

pub returns-clause-told : goal.returns-clause-told
returns-clause-told c =
    let self = c.args.self.now in
    let p = state_of (parts_of self) in
    let b = c.in-Some.numbered.now in
    let found : find_block c.args.subset c.args.t p.blocks ≡ Some b = sym (c.in-Some.ensures ∙ ap (find_block c.args.subset c.args.t) c.deref.ensures.value) in
    let right : key_eq (kept_key b.block.start) c.args.last.now ≡ true = ap (λ k. key_eq k c.args.last.now) (sym c.kept_key-kept.ensures) ∙ sym c.is_key.ensures ∙ c.if-not-is_key.false in
    let walk = c.in_ok-walked.walked in
    let told = next-told p c.args.t b walk c.requires.serving.keeps.cells.rise c.in_ok-walked.ensures.walk in
    if_both c.after_next.result _ _ _
    (λ j reply change. told-by p c.args.t j (next_reply b.number walk.reply) (next_change b.number walk) reply change ∙ told ∙ goes-told p c.args.last.now b _ found right)
    c.after_next.ensures.reply c.after_next.ensures.change

pub returns-clause-fits : goal.returns-clause-fits
returns-clause-fits c =
    let q = parts_of c.args.self.now in
    let walk = c.in_ok-walked.walked in
    let limits = c.requires.serving.formed.limits in
    let few : length walk.plans ≤ 1000 = omega (arith, c.in_ok-walked.ensures.walk.few, limits.quantum.1) in
    IfOk-weaker c.after_next.result _ _ (λ j change. subst (IsFitting q) (sym change) (next-fits q c.in-Some.numbered.now.number walk.plans walk.reply few)) c.after_next.ensures.change
