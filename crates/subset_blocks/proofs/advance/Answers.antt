use Rattle.std.proofs.Common.{◌≡◌, ◌<◌, length, take, sym, ap, ◌∙◌, arith, eqb, subst}
use Rattle.std.specs.List.{list_any}
use Rattle.std.proofs.lemmas.List.{get_or_default}
use Rattle.std.proofs.Math.Seq.{take-length}
use Rattle.subset_blocks.specs.Blocks.{advanced, NumbersDiffer}
use Rattle.subset_blocks.specs.declared.Numbered.{Numbered}
use Rattle.subset_blocks.proofs.Numbers.{advanced-at, advanced-none}
use Rattle.subset_blocks.proofs.advance.Goals as goal

pub returns-then-index-number : goal.returns-then-index-number
returns-then-index-number g c =
    let within : c.loop-i.i < length c.loop-i.blocks.items = omega (arith, c.loop-i-test.true, c.len-i-end.ensures) in
    let same = c.index_mut-numbered.ensures.value ∙ get_or_default _ _ _ _ within ∙ sym c.index.ensures in
    let differ = subst NumbersDiffer (sym c.loop-i.invariant.same) c.requires in
    advanced-at c.args.number c.args.last c.loop-i.blocks.items c.loop-i.i c.index_mut-numbered.result.now differ within c.index_mut-numbered.ensures.value (ap (λ (b : Numbered _). b.number) same ∙ c.if-index-number.true)
    ∙ ap (advanced c.args.number c.args.last) c.loop-i.invariant.same

pub returns : goal.returns
returns g c =
    let ended : c.loop-i.i ≡ length c.loop-i.blocks.items = omega (arith, c.loop-i-test.false, c.len-i-end.ensures, c.loop-i.auto.i-end) in
    let none = ap (list_any (λ b. eqb b.number c.args.number)) (sym (ap (λ n. take n c.loop-i.blocks.items) ended ∙ take-length c.loop-i.blocks.items)) ∙ c.loop-i.invariant.before in
    sym (advanced-none c.args.number c.args.last c.loop-i.blocks.items none) ∙ ap (advanced c.args.number c.args.last) c.loop-i.invariant.same
