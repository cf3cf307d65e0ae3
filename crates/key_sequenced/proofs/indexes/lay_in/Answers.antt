use Rattle.std.proofs.Common.{◌≡◌, ◌∷◌, List, [], length, ap, ◌∙◌, subst, arith}
use Rattle.sql_base.proofs.ListFacts.{all_right}
use Rattle.key_sequenced.specs.Blocks.{home, AreEmpty}
use Rattle.key_sequenced.specs.declared.Cell.{Cell}
use Rattle.key_sequenced.proofs.Homes.{cells-at, laid-blocks, laid-here, IsAt}
use Rattle.key_sequenced.proofs.Joining.{laid-some}
use Rattle.key_sequenced.proofs.indexes.lay_in.Goals as goal

pub lay-requires-clause-cells : goal.lay-requires-clause-cells
lay-requires-clause-cells c =
    let home_is = c.home-place.ensures.home ∙ ap (λ k. home k c.deref.result.now) c.bytes.ensures ∙ ap (home c.args.cell.key) c.deref.ensures.value in
    let here : IsAt c.args.cell.key c.args.blocks.now.items c.home-place.result c.index_mut.result.now =
    record { lt = omega (arith, c.if-place-len.true, c.len.ensures, c.args.blocks.now.ok.0); is = c.index_mut.ensures.value; home_is = home_is } in
    cells-at c.args.cell.key c.args.blocks.now.items c.home-place.result c.index_mut.result.now c.requires.blocks here

pub returns-then-len-lt-MOST_CELLS-clause-cells : goal.returns-then-len-lt-MOST_CELLS-clause-cells
returns-then-len-lt-MOST_CELLS-clause-cells c =
    let home_is = c.home-place.ensures.home ∙ ap (λ k. home k c.deref.result.now) c.bytes.ensures ∙ ap (home c.args.cell.key) c.deref.ensures.value in
    let here : IsAt c.args.cell.key c.args.blocks.now.items c.home-place.result c.index_mut.result.now =
    record { lt = omega (arith, c.if-place-len.true, c.len.ensures, c.args.blocks.now.ok.0); is = c.index_mut.ensures.value; home_is = home_is } in
    laid-here c.args.cell c.args.blocks.now.items c.home-place.result c.index_mut.result.now c.requires.blocks here c.lay.new.self c.lay.ensures

pub returns-then-len-lt-MOST_CELLS-clause-blocks : goal.returns-then-len-lt-MOST_CELLS-clause-blocks
returns-then-len-lt-MOST_CELLS-clause-blocks c =
    let home_is = c.home-place.ensures.home ∙ ap (λ k. home k c.deref.result.now) c.bytes.ensures ∙ ap (home c.args.cell.key) c.deref.ensures.value in
    let here : IsAt c.args.cell.key c.args.blocks.now.items c.home-place.result c.index_mut.result.now =
    record { lt = omega (arith, c.if-place-len.true, c.len.ensures, c.args.blocks.now.ok.0); is = c.index_mut.ensures.value; home_is = home_is } in
    laid-blocks c.args.cell c.args.blocks.now.items c.home-place.result c.index_mut.result.now c.requires.blocks here c.requires.free c.lay.new.self c.lay.ensures (rw c.lay.ensures (laid-some c.args.cell c.index_mut.result.now))

pub lay_in_new-requires-clause-empty : goal.lay_in_new-requires-clause-empty
lay_in_new-requires-clause-empty c =
    (all_right (λ (b : List Cell). length b ≡ 0) c.pop.new.self.items (c.in-Some.block ∷ []) (subst AreEmpty c.in-Some.ensures.items c.requires.empty)).0
