use Rattle.std.proofs.Common.{◌≤◌, length, ap, sym, ◌∙◌, subst, arith}
use Rattle.key_sequenced.specs.Blocks.{joined, AreBlocks}
use Rattle.key_sequenced.proofs.Homes.{cells-at, first_home, halved-blocks, laid-first, laid-halved, IsAt}
use Rattle.key_sequenced.proofs.indexes.lay_in_new.Goals as goal

pub lay_in_halves-requires-clause-cells : goal.lay_in_halves-requires-clause-cells
lay_in_halves-requires-clause-cells c =
    let here : IsAt c.args.cell.key c.args.blocks.now.items c.args.place c.index_mut.result.now =
    record { lt = omega (arith, c.if-place-len.true, c.len.ensures, c.args.blocks.now.ok.0); is = c.index_mut.ensures.value; home_is = c.requires.place } in
    cells-at c.args.cell.key c.args.blocks.now.items c.args.place c.index_mut.result.now c.requires.blocks here

pub insert-requires-else-place-len-clause-within : goal.insert-requires-else-place-len-clause-within
insert-requires-else-place-len-clause-within c =
    let past : length c.args.blocks.now.items ≤ c.args.place = omega (arith, c.if-place-len.false, c.len.ensures, c.args.blocks.now.ok.0) in
    let first = first_home c.args.cell.key c.args.blocks.now.items c.args.place c.requires.place past in omega (arith, first.1)

pub returns-then-place-len-clause-cells : goal.returns-then-place-len-clause-cells
returns-then-place-len-clause-cells c =
    let here : IsAt c.args.cell.key c.args.blocks.now.items c.args.place c.index_mut.result.now =
    record { lt = omega (arith, c.if-place-len.true, c.len.ensures, c.args.blocks.now.ok.0); is = c.index_mut.ensures.value; home_is = c.requires.place } in
    ap joined c.insert.ensures.items ∙ laid-halved c.args.cell c.args.blocks.now.items c.args.place c.index_mut.result.now c.requires.blocks here c.lay_in_halves.new.self c.lay_in_halves.new.behind c.lay_in_halves.ensures.cells

pub returns-then-place-len-clause-blocks : goal.returns-then-place-len-clause-blocks
returns-then-place-len-clause-blocks c =
    let here : IsAt c.args.cell.key c.args.blocks.now.items c.args.place c.index_mut.result.now =
    record { lt = omega (arith, c.if-place-len.true, c.len.ensures, c.args.blocks.now.ok.0); is = c.index_mut.ensures.value; home_is = c.requires.place } in
    subst AreBlocks (sym c.insert.ensures.items) (halved-blocks c.args.cell c.args.blocks.now.items c.args.place c.index_mut.result.now c.requires.blocks here c.requires.free c.lay_in_halves.new.self c.lay_in_halves.new.behind c.lay_in_halves.ensures.cells c.lay_in_halves.ensures.front c.lay_in_halves.ensures.back)

pub returns-else-place-len-clause-cells : goal.returns-else-place-len-clause-cells
returns-else-place-len-clause-cells c =
    let past : length c.args.blocks.now.items ≤ c.args.place = omega (arith, c.if-place-len.false, c.len.ensures, c.args.blocks.now.ok.0) in
    let first = first_home c.args.cell.key c.args.blocks.now.items c.args.place c.requires.place past in
    ap joined c.insert-else-place-len.ensures.items ∙ (laid-first c.args.cell c.args.blocks.now.items c.args.place c.args.block c.lay.new.self first.0 first.1 c.requires.empty c.lay.ensures).0

pub returns-else-place-len-clause-blocks : goal.returns-else-place-len-clause-blocks
returns-else-place-len-clause-blocks c =
    let past : length c.args.blocks.now.items ≤ c.args.place = omega (arith, c.if-place-len.false, c.len.ensures, c.args.blocks.now.ok.0) in
    let first = first_home c.args.cell.key c.args.blocks.now.items c.args.place c.requires.place past in
    subst AreBlocks (sym c.insert-else-place-len.ensures.items) (laid-first c.args.cell c.args.blocks.now.items c.args.place c.args.block c.lay.new.self first.0 first.1 c.requires.empty c.lay.ensures).1
