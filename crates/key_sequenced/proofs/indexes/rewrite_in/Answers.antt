use Rattle.std.proofs.Common.{ap, ◌∙◌, arith}
use Rattle.key_sequenced.specs.Blocks.{home}
use Rattle.key_sequenced.proofs.Homes.{cells-at, changed-at, changed-blocks, IsAt}
use Rattle.key_sequenced.proofs.indexes.rewrite_in.Goals as goal

pub rewrite-requires : goal.rewrite-requires
rewrite-requires c =
    let here : IsAt c.args.key.now c.args.blocks.now.items c.home-place.result c.index_mut.result.now =
    record { lt = omega (arith, c.if-place-len.true, c.len.ensures, c.args.blocks.now.ok.0); is = c.index_mut.ensures.value; home_is = c.home-place.ensures.home ∙ ap (home c.args.key.now) c.deref.ensures.value } in
    cells-at c.args.key.now c.args.blocks.now.items c.home-place.result c.index_mut.result.now c.requires here

pub returns-then-place-len-clause-cells : goal.returns-then-place-len-clause-cells
returns-then-place-len-clause-cells c =
    let here : IsAt c.args.key.now c.args.blocks.now.items c.home-place.result c.index_mut.result.now =
    record { lt = omega (arith, c.if-place-len.true, c.len.ensures, c.args.blocks.now.ok.0); is = c.index_mut.ensures.value; home_is = c.home-place.ensures.home ∙ ap (home c.args.key.now) c.deref.ensures.value } in
    changed-at c.args.key.now c.args.blocks.now.items c.home-place.result c.index_mut.result.now c.requires here c.args.writer c.args.now c.rewrite.new.self c.rewrite.ensures

pub returns-then-place-len-clause-blocks : goal.returns-then-place-len-clause-blocks
returns-then-place-len-clause-blocks c =
    let here : IsAt c.args.key.now c.args.blocks.now.items c.home-place.result c.index_mut.result.now =
    record { lt = omega (arith, c.if-place-len.true, c.len.ensures, c.args.blocks.now.ok.0); is = c.index_mut.ensures.value; home_is = c.home-place.ensures.home ∙ ap (home c.args.key.now) c.deref.ensures.value } in
    changed-blocks c.args.key.now c.args.blocks.now.items c.home-place.result c.index_mut.result.now c.requires here c.args.writer c.args.now c.rewrite.new.self c.rewrite.ensures
