use Rattle.std.proofs.Common.{ap, sym, ◌∙◌, subst}
use Rattle.key_sequenced.specs.Cells.{find_cell, AreCells}
use Rattle.key_sequenced.proofs.Homes.{cells-at, found-at, IsAt}
use Rattle.key_sequenced.proofs.indexes.find_in.Goals as goal

pub find_at-requires : goal.find_at-requires
find_at-requires c =
    let here : IsAt c.args.key.now c.args.blocks.now c.home-place.result c.index-blocks-place.result = record { lt = c.if-place-blocks.true; is = c.index-blocks-place.is; home_is = c.home-place.ensures.home } in
    subst AreCells (sym c.cells.ensures.cells) (cells-at c.args.key.now c.args.blocks.now c.home-place.result c.index-blocks-place.result c.requires here)

pub returns-then-place-blocks : goal.returns-then-place-blocks
returns-then-place-blocks c =
    let here : IsAt c.args.key.now c.args.blocks.now c.home-place.result c.index-blocks-place.result = record { lt = c.if-place-blocks.true; is = c.index-blocks-place.is; home_is = c.home-place.ensures.home } in
    c.find_at.ensures ∙ ap (find_cell c.args.key.now) c.cells.ensures.cells ∙ found-at c.args.key.now c.args.blocks.now c.home-place.result c.index-blocks-place.result c.requires here
