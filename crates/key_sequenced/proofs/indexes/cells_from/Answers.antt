use Rattle.std.proofs.Common.{◌++◌, filter, ap, sym, ◌∙◌, subst}
use Rattle.sql_base.specs.Keys.{is_from}
use Rattle.key_sequenced.specs.Blocks.{home, joined, start_key}
use Rattle.key_sequenced.specs.Cells.{AreCells}
use Rattle.key_sequenced.specs.declared.Cell.{Cell}
use Rattle.key_sequenced.proofs.Homes.{cells-at, from-at, IsAt}
use Rattle.key_sequenced.proofs.indexes.cells_from.Goals as goal

pub rest_from-requires : goal.rest_from-requires
rest_from-requires c =
    let here : IsAt (start_key c.args.start.now) c.args.blocks.now c.home-place.result c.index-blocks-place.result =
    record { lt = c.if-place-blocks.true; is = c.index-blocks-place.is; home_is = c.home-place.ensures.home ∙ ap (λ k. home k c.args.blocks.now) c.key_of.ensures } in
    subst AreCells (sym c.cells.ensures.cells) (cells-at (start_key c.args.start.now) c.args.blocks.now c.home-place.result c.index-blocks-place.result c.requires here)

pub returns-then-place-blocks : goal.returns-then-place-blocks
returns-then-place-blocks c =
    let here : IsAt (start_key c.args.start.now) c.args.blocks.now c.home-place.result c.index-blocks-place.result =
    record { lt = c.if-place-blocks.true; is = c.index-blocks-place.is; home_is = c.home-place.ensures.home ∙ ap (λ k. home k c.args.blocks.now) c.key_of.ensures } in
    c.new.ensures
    ∙ ap (λ cs. cs ++ joined c.split_at.result.1.now) (c.rest_from.ensures ∙ ap (filter (λ (x : Cell). is_from c.args.start.now x.key)) c.cells.ensures.cells)
    ∙ ap (λ bs. filter (λ (x : Cell). is_from c.args.start.now x.key) c.index-blocks-place.result ++ joined bs) c.split_at.ensures.back
    ∙ from-at c.args.start.now c.args.blocks.now c.home-place.result c.index-blocks-place.result c.requires here
