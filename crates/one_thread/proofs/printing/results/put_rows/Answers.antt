use Rattle.std.proofs.Common.{rules, ◌≡◌, ◌<◌, length, get_or, ◌∙◌}
use Rattle.std.specs.Prelude.{decimal}
use Rattle.one_thread.proofs.Columns.{rows_more}
use Rattle.one_thread.proofs.printing.results.put_rows.Goals as goal

pub loop-row-preserved : goal.loop-row-preserved
loop-row-preserved c =
    let rows = c.args.rows.now in
    let i = c.loop-row.row-index in
    let row = c.row-item.result in
    let lt : i < length rows = search rules in
    let here : row ≡ get_or rows i row = search rules in
    rows_more (decimal c.args.place.session) (decimal c.args.place.ordinal) (decimal c.args.place.statement) c.args.kinds.now c.items.result.now rows row i c.args.out.now.items c.loop-row.out.items c.put_row.new.out.items c.as_slice.result.now
    lt here c.items.ensures (c.as_slice.ensures.value ∙ c.in_ok-head.ensures) c.loop-row.invariant c.in_ok-put_row.ensures
