use Rattle.std.proofs.Common.{rules, ◌≡◌, ◌<◌, length, ◌++◌, [], ap, sym, ◌∙◌, take, get_or}
use Rattle.std.specs.List.{cons_option, filter_map}
use Rattle.one_thread.specs.Scaffold.Cells.{now_of}
use Rattle.one_thread.proofs.Passing.{filter_map_more}
use Rattle.one_thread.proofs.worlds.Records.rows.Goals as goal

pub loop-cell-preserved : goal.loop-cell-preserved
loop-cell-preserved c =
    let cells = c.args.self.now in
    let i = c.loop-cell.cell-index in
    let d = c.cell-item.result in
    let here : c.cell-item.result ≡ get_or cells i d = search rules in
    let lt : i < length cells = search rules in
    c.in_ok-push_some.ensures ∙ ap (λ rows. rows ++ cons_option c.in_ok-copied_row.field-0 []) c.loop-cell.invariant
    ∙ ap (λ row. filter_map now_of (take i cells) ++ cons_option row []) (c.in_ok-copied_row.ensures ∙ ap now_of here)
    ∙ sym (filter_map_more now_of cells i d lt)
