use Rattle.std.proofs.Common.{◌++◌, [], ap, sym, ◌∙◌, take}
use Rattle.std.specs.Prelude.{slice_get}
use Rattle.std.specs.List.{cons_option}
use Rattle.sql_base.specs.Rows.{chosen, kinds}
use Rattle.one_thread.proofs.Passing.{filter_map_more}
use Rattle.record_text.proofs.finished.kinds_of.Goals as goal

pub loop-column-preserved : goal.loop-column-preserved
loop-column-preserved c =
    let columns = c.args.columns.now in
    let ks = kinds c.args.table.now in
    let i = c.loop-column.column-index in
    c.in_ok-push_kind.ensures ∙ ap (λ found. found ++ cons_option c.kind_at.result []) c.loop-column.invariant
    ∙ ap (λ kind. chosen (take i columns) ks ++ cons_option kind []) c.kind_at.ensures
    ∙ sym (filter_map_more (slice_get ks) columns i 0 c.loop-column-test.true)
