use Rattle.std.proofs.Common.{◌≡◌, ◌++◌, [], None, ap, sym, ◌∙◌, take, get_or}
use Rattle.std.specs.List.{cons_option, filter_map}
use Rattle.one_thread.specs.Scaffold.Scans.{read_abort, shown}
use Rattle.one_thread.proofs.Passing.{abort_more, filter_map_more}
use Rattle.one_thread.proofs.scans.read_cells.Goals as goal

pub loop-cell-preserved : goal.loop-cell-preserved
loop-cell-preserved c =
    let columns = c.args.columns.now in
    let predicate = c.args.filter.now in
    let cells = c.args.cells.now in
    let i = c.loop-cell.cell-index in
    let d = c.cell-item.result in
    let none : read_abort predicate (get_or cells i d) ≡ None = ap (read_abort predicate) (sym c.cell-item.is) ∙ sym c.in_ok-came.ensures.abort ∙ c.in-None.is in (
      c.in_ok-came.ensures.rows c.in-None.is ∙ ap (λ rows. rows ++ cons_option (shown columns predicate d) []) c.loop-cell.invariant.0
          ∙ ap (λ cell. filter_map (shown columns predicate) (take i cells) ++ cons_option (shown columns predicate cell) []) c.cell-item.is
          ∙ sym (filter_map_more (shown columns predicate) cells i d c.loop-cell-test.true),
      abort_more (read_abort predicate) cells i d c.loop-cell-test.true none c.loop-cell.invariant.1,
    )
