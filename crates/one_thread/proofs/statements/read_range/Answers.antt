use Rattle.std.proofs.Common.{◌≡◌, ◌-◌, ◌++◌, take, drop, ap, sym, ◌∙◌, subst}
use Rattle.std.specs.Prelude.{IfOk}
use Rattle.std.specs.List.{AllByRecursion}
use Rattle.one_thread.specs.Scaffold.Scans.{HasColumns, ScansRows}
use Rattle.one_thread.proofs.Splitting.{have_columns, reads_in, splits}
use Rattle.one_thread.proofs.statements.read_range.Goals as goal
use Rattle.sql_base.proofs.ListFacts.{all_left, all_right}

pub read_cells-requires : goal.read_cells-requires
read_cells-requires c =
    let cells = c.args.cells.now in
    let first = c.window_of-window.result.first in
    let n = c.window_of-window.result.end - first in
    let all = have_columns c.args.table.now c.args.columns.now cells c.requires.columns c.requires.now.keyed in
    let parts = splits c.args.range.now cells first c.window_of-window.result.end c.window_of-window.ensures in
    let inside : c.split_at-2.result.0.now ≡ take n (drop first cells) = c.split_at-2.ensures.front ∙ ap (take n) c.split_at.ensures.back in
    subst (AllByRecursion (HasColumns c.args.columns.now)) (sym inside)
    (all_left (HasColumns c.args.columns.now) (take n (drop first cells)) (drop n (drop first cells))
    (all_right (HasColumns c.args.columns.now) (take first cells) (take n (drop first cells) ++ drop n (drop first cells)) (subst (AllByRecursion (HasColumns c.args.columns.now)) parts.0 all)))

pub returns : goal.returns
returns c =
    let cells = c.args.cells.now in
    let first = c.window_of-window.result.first in
    let n = c.window_of-window.result.end - first in
    let inside : c.split_at-2.result.0.now ≡ take n (drop first cells) = c.split_at-2.ensures.front ∙ ap (take n) c.split_at.ensures.back in
    reads_in c.args.columns.now c.args.filter.now c.args.range.now cells first c.window_of-window.result.end c.window_of-window.ensures c.read_cells.result
    (subst (λ cs. IfOk c.read_cells.result (λ came. ScansRows c.args.columns.now c.args.filter.now cs came)) inside c.read_cells.ensures)
