use Rattle.std.proofs.Common.{◌≡◌, ◌+◌, cond, Ok, None, ap, sym, subst, ◌∙◌, get_or, arith}
use Rattle.one_thread.specs.Scaffold.Scans.{change_abort, changed, is_changed, ChangesOne}
use Rattle.one_thread.proofs.Passing.{abort_more, counted_more, at_most_one}
use Rattle.one_thread.proofs.Written.{not_yet, written}
use Rattle.one_thread.proofs.scans.change_cells.Goals as goal

pub loop-cell-preserved : goal.loop-cell-preserved
loop-cell-preserved c =
    let table = c.args.table.now in
    let s = c.args.statement.now in
    let old = c.args.cells.now in
    let i = c.loop-cell.cell-index in
    let d = c.cell-item.result in
    let b = c.in-Ok.changed in
    let one : ChangesOne table s (get_or c.loop-cell.cells i d) c.change_cell.new.cell (Ok b) = subst (ChangesOne table s (get_or c.loop-cell.cells i d) c.change_cell.new.cell) c.in-Ok.is c.in_ok-changed.ensures in
    let here : get_or c.loop-cell.cells i d ≡ get_or old i d = ap (λ cells. get_or cells i d) c.loop-cell.invariant.0 ∙ not_yet (changed table s) old i d in
    let none : change_abort table s (get_or old i d) ≡ None = ap (change_abort table s) (sym here) ∙ one.0 in
    let is : b ≡ is_changed table s (get_or old i d) = one.1 ∙ ap (is_changed table s) here in
    let more : c.one_if-count.result ≡ cond b 1 0 = c.one_if-count.ensures in
    let small = at_most_one b in (
      written (changed table s) old c.loop-cell.cells i d c.change_cell.new.cell c.loop-cell-test.true c.loop-cell.invariant.0 one.2,
      ap (λ n. c.loop-cell.count + n) more ∙ ap (λ n. n + cond b 1 0) c.loop-cell.invariant.1 ∙ sym (counted_more (is_changed table s) old i d b c.loop-cell-test.true is),
      omega (arith, more, small, c.loop-cell.invariant.2),
      abort_more (change_abort table s) old i d c.loop-cell-test.true none c.loop-cell.invariant.3,
    )
