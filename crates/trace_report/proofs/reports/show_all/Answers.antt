-- It sees the next history, or a front of it.
use Rattle.std.proofs.Common.{◌+◌, ap}
use Rattle.trace_report.proofs.Showing.{history_cut, history_more}
use Rattle.trace_report.proofs.reports.show_all.Goals as goal
use Rattle.sql_base.proofs.Truths.{on_err}

pub returns-in_err-show_history-clause-cut : goal.returns-in_err-show_history-clause-cut
returns-in_err-show_history-clause-cut g c =
    on_err c.from_residual.result
    (history_cut c.args.histories.now _ _ _ _ c.loop-history.history-index c.loop-history.part c.history-item.result c.items.result.now c.loop-history-test.true c.history-item.is
    c.loop-history.invariant.part c.items.ensures c.loop-history.invariant.seen c.in_err-show_history.ensures.cut)

pub loop-history-preserved : goal.loop-history-preserved
loop-history-preserved g c = record {
  part = ap (λ n. n + 1) c.loop-history.invariant.part;
  seen = history_more c.args.histories.now _ _ _ _ c.loop-history.history-index c.loop-history.part c.history-item.result c.items.result.now c.loop-history-test.true c.history-item.is
      c.loop-history.invariant.part c.items.ensures c.loop-history.invariant.seen c.in_ok-show_history.ensures.shown;
}
