-- It sees the next entry.
use Rattle.std.proofs.Common.{◌+◌, ap}
use Rattle.trace_report.proofs.Showing.{entry_more}
use Rattle.trace_report.proofs.reports.show_history.Goals as goal

pub loop-entry-preserved : goal.loop-entry-preserved
loop-entry-preserved g c = record {
  place = ap (λ n. n + 1) c.loop-entry.invariant.place;
  seen = entry_more c.args.part c.args.history.now _ _ _ _ c.loop-entry.entry-index c.loop-entry.place c.entry-item.result c.seen_of.result c.loop-entry-test.true c.entry-item.is c.loop-entry.invariant.place
      c.seen_of.ensures c.loop-entry.invariant.seen c.in_ok-see.ensures.ok;
}
