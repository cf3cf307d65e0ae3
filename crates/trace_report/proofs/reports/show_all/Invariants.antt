-- It has seen the histories so far.
use Rattle.std.proofs.Common.{◌≡◌, drop}
use Rattle.run_record.specs.Seen.{seen_parts}
use Rattle.trace_report.proofs.Showing.{HasSeen}
use Rattle.trace_report.proofs.reports.show_all.Given as goal

abbrev pub invariant-loop-history : goal.invariant-loop-history
invariant-loop-history g l = record {
  part : l.part ≡ l.history-index;
  seen : HasSeen (seen_parts 0 l.histories) (seen_parts l.history-index (drop l.history-index l.histories))
      ((goal.Collector-dyn g (l.fn.collector.vtable, l.fn.collector.value)).collecting l.fn.collector.value)
      ((goal.Collector-dyn g (l.collector.vtable, l.collector.value)).collecting l.collector.value);
}
