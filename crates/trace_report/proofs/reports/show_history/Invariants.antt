-- It has seen the entries so far.
use Rattle.std.proofs.Common.{◌≡◌, drop}
use Rattle.run_record.specs.Seen.{seen_from}
use Rattle.trace_report.proofs.Showing.{HasSeen}
use Rattle.trace_report.proofs.reports.show_history.Given as goal

abbrev pub invariant-loop-entry : goal.invariant-loop-entry
invariant-loop-entry g l = record {
  place : l.place ≡ l.entry-index;
  seen : HasSeen (seen_from l.part 0 l.history) (seen_from l.part l.entry-index (drop l.entry-index l.history))
      ((goal.Collector-dyn g (l.fn.collector.vtable, l.fn.collector.value)).collecting l.fn.collector.value)
      ((goal.Collector-dyn g (l.collector.vtable, l.collector.value)).collecting l.collector.value);
}
