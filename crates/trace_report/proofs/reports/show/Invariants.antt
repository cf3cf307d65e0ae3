-- The first of them have seen all.
use Rattle.std.proofs.Common.{◌≡◌, map, length}
use Rattle.outside.specs.Collecting.{Collecting}
use Rattle.run_record.specs.Seen.{seen}
use Rattle.trace_report.proofs.Showing.{shown_to}
use Rattle.trace_report.proofs.reports.show.Given as goal

abbrev pub invariant-loop-at : goal.invariant-loop-at
invariant-loop-at g l = record {
  many : length l.collectors.items ≡ length l.fn.collectors.items;
  shown : map {B = Collecting} (λ c. (goal.Collector-dyn g (c.vtable, c.value)).collecting c.value) l.collectors.items
      ≡ shown_to (seen l.kept) l.at (map {B = Collecting} (λ c. (goal.Collector-dyn g (c.vtable, c.value)).collecting c.value) l.fn.collectors.items);
}
