-- What those so far said.
use Rattle.std.proofs.Common.{◌≡◌, map, take}
use Rattle.outside.specs.Collecting.{Collecting}
use Rattle.trace_report.specs.Reports.{texts}
use Rattle.trace_report.proofs.reports.say.Given as goal

abbrev pub invariant-loop-collector : goal.invariant-loop-collector
invariant-loop-collector g l =
    l.out.items ≡ texts (map {B = Collecting} (λ c. (goal.Collector-dyn g (c.vtable, c.value)).collecting c.value) (take l.collector-index l.collectors))
