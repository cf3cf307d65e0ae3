-- The counts that are left have the lines that are missing.
use Rattle.std.proofs.Common.{◌≡◌, ◌+◌, ◌++◌, drop}
use Rattle.std.specs.Io.{StartsWith}
use Rattle.trace_report.specs.Counts.{count_lines}
use Rattle.trace_report.proofs.counts.put_counts.Given as goal

abbrev pub invariant-loop-count : goal.invariant-loop-count
invariant-loop-count l = record {
  kind : l.kind ≡ l.count-index + 1;
  left : l.out.items ++ count_lines l.kind (drop l.count-index l.counts) ≡ l.fn.out.items ++ count_lines 1 l.counts;
  begins : StartsWith l.out.items l.fn.out.items;
}
