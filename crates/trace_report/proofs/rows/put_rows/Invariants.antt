-- The numbers that are left have the text that is missing.
use Rattle.std.proofs.Common.{◌≡◌, ◌++◌, drop}
use Rattle.std.specs.Io.{StartsWith}
use Rattle.trace_report.specs.Rows.{rows_from}
use Rattle.trace_report.proofs.rows.put_rows.Given as goal

abbrev pub invariant-loop-number : goal.invariant-loop-number
invariant-loop-number l = record {
  place : l.place ≡ l.number-index;
  left : l.out.items ++ rows_from l.fn.width l.number-index (drop l.number-index l.numbers) ≡ l.fn.out.items ++ rows_from l.fn.width 0 l.numbers;
  begins : StartsWith l.out.items l.fn.out.items;
}
