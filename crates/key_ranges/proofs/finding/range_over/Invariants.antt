use Rattle.std.proofs.Common.{◌≡◌, drop, map}
use Rattle.std.specs.Prelude.{option_map}
use Rattle.range_finder.specs.Range.{key_columns, range_over}
use Rattle.key_ranges.specs.Bounds.{bound_of}
use Rattle.key_ranges.specs.Spans.{behind}
use Rattle.key_ranges.proofs.finding.range_over.Given as goal

-- the bytes so far stand in front of the range of the columns that are left
abbrev pub invariant-loop-at : goal.invariant-loop-at
invariant-loop-at l =
    option_map (behind l.low.items l.high.items) (range_over (map bound_of l.bounds) (drop l.at (key_columns l.table))) ≡ range_over (map bound_of l.bounds) (key_columns l.table)
