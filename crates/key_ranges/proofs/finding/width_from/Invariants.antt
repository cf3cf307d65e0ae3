use Rattle.std.proofs.Common.{◌≡◌, ◌+◌, drop}
use Rattle.range_finder.specs.Range.{key_columns}
use Rattle.key_ranges.proofs.Columns.{total}
use Rattle.key_ranges.proofs.finding.width_from.Given as goal

-- the widths so far, and those that are left
abbrev pub invariant-loop-at : goal.invariant-loop-at
invariant-loop-at l = l.sum + total (drop l.at (key_columns l.table)) ≡ total (drop l.fn.from (key_columns l.table))
