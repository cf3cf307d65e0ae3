use Rattle.std.proofs.Common.{◌≡◌, ◌-◌, ◌^◌, pos, negsuc, drop, map}
use Rattle.std.specs.Prelude.{fold, ◌≤ℤ◌}
use Rattle.range_finder.specs.Range.{number_bound, usable}
use Rattle.sql_base.specs.declared.tables.ColumnKind.TheVariants.{Int}
use Rattle.key_ranges.specs.Bounds.{bound_of}
use Rattle.key_ranges.specs.Intervals.{all_numbers, numbers_of}
use Rattle.key_ranges.proofs.numbers.numbers_left.Given as goal

-- with the bounds that are left they are narrowed to the whole, and they are 64 bit numbers
abbrev pub invariant-loop-bound : goal.invariant-loop-bound
invariant-loop-bound l =
    (fold number_bound (numbers_of l.left) (usable l.column Int (map bound_of (drop l.bound-index l.bounds))) ≡ fold number_bound all_numbers (usable l.column Int (map bound_of l.bounds)))
    × (negsuc (2 ^ 63 - 1) ≤ℤ l.left.low) × (l.left.high ≤ℤ pos (2 ^ 63 - 1))
