-- The numbers that bounds leave of a column.
use Rattle.std.specs.Prelude.{ℕ, pos, negsuc, ◌^◌, ◌-◌, ◌==◌, if◌then◌else◌}
use Rattle.sql_base.specs.Rows.{in_i64}
use Rattle.sql_base.specs.declared.expressions.CompareOp.{CompareOp}
use Rattle.sql_base.specs.declared.values.Value.{Value}
use Rattle.sql_base.specs.declared.values.Value.TheVariants as value
use Rattle.range_finder.specs.Range.{Bound, Numbers, narrowed}
use Rattle.key_ranges.specs.declared.numbers.Numbers.{Numbers as Left}

abbrev pub numbers_of : Left → Numbers
numbers_of i = record { low = i.low; high = i.high }

-- all 64 bit numbers
abbrev pub all_numbers : Numbers
all_numbers = record { low = negsuc (2 ^ 63 - 1); high = pos (2 ^ 63 - 1) }

-- the numbers that a comparison with a literal of the column leaves, and that one bound leaves
abbrev pub left_by : CompareOp → Value → Numbers → Numbers
left_by op (value.Int n) i = if in_i64 n then narrowed op n i else i
left_by op (value.Text text) i = i

abbrev pub left_of : ℕ → Bound → Numbers → Numbers
left_of column bound i = if bound.column == column then left_by bound.op bound.literal i else i
