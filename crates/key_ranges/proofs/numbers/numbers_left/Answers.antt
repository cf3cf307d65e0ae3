use Rattle.std.proofs.Common.{◌+◌, drop, map, ap, ◌∙◌, arith}
use Rattle.std.proofs.lemmas.Int.{ints}
use Rattle.std.specs.Prelude.{fold}
use Rattle.sql_base.specs.declared.tables.ColumnKind.TheVariants.{Int}
use Rattle.range_finder.specs.Range.{number_bound, usable}
use Rattle.key_ranges.specs.Bounds.{bound_of}
use Rattle.key_ranges.specs.Intervals.{numbers_of}
use Rattle.key_ranges.proofs.Narrowing.{left-one, narrow_more}
use Rattle.key_ranges.proofs.numbers.numbers_left.Goals as goal

pub loop-bound-preserved : goal.loop-bound-preserved
loop-bound-preserved c =
    let column = c.args.column in
    let rest = map bound_of (drop (c.loop-bound.bound-index + 1) c.args.bounds.now) in (
      ap (λ i. fold number_bound i (usable column Int rest)) (c.narrowed_by-left.ensures.numbers ∙ left-one column (numbers_of c.loop-bound.left) (bound_of c.bound-item.result))
          ∙ narrow_more column (numbers_of c.loop-bound.left) c.args.bounds.now c.loop-bound.bound-index c.bound-item.result c.loop-bound-test.true c.bound-item.is ∙ c.loop-bound.invariant.0,
      omega (arith, ints, c.narrowed_by-left.ensures.low, c.loop-bound.invariant.1),
      omega (arith, ints, c.narrowed_by-left.ensures.high, c.loop-bound.invariant.2),
    )
