use Rattle.std.proofs.Common.{rules, map, ap, sym, ◌∙◌}
use Rattle.std.specs.Int.{w128}
use Rattle.std.proofs.lemmas.Int.{to_z-of_z}
use mir.Val.{SFits}
use Rattle.sql_base.specs.Rows.{key_value}
use Rattle.sql_base.specs.declared.tables.ColumnKind.TheVariants.{Int}
use Rattle.sql_base.specs.declared.values.Value.TheVariants as value
use Rattle.key_ranges.specs.Bounds.{bound_of}
use Rattle.key_ranges.specs.Intervals.{numbers_of}
use Rattle.key_ranges.proofs.Narrowing.{number-span}
use Rattle.key_ranges.proofs.spans.number_span.Goals as goal

pub returns : goal.returns
returns c =
    let left = c.numbers_left-left.result in
    let low_fits : SFits w128 left.low = search rules in
    let high_fits : SFits w128 left.high = search rules in
    number-span (map bound_of c.args.bounds.now) c.args.column (numbers_of left) _ _ _ c.numbers_left-left.ensures.numbers (sym c.is_empty.ensures ∙ c.if-is_empty.false)
    (c.in_ok-number_key.ensures ∙ ap (λ z. key_value Int (value.Int z)) (to_z-of_z w128 left.low low_fits))
    (c.in_ok-number_key-2.ensures ∙ ap (λ z. key_value Int (value.Int z)) (to_z-of_z w128 left.high high_fits))
    c.is_one.ensures
