use Rattle.std.proofs.Common.{ap, sym, ◌∙◌}
use Rattle.range_finder.specs.Range.{range}
use Rattle.ranges_laws.proofs.Ranges.{ranges_are_bounds}
use Rattle.statement_plans.proofs.plans.select.Goals as goal

pub select_in-requires-clause-long : goal.select_in-requires-clause-long
select_in-requires-clause-long c =
    let table = c.args.table.now in
    (ranges_are_bounds table c.args.filter.now c.in-Some.range (sym (sym c.in-Some.is ∙ c.in_ok-range.ensures ∙ ap (range table) c.as_ref.ensures.value))).0.0.0
