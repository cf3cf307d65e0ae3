use Rattle.std.proofs.Common.{ap, sym, ◌∙◌}
use Rattle.range_finder.specs.Range.{range}
use Rattle.session_grammar.specs.declared.plans.Plan.TheVariants.{Subsets}
use Rattle.statement_plans.proofs.Sents.{begins_in_are}
use Rattle.statement_plans.proofs.plans.change.Goals as goal

pub returns-in_ok-begins-in-Some : goal.returns-in_ok-begins-in-Some
returns-in_ok-begins-in-Some c asker place is =
    let table = c.args.table.now in
    ap Subsets (c.in_ok-begins-in-Some.ensures
    ∙ begins_in_are asker table place c.args.first c.in-Some.range (range table c.args.filter.now) c.args.begin.now is
    (sym c.in-Some.is ∙ c.in_ok-range.ensures ∙ ap (range table) c.as_ref.ensures.value))
