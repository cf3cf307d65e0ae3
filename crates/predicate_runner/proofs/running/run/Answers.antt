use Rattle.std.proofs.Common.{Ok, ap, sym, ◌∙◌}
use Rattle.sql_base.specs.Val.{val}
use Rattle.expression_values.specs.Values.{outcome_in}
use Rattle.predicate_runner.proofs.Judged.{never_nothing}
use Rattle.predicate_runner.proofs.running.run.Goals as goal

pub unreachable-requires : goal.unreachable-requires
unreachable-requires c =
    let given = c.requires in
    absurd (never_nothing given.0 c.args.row.now given.1 c.args.code.now.tree given.3 given.2
    (sym (ap (λ item. outcome_in (Ok item)) c.in-Ok-Nothing.field-0-is) ∙ sym (ap outcome_in c.in-Ok-Nothing.is) ∙ c.value_on.ensures ∙ ap (λ e. val e c.values.result.now) c.tree.ensures ∙ ap (val c.args.code.now.tree) c.values.ensures))
