use Rattle.std.proofs.Common.{◌++◌, [], ◌∷◌, ap, sym, ◌∙◌}
use Rattle.statement_plans.proofs.Ranges.{counted_more}
use Rattle.statement_plans.proofs.plans.all_columns.Goals as goal

pub loop-column-preserved : goal.loop-column-preserved
loop-column-preserved c =
    let column = c.loop-column.column in
    c.in_ok-push.ensures.ok ∙ ap (λ xs. xs ++ column ∷ []) c.loop-column.invariant ∙ sym (counted_more column)
