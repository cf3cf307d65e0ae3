use Rattle.std.proofs.Common.{rules, ◌<◌, length, ◌∙◌}
use Rattle.update_expressions.proofs.Reading.{are_sets-is}
use Rattle.update_expressions.proofs.verifying.are_sets.Goals as goal

pub returns-then-not-is_empty : goal.returns-then-not-is_empty
returns-then-not-is_empty c =
    let some : 0 < length c.args.sets.now = search rules in
    c.columns_differ.ensures ∙ are_sets-is c.args.sets.now some
