-- Words that `steps` refuses are no line.
use Rattle.std.proofs.Common.{sym, ◌∙◌}
use Rattle.nonstop_sql.proofs.Choices.{refused_steps}
use Rattle.nonstop_sql.proofs.commands.command_of.Goals as goal

pub returns-in-steps-clause-refused : goal.returns-in-steps-clause-refused
returns-in-steps-clause-refused c = λ refused command line.
    refused_steps c.args.words.now c.name-item.result command c.in-len2-up.len_at_least c.name-item.is (sym c.as_str.ensures.value ∙ c.in-steps.is) (c.steps.ensures.refused refused) line
