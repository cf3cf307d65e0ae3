-- What was kept with status 0 is a record with the headline.
use Rattle.std.proofs.Common.{arith}
use Rattle.nonstop_sql.specs.declared.commands.Command.TheVariants.{Steps, Trial}
use Rattle.nonstop_sql.proofs.Endings.{kept-of-run, kept-of-trial}
use Rattle.nonstop_sql.proofs.outcome_of.Goals as goal

pub returns-clause-ran : goal.returns-clause-ran
returns-clause-ran c = λ choices trace steps zero.
    kept-of-run (c.run.ensures.ran (Steps choices trace) steps (omega (arith, c.loop-number.invariant, c.loop-number-test.false, c.loop-number.auto))) zero

pub returns-clause-tried : goal.returns-clause-tried
returns-clause-tried c = λ number trial zero.
    kept-of-trial (c.run.ensures.ran (Trial number) trial (omega (arith, c.loop-number.invariant, c.loop-number-test.false, c.loop-number.auto))) zero
