-- The record of a run has the headline.
use Rattle.std.proofs.Common.{subst}
use Rattle.driver_laws.specs.Scheduling.{Scheduled}
use Rattle.nonstop_sql.proofs.Headlines.{headlined, made-run, made-trial}
use Rattle.nonstop_sql.proofs.top.make.Goals as goal

pub returns-in_ok-output-in-Steps-clause-made : goal.returns-in_ok-output-in-Steps-clause-made
returns-in_ok-output-in-Steps-clause-made g c =
    let headline = headlined c.args.script.now c.in_ok-kept-in-Steps.kept c.in_ok-kept-in-Steps.ensures.legal c.in_ok-kept-in-Steps.ensures.in_line in
    rw c.in-Steps.is
    (made-run c.in-Steps.choices c.in-Steps.trace _ c.args.script.now c.in_ok-kept-in-Steps.kept c.in_ok-output-in-Steps.output.items headline (subst (λ choices. Scheduled choices c.in_ok-kept-in-Steps.kept) c.items.ensures c.in_ok-kept-in-Steps.ensures.scheduled) c.in_ok-kept-in-Steps.ensures.carried c.in_ok-output-in-Steps.ensures.said)

pub returns-in_ok-summed-in-Trial-clause-made : goal.returns-in_ok-summed-in-Trial-clause-made
returns-in_ok-summed-in-Trial-clause-made g c =
    let headline = headlined c.args.script.now c.in_ok-kept-in-Trial.kept c.in_ok-kept-in-Trial.ensures.legal c.in_ok-kept-in-Trial.ensures.in_line in
    rw c.in-Trial.is
    (made-trial _ c.args.script.now c.in_ok-kept-in-Trial.kept c.in_ok-summed-in-Trial.summed.items headline c.in_ok-kept-in-Trial.ensures.scheduled c.in_ok-kept-in-Trial.ensures.carried c.in_ok-summed-in-Trial.ensures)
