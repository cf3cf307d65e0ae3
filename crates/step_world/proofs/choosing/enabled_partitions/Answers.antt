use Rattle.std.proofs.Common.{◌≡◌, ◌+◌, ap, sym, ◌∙◌, arith, Vec, Global}
use Rattle.step_world.specs.Choosing.{mail_at}
use Rattle.step_world.specs.declared.choosing.Agent.{Agent}
use Rattle.step_world.specs.declared.choosing.Agent.TheVariants.{Partition}
use Rattle.step_world.proofs.Enabled.{left_out, mail_is, pushed}
use Rattle.step_world.proofs.choosing.enabled_partitions.Goals as goal
use Rattle.step_world.proofs.choosing.enabled_partitions.Goals.{then-has_mail+in_ok-push, else-has_mail}

pub loop-part-preserved : goal.loop-part-preserved
loop-part-preserved c =
    let part = c.loop-part.part in
    let place : 0 + part ≡ part = omega arith in
    let test = mail_is c.args.processes.now part c.index-processes-part.result c.loop-part-test.true c.index-processes-part.is in
    elim c.if-has_mail.branch [
      | then-has_mail+in_ok-push w ↦
          pushed Partition (mail_at c.args.processes.now) 0 part part place c.args.agents.now.items c.loop-part.agents.items c.if-has_mail.agents.items c.loop-part.invariant (test ∙ sym c.has_mail.ensures ∙ w.if-has_mail.true)
          (ap (λ (v : Vec Agent Global). v.items) w.agents-is ∙ w.in_ok-push.ensures.items)
      | else-has_mail w ↦
          left_out Partition (mail_at c.args.processes.now) 0 part part place c.args.agents.now.items c.loop-part.agents.items c.if-has_mail.agents.items c.loop-part.invariant (test ∙ sym c.has_mail.ensures ∙ w.if-has_mail.false)
          (ap (λ (v : Vec Agent Global). v.items) w.agents-is)
    ]
