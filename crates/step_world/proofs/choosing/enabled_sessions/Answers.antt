use Rattle.std.proofs.Common.{◌≡◌, ◌+◌, map, ap, sym, ◌∙◌, arith, Vec, Global}
use Rattle.step_world.specs.Choosing.{acts_at}
use Rattle.step_world.specs.Scaffold.Seats.{seen}
use Rattle.step_world.specs.declared.choosing.Agent.{Agent}
use Rattle.step_world.specs.declared.choosing.Agent.TheVariants.{Session}
use Rattle.step_world.proofs.Enabled.{acts_is, left_out, pushed}
use Rattle.step_world.proofs.choosing.enabled_sessions.Goals as goal
use Rattle.step_world.proofs.choosing.enabled_sessions.Goals.{then-is_enabled+in_ok-push, else-is_enabled}

pub loop-at-preserved : goal.loop-at-preserved
loop-at-preserved g c =
    let f = seen g.Q.Requester.asking in
    let at = c.loop-at.at in
    let place : 1 + at ≡ at + 1 = omega arith in
    let test = acts_is f c.args.seats.now at c.index-seats-at.result c.loop-at-test.true c.index-seats-at.is in
    elim c.if-is_enabled.branch [
      | then-is_enabled+in_ok-push w ↦
          pushed Session (acts_at (map f c.args.seats.now)) 1 at (at + 1) place c.args.agents.now.items c.loop-at.agents.items c.if-is_enabled.agents.items c.loop-at.invariant (test ∙ sym c.is_enabled.ensures ∙ w.if-is_enabled.true)
          (ap (λ (v : Vec Agent Global). v.items) w.agents-is ∙ w.in_ok-push.ensures.items)
      | else-is_enabled w ↦
          left_out Session (acts_at (map f c.args.seats.now)) 1 at (at + 1) place c.args.agents.now.items c.loop-at.agents.items c.if-is_enabled.agents.items c.loop-at.invariant (test ∙ sym c.is_enabled.ensures ∙ w.if-is_enabled.false)
          (ap (λ (v : Vec Agent Global). v.items) w.agents-is)
    ]
