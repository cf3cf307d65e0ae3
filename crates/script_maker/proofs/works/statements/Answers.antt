use Rattle.std.proofs.Common.{sym, ◌∙◌}
use Rattle.script_maker.proofs.InLine.{after_none, grown, in_line_none, moved}
use Rattle.script_maker.specs.Making.{statement}
use Rattle.script_maker.proofs.works.statements.Goals as goal

pub loop-place-init : goal.loop-place-init
loop-place-init c =
    let part = statement c.args.session c.args.work in
    let s = c.args.draws.now.state in
    (c.new-statements.ensures ∙ sym (in_line_none 2 part s), sym (after_none s))

pub loop-place-preserved : goal.loop-place-preserved
loop-place-preserved c =
    let part = statement c.args.session c.args.work in
    let i = c.loop-place.place in
    let s = c.args.draws.now.state in
    let now = c.loop-place.draws.state in (
      grown 2 part i s now c.loop-place.statements c.push.new.self c.in_ok-statement.field-0 c.loop-place.invariant.0 c.loop-place.invariant.1 c.in_ok-statement.ensures.statement c.in_ok-push.ensures.ok,
      moved 2 i s now c.statement.new.draws.state c.loop-place.invariant.1 c.in_ok-statement.ensures.drawn,
    )
