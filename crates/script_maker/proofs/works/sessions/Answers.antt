use Rattle.std.proofs.Common.{sym, ◌∙◌}
use Rattle.script_maker.proofs.InLine.{after_none, grown, in_line_none, moved}
use Rattle.script_maker.specs.Making.{works}
use Rattle.script_maker.proofs.works.sessions.Goals as goal

pub loop-place-init : goal.loop-place-init
loop-place-init c =
    let part = works in
    let s = c.args.draws.now.state in
    (c.new-sessions.ensures ∙ sym (in_line_none 25 part s), sym (after_none s))

pub loop-place-preserved : goal.loop-place-preserved
loop-place-preserved c =
    let part = works in
    let i = c.loop-place.place in
    let s = c.args.draws.now.state in
    let now = c.loop-place.draws.state in (
      grown 25 part i s now c.loop-place.sessions c.push.new.self c.in_ok-works.field-0 c.loop-place.invariant.0 c.loop-place.invariant.1 c.in_ok-works.ensures.works c.in_ok-push.ensures.ok,
      moved 25 i s now c.works.new.draws.state c.loop-place.invariant.1 c.in_ok-works.ensures.drawn,
    )
