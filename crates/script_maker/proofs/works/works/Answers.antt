use Rattle.std.proofs.Common.{◌+◌, sym, ◌∙◌}
use Rattle.script_maker.proofs.InLine.{after_none, grown, in_line_none, moved}
use Rattle.script_maker.specs.Making.{work}
use Rattle.script_maker.proofs.works.works.Goals as goal

pub loop-at-init : goal.loop-at-init
loop-at-init c =
    let part = work (c.args.place + 1) in
    let s = c.args.draws.now.state in
    (c.new-works.ensures ∙ sym (in_line_none 5 part s), sym (after_none s))

pub loop-at-preserved : goal.loop-at-preserved
loop-at-preserved c =
    let part = work (c.args.place + 1) in
    let i = c.loop-at.at in
    let s = c.args.draws.now.state in
    let now = c.loop-at.draws.state in (
      grown 5 part i s now c.loop-at.works c.push.new.self c.in_ok-work.field-0 c.loop-at.invariant.0 c.loop-at.invariant.1 c.in_ok-work.ensures.work c.in_ok-push.ensures.ok,
      moved 5 i s now c.work.new.draws.state c.loop-at.invariant.1 c.in_ok-work.ensures.drawn,
    )
