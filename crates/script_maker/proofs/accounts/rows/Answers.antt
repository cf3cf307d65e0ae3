use Rattle.std.proofs.Common.{sym, ◌∙◌}
use Rattle.script_maker.proofs.InLine.{after_none, grown, in_line_none, moved}
use Rattle.script_maker.specs.Making.{loaded_account}
use Rattle.script_maker.proofs.accounts.rows.Goals as goal

pub loop-number-init : goal.loop-number-init
loop-number-init c =
    let part = loaded_account in
    let s = c.args.draws.now.state in
    (c.new-rows.ensures ∙ sym (in_line_none 2 part s), sym (after_none s))

pub loop-number-preserved : goal.loop-number-preserved
loop-number-preserved c =
    let part = loaded_account in
    let i = c.loop-number.number in
    let s = c.args.draws.now.state in
    let now = c.loop-number.draws.state in (
      grown 2 part i s now c.loop-number.rows c.push.new.self c.in_ok-loaded.field-0 c.loop-number.invariant.0 c.loop-number.invariant.1 c.in_ok-loaded.ensures.row c.in_ok-push.ensures.ok,
      moved 2 i s now c.loaded.new.draws.state c.loop-number.invariant.1 c.in_ok-loaded.ensures.drawn,
    )
