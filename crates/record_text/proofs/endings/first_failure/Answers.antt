use Rattle.std.proofs.Common.{rules, ◌<◌, sym, ◌∙◌}
use Rattle.record_text.specs.Scaffold.Reading.{most_parts}
use Rattle.record_text.proofs.Loops.{failed-here, failed-later}
use Rattle.record_text.proofs.endings.first_failure.Goals as goal

pub returns-in-Some : goal.returns-in-Some
returns-in-Some c =
    let lt : c.loop-part.part < most_parts = search rules in
    sym (c.loop-part.invariant ∙ failed-here c.args.entries.now most_parts c.loop-part.part lt c.in-Some.abort (sym c.in_ok-abort.ensures ∙ c.in-Some.is))

pub loop-part-preserved : goal.loop-part-preserved
loop-part-preserved c =
    let lt : c.loop-part.part < most_parts = search rules in
    c.loop-part.invariant ∙ failed-later c.args.entries.now most_parts c.loop-part.part lt (sym c.in_ok-abort.ensures ∙ c.in_default.is)
