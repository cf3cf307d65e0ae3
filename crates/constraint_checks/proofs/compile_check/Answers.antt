use Rattle.std.proofs.Common.{sym, ◌∙◌}
use Rattle.constraint_checks.proofs.Compiled.{verified-check}
use Rattle.constraint_checks.proofs.compile_check.Goals as goal

pub returns-in-Ok : goal.returns-in-Ok
returns-in-Ok c =
    let read = c.in-Ok.ensures.verified in
    verified-check c.args.table.now c.args.check.now c.in-Ok.verified c.requires read.0 (sym read.1 ∙ c.bytes.ensures ∙ c.in_ok-code.ensures)
