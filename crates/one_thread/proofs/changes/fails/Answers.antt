use Rattle.std.proofs.Common.{◌∙◌}
use Rattle.one_thread.proofs.Failing.{any-first}
use Rattle.one_thread.proofs.changes.fails.Goals as goal

pub returns : goal.returns
returns c = c.any_fails.ensures ∙ any-first 1 c.args.checks.now c.args.row.now
