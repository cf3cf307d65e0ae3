use Rattle.predicate_runner.proofs.Writing.{has_short_texts-typed}
use Rattle.predicate_runner.proofs.compiling.compile.Goals as goal

pub append_code-requires : goal.append_code-requires
append_code-requires c = record { texts = has_short_texts-typed c.args.table.now c.args.expr.now c.requires.0 c.requires.1.typed; short = c.requires.1.code }
