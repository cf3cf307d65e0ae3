use Rattle.std.proofs.Common.{◌≡◌, drop}
use Rattle.statement_grammar.specs.Machine.{shape_from, shape_of}
use Rattle.statement_grammar.proofs.machine.read_shape.Given as goal

abbrev pub invariant-loop-token : goal.invariant-loop-token
invariant-loop-token l = shape_from l.stack (drop l.token-index l.tokens) ≡ shape_of l.tokens
