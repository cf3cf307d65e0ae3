use Rattle.std.proofs.Common.{◌≡◌, length}
use Rattle.statement_grammar.specs.Machine.{finish}
use Rattle.statement_grammar.proofs.machine.finish.Given as goal

abbrev pub invariant-loop-symbol : goal.invariant-loop-symbol
invariant-loop-symbol l = finish l.ends l.stack ≡ finish l.fn.ends l.fn.stack

abbrev pub decreases-loop-symbol : goal.decreases-loop-symbol
decreases-loop-symbol l = length l.stack
