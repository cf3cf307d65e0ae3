use Rattle.std.proofs.Common.{◌≡◌, length}
use Rattle.statement_grammar.specs.Machine.{advance}
use Rattle.statement_grammar.proofs.machine.advance.Given as goal

abbrev pub invariant-loop-symbol : goal.invariant-loop-symbol
invariant-loop-symbol l = advance l.ends l.stack l.word ≡ advance l.fn.ends l.fn.stack l.word

abbrev pub decreases-loop-symbol : goal.decreases-loop-symbol
decreases-loop-symbol l = length l.stack
