use Rattle.std.proofs.Common.{◌≡◌, ◌++◌}
use Rattle.statement_grammar.proofs.machine.put.Given as goal

abbrev pub invariant-loop-symbol : goal.invariant-loop-symbol
invariant-loop-symbol l = l.symbol-iterator.iter.rest.now ++ l.stack ≡ l.symbols ++ l.fn.stack
