use Rattle.std.proofs.Common.{◌≡◌, ◌++◌, ◌+◌, drop}
use Rattle.one_thread.specs.Text.{givens_text}
use Rattle.one_thread.proofs.printing.results.put_results.Given as goal

-- what the statements that are left gave is all that is missing
abbrev pub invariant-loop-before : goal.invariant-loop-before
invariant-loop-before l = l.out.items ++ givens_text l.shown (l.before + 1) (drop l.before l.shown.given) ≡ l.fn.out.items ++ givens_text l.shown 1 l.shown.given
