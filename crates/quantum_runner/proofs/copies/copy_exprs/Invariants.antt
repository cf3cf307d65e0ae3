use Rattle.std.proofs.Common.{◌≡◌, take}
use Rattle.quantum_runner.proofs.copies.copy_exprs.Given as goal

-- those before are copied
abbrev pub invariant-loop-expr : goal.invariant-loop-expr
invariant-loop-expr l = l.copies ≡ take l.expr-index l.exprs
