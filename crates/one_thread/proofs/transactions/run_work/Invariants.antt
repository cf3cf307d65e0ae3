use Rattle.std.proofs.Common.{drop}
use Rattle.one_thread.proofs.Running.{Running}
use Rattle.one_thread.proofs.transactions.run_work.Given as goal

-- the statements that are left make of the world so far what all make of the old one
abbrev pub invariant-loop-statement : goal.invariant-loop-statement
invariant-loop-statement l = Running l.tables l.work l.fn.world l.world l.given (drop l.statement-index l.work.statements)
