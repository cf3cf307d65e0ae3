use Rattle.std.proofs.Common.{◌≡◌, ◌++◌, drop}
use Rattle.session_grammar.specs.Plans.{Asker}
use Rattle.record_text.specs.Scaffold.Reading.{givens_read}
use Rattle.record_text.proofs.finished.givens.Given as goal

-- the statements that are left give what is read of the rest
abbrev pub invariant-loop-statement : goal.invariant-loop-statement
invariant-loop-statement l = (r : Asker) → r.tables ≡ l.tables → givens_read r l.statements l.entries ≡ l.given ++ givens_read r (drop l.statement-index l.statements) l.rest
