use Rattle.std.proofs.Common.{◌≡◌, ◌++◌, drop}
use Rattle.std.specs.Prelude.{flat_map}
use Rattle.statement_printer.specs.Bytes.{bytes_of}
use Rattle.statement_printer.specs.Printing.{statement_words}
use Rattle.statement_printer.proofs.script.put_statements.Given as goal

-- what is missing so far
abbrev pub invariant-loop-statement : goal.invariant-loop-statement
invariant-loop-statement l = l.out.items ++ bytes_of (flat_map (statement_words l.tables) (drop l.statement-index l.statements)) ≡ l.fn.out.items ++ bytes_of (flat_map (statement_words l.tables) l.statements)
