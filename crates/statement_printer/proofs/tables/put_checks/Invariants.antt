use Rattle.std.proofs.Common.{◌≡◌, ◌++◌, drop}
use Rattle.std.specs.Prelude.{flat_map}
use Rattle.statement_printer.specs.Bytes.{bytes_of}
use Rattle.statement_printer.specs.Printing.{check_words}
use Rattle.statement_printer.proofs.tables.put_checks.Given as goal

-- what is missing so far
abbrev pub invariant-loop-check : goal.invariant-loop-check
invariant-loop-check l = l.out.items ++ bytes_of (flat_map (check_words l.columns) (drop l.check-index l.checks)) ≡ l.fn.out.items ++ bytes_of (flat_map (check_words l.columns) l.checks)
