use Rattle.std.proofs.Common.{◌≡◌, ◌++◌, drop}
use Rattle.std.specs.Prelude.{flat_map}
use Rattle.statement_printer.specs.Bytes.{bytes_of}
use Rattle.statement_printer.specs.Printing.{declared_words}
use Rattle.statement_printer.proofs.tables.put_all_declared.Given as goal

-- what is missing so far
abbrev pub invariant-loop-column : goal.invariant-loop-column
invariant-loop-column l = l.out.items ++ bytes_of (flat_map declared_words (drop l.column-index l.columns)) ≡ l.fn.out.items ++ bytes_of (flat_map declared_words l.columns)
