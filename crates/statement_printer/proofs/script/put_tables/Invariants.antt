use Rattle.std.proofs.Common.{◌≡◌, ◌++◌, drop}
use Rattle.std.specs.Prelude.{flat_map}
use Rattle.statement_printer.specs.Bytes.{bytes_of}
use Rattle.statement_printer.specs.Printing.{table_words}
use Rattle.statement_printer.proofs.script.put_tables.Given as goal

-- what is missing so far
abbrev pub invariant-loop-table : goal.invariant-loop-table
invariant-loop-table l = l.out.items ++ bytes_of (flat_map table_words (drop l.table-index l.tables)) ≡ l.fn.out.items ++ bytes_of (flat_map table_words l.tables)
