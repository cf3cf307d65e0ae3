use Rattle.std.proofs.Common.{◌≡◌, ◌++◌, drop}
use Rattle.record_text.specs.Summary.{table_lines}
use Rattle.record_text.proofs.summing.put_tables.Given as goal

-- the tables that are left have the lines that are missing
abbrev pub invariant-loop-table : goal.invariant-loop-table
invariant-loop-table l = l.out.items ++ table_lines (drop l.table-index l.tables) l.rest ≡ l.fn.out.items ++ table_lines l.tables l.records
