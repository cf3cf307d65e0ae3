use Rattle.std.proofs.Common.{◌≡◌, ◌++◌, take}
use Rattle.one_thread.specs.Text.{table_text}
use Rattle.one_thread.proofs.printing.lines.put_table.Given as goal

-- the first line and the records so far
abbrev pub invariant-loop-row : goal.invariant-loop-row
invariant-loop-row l = l.out.items ≡ l.fn.out.items ++ table_text l.table (take l.row-index l.rows)
