use Rattle.std.proofs.Common.{◌≡◌, ◌++◌, length, drop}
use Rattle.one_thread.specs.Text.{tables_text}
use Rattle.one_thread.proofs.printing.put_tables.Given as goal

-- the tables that are left are all that is missing
abbrev pub invariant-loop-table : goal.invariant-loop-table
invariant-loop-table l = l.out.items ++ tables_text (drop (length l.yielded) l.tables) (drop (length l.yielded) l.records) ≡ l.fn.out.items ++ tables_text l.tables l.records
