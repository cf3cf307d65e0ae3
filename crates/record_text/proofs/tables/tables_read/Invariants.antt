use Rattle.std.proofs.Common.{◌≡◌, ◌++◌, drop}
use Rattle.record_text.specs.Scaffold.Reading.{tables_read}
use Rattle.record_text.proofs.tables.tables_read.Given as goal

-- the tables that are left have the rest
abbrev pub invariant-loop-table : goal.invariant-loop-table
invariant-loop-table l = tables_read l.tables l.parts ≡ l.read ++ tables_read (drop l.table-index l.tables) l.rest
