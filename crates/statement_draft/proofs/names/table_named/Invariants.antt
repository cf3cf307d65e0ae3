use Rattle.std.proofs.Common.{◌≡◌, ◌≤◌, drop}
use Rattle.statement_draft.specs.Names.{table_from, table_named}
use Rattle.statement_draft.proofs.names.table_named.Given as goal

abbrev pub invariant-loop-table : goal.invariant-loop-table
invariant-loop-table l = record {
  few : l.at ≤ 4;
  same : table_from l.at (drop l.table-index l.tables) l.name ≡ table_named l.tables l.name;
}
