use Rattle.std.proofs.Common.{◌≡◌, ◌≤◌, drop}
use Rattle.statement_draft.specs.Names.{column_from, column_named}
use Rattle.statement_draft.proofs.names.column_named.Given as goal

abbrev pub invariant-loop-column : goal.invariant-loop-column
invariant-loop-column l = record {
  few : l.at ≤ 32;
  same : column_from l.at (drop l.column-index l.columns) l.name ≡ column_named l.columns l.name;
}
