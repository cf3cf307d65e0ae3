use Rattle.std.proofs.Common.{◌≡◌, ◌≤◌, ◌+◌, drop, min}
use Rattle.sql_base.specs.Scripts.{parts_of}
use Rattle.statement_draft.proofs.tables.parts_up.Given as goal

abbrev pub invariant-loop-table : goal.invariant-loop-table
invariant-loop-table l = record {
  few : l.parts ≤ 17;
  same : min 17 (l.parts + parts_of (drop l.table-index l.tables)) ≡ min 17 (parts_of l.tables);
}
