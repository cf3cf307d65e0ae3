use Rattle.std.proofs.Common.{◌≡◌, ◌≤◌, ◌++◌, drop}
use Rattle.statement_draft.specs.StatementEvents.{places_from}
use Rattle.statement_draft.proofs.statements.places.Given as goal

abbrev pub invariant-loop-at : goal.invariant-loop-at
invariant-loop-at l = record {
  few : l.at ≤ 32;
  same : l.places ++ places_from l.at (drop l.at l.columns) ≡ places_from 0 l.columns;
}
