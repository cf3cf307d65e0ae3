use Rattle.std.proofs.Common.{◌≡◌, ◌++◌, drop, map}
use Rattle.statement_draft.proofs.keys.kinds_of.Given as goal

abbrev pub invariant-loop-column : goal.invariant-loop-column
invariant-loop-column l = l.found ++ map (λ column. column.kind) (drop l.column-index l.columns) ≡ map (λ column. column.kind) l.columns
