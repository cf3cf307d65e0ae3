use Rattle.std.proofs.Common.{◌≡◌, drop}
use Rattle.statement_draft.specs.StatementEvents.{selected_from, selected}
use Rattle.statement_draft.proofs.statements.selected.Given as goal

abbrev pub invariant-loop-name : goal.invariant-loop-name
invariant-loop-name l = selected_from l.columns (drop l.name-index l.names) (record { columns = l.chosen; first = l.first }) ≡ selected l.columns l.names l.fn.first
