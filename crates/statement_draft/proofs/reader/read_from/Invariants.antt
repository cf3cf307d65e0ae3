use Rattle.std.proofs.Common.{◌≡◌, drop}
use Rattle.statement_draft.specs.Judging.{read_from}
use Rattle.statement_draft.proofs.reader.read_from.Given as goal

abbrev pub invariant-loop-token : goal.invariant-loop-token
invariant-loop-token g l = read_from l.stack l.draft (drop l.token-index l.tokens) l.at ≡ read_from l.fn.stack l.fn.draft l.tokens l.at
