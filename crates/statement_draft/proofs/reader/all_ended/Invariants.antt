use Rattle.std.proofs.Common.{◌≡◌, drop}
use Rattle.statement_draft.specs.Judging.{all_ended}
use Rattle.statement_draft.proofs.reader.all_ended.Given as goal

abbrev pub invariant-loop-end : goal.invariant-loop-end
invariant-loop-end g l = all_ended (drop l.end-index l.ends) l.draft ≡ all_ended l.ends l.fn.draft
