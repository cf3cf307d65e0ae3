use Rattle.std.proofs.Common.{◌≡◌, take}
use Rattle.record_text.specs.Scaffold.Giving.{rows_for}
use Rattle.record_text.proofs.finished.rows_of.Given as goal

-- the rows of the partitions so far
abbrev pub invariant-loop-sent : goal.invariant-loop-sent
invariant-loop-sent l = l.rows ≡ rows_for (take l.sent-index l.sents) l.entries
