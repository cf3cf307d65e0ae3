use Rattle.std.proofs.Common.{◌≡◌, drop}
use Rattle.commit_journal.specs.Journal.{drawn_for}
use Rattle.commit_journal.proofs.journals.drawn_for.Given as goal

-- none of those before is the transaction's
abbrev pub invariant-loop-drawn : goal.invariant-loop-drawn
invariant-loop-drawn l = drawn_for l.name l.journal ≡ drawn_for l.name (drop l.drawn-index l.journal)
