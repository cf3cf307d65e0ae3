use Rattle.std.proofs.Common.{◌≡◌, None, drop}
use Rattle.record_text.specs.Scaffold.Reading.{last_failure}
use Rattle.record_text.proofs.endings.last_failure.Given as goal

-- with what is found so far, what is left decides
abbrev pub invariant-loop-entry : goal.invariant-loop-entry
invariant-loop-entry l = last_failure l.part None l.entries ≡ last_failure l.part l.found (drop l.entry-index l.entries)
