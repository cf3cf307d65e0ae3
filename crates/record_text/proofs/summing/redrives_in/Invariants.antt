use Rattle.std.proofs.Common.{◌≡◌, ◌≤◌, take}
use Rattle.record_text.specs.Summary.{entries_with, is_redrive}
use Rattle.record_text.proofs.summing.redrives_in.Given as goal

-- those of the entries so far
abbrev pub invariant-loop-entry : goal.invariant-loop-entry
invariant-loop-entry l = (l.count ≡ entries_with is_redrive (take l.entry-index l.history)) × (l.count ≤ l.entry-index)
