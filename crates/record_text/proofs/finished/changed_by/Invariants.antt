use Rattle.std.proofs.Common.{◌≡◌, ◌≤◌, ◌*◌, ◌^◌, map, take}
use Rattle.std.specs.Prelude.{sum}
use Rattle.run_record.specs.Serial.{entry_changed}
use Rattle.record_text.proofs.finished.changed_by.Given as goal

-- the count of the entries so far, each of which has fewer than 2^32
abbrev pub invariant-loop-entry : goal.invariant-loop-entry
invariant-loop-entry l = (l.count ≡ sum (map entry_changed (take l.entry-index l.entries))) × (l.count ≤ l.entry-index * 2 ^ 32)
