use Rattle.std.proofs.Common.{◌≡◌, ◌+◌, drop}
use Rattle.record_text.specs.Scaffold.Reading.{part_length}
use Rattle.record_text.proofs.finished.part_length.Given as goal

-- what is left begins with the rest of the part
abbrev pub invariant-loop-place : goal.invariant-loop-place
invariant-loop-place l = part_length l.many l.entries ≡ l.place + part_length l.left (drop l.place l.entries)
