use Rattle.std.proofs.Common.{◌≡◌, ◌+◌, drop}
use Rattle.record_text.specs.Scaffold.Reading.{own_length}
use Rattle.record_text.proofs.entries.own_length.Given as goal

-- all so far are own, and what is left begins with the rest of them
abbrev pub invariant-loop-place : goal.invariant-loop-place
invariant-loop-place l = own_length l.ordinal l.log ≡ l.place + own_length l.ordinal (drop l.place l.log)
