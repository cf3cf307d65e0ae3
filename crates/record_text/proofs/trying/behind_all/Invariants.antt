use Rattle.std.proofs.Common.{◌≡◌, ◌+◌, ◌-◌}
use Rattle.record_text.specs.Scaffold.Reading.{behind_all}
use Rattle.record_text.proofs.trying.behind_all.Given as goal

-- the attempts that are left stand at the front of the rest
abbrev pub invariant-loop-place : goal.invariant-loop-place
invariant-loop-place l = behind_all l.ordinal l.many l.log ≡ behind_all (l.ordinal + l.place) (l.many - l.place) l.rest
