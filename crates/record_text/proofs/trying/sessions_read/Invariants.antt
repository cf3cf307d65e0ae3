use Rattle.std.proofs.Common.{◌≡◌, ◌+◌, ◌++◌, drop}
use Rattle.record_text.specs.Scaffold.Reading.{sessions_read}
use Rattle.record_text.proofs.trying.sessions_read.Given as goal

-- the sessions that are left show the rest
abbrev pub invariant-loop-place : goal.invariant-loop-place
invariant-loop-place l = sessions_read l.script 1 l.script.sessions l.logs ≡ l.shown ++ sessions_read l.script (l.place + 1) (drop l.place l.script.sessions) (drop l.place l.logs)
