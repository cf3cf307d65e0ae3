use Rattle.std.proofs.Common.{◌≡◌, ◌*◌}
use Rattle.script_maker.specs.Making.{after, in_line, works}
use Rattle.script_maker.proofs.works.sessions.Given as goal

-- the sessions so far, and the draws that they took
abbrev pub invariant-loop-place : goal.invariant-loop-place
invariant-loop-place l = (l.sessions ≡ in_line 25 works l.place l.fn.draws.state) × (l.draws.state ≡ after (25 * l.place) l.fn.draws.state)
