use Rattle.std.proofs.Common.{◌≡◌, ◌*◌}
use Rattle.script_maker.specs.Making.{after, in_line, statement}
use Rattle.script_maker.proofs.works.statements.Given as goal

-- the statements so far, and the draws that they took
abbrev pub invariant-loop-place : goal.invariant-loop-place
invariant-loop-place l = (l.statements ≡ in_line 2 (statement l.session l.work) l.place l.fn.draws.state) × (l.draws.state ≡ after (2 * l.place) l.fn.draws.state)
