use Rattle.std.proofs.Common.{◌≡◌, ◌+◌, ◌*◌}
use Rattle.script_maker.specs.Making.{after, in_line, work}
use Rattle.script_maker.proofs.works.works.Given as goal

-- the works so far, and the draws that they took
abbrev pub invariant-loop-at : goal.invariant-loop-at
invariant-loop-at l = (l.works ≡ in_line 5 (work (l.place + 1)) l.at l.fn.draws.state) × (l.draws.state ≡ after (5 * l.at) l.fn.draws.state)
