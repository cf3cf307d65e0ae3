use Rattle.record_text.proofs.Loops.{InSession}
use Rattle.record_text.proofs.trying.push_session.Given as goal

-- the transactions that are left show the rest
abbrev pub invariant-loop-work : goal.invariant-loop-work
invariant-loop-work l = InSession l.script l.session l.works l.log l.fn.shown l.shown l.ordinal l.rest l.work-index
