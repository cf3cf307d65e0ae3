use Rattle.one_thread.proofs.Showing.{InSessions}
use Rattle.one_thread.proofs.answering.run_sessions.Given as goal

-- the sessions that are left show the rest
abbrev pub invariant-loop-i : goal.invariant-loop-i
invariant-loop-i l = InSessions l.script l.fn.world l.world l.fn.shown.items l.shown.items l.stamp l.i
