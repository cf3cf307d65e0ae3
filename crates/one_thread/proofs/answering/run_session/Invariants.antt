use Rattle.one_thread.proofs.Showing.{InSession}
use Rattle.one_thread.proofs.answering.run_session.Given as goal

-- the transactions that are left show the rest
abbrev pub invariant-loop-i : goal.invariant-loop-i
invariant-loop-i l = InSession l.tables l.works l.session l.first_stamp l.fn.world l.world l.fn.shown.items l.shown.items l.stamp l.i
