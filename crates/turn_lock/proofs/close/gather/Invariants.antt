use Rattle.turn_lock.specs.Pass.{lock_id}
use Rattle.turn_lock.proofs.Gathering.{IsGathering}
use Rattle.turn_lock.proofs.close.gather.Given as goal

abbrev pub invariant-loop-pass : goal.invariant-loop-pass
invariant-loop-pass g l = IsGathering l.shared.table_id (lock_id l.shared.table_id l.shared.key.passes) l.fn.passes.items l.passes.items l.seat.table_id l.seat.me

abbrev pub decreases-loop-pass : goal.decreases-loop-pass
decreases-loop-pass g l = goal.left-loop-pass g l
