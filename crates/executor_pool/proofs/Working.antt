-- A session does one thing after the other, until it has ended.
use Rattle.std.proofs.Common.{◌≡◌, ◌++◌, ◌∷◌, List, [], replicate, Bool, Some, None, true, false, refl, sym, subst}
use Rattle.std.specs.Prelude.{◌==◌, if◌then◌else◌}
use Rattle.outside.specs.Wire.{Answers, is_loss}
use Rattle.outside.specs.declared.wire.Passage.{Passage}
use Rattle.sql_base.specs.declared.scripts.Script.{Script}
use Rattle.session_grammar.specs.UnderWay.{Awaiting, Drawing, UnderWay}
use Rattle.session_grammar.specs.declared.logs.LogEntry.{LogEntry}
use Rattle.requester_fs.specs.Asking.{Asking, next_at}
use Rattle.driver_laws.specs.Carrying.{Telling}
use Rattle.turn_lock.specs.Pass.{LockId}
use Rattle.executor_pool.specs.Jobs.{HasEnded}
use Rattle.executor_pool.specs.Sessions.{Goes, IsSession, IsTold, Session, TellsOn, seen, turn_of, turn_to}
use Rattle.requester_fs.specs.Beginnings.{IsLater}
use Rattle.executor_pool.specs.declared.processes.DiskProcess.{DiskProcess}
use Rattle.executor_pool.specs.declared.sessions.SessionJob.{SessionJob}
use Rattle.executor_pool.specs.declared.sessions.Stop.{Stop}
use Rattle.executor_pool.specs.declared.sessions.Turn.TheVariants.{Rest, Send, ServeByHand}
use Rattle.executor_pool.proofs.Stepping.{goes_after, goes_still}
use Rattle.executor_pool.proofs.Told.{told_sent}

-- what rests has nothing under way
pub rests : (s : Session) → turn_of s ≡ Rest → s.asking.way ≡ Awaiting []
rests s turn = by_way s.asking.way turn
  where
    by_test : (b : Bool) → (if b then ServeByHand else Send) ≡ Rest → ⊥
    by_test true h = absurd (cc h)
    by_test false h = absurd (cc h)

    by_way : (way : UnderWay) → turn_to s.losses (next_at way 0) ≡ Rest → way ≡ Awaiting []
    by_way (Awaiting []) h = refl
    by_way (Awaiting (r ∷ sends)) h = absurd (by_test (s.losses == 4) h)
    by_way (Drawing name floor) h = absurd (cc h)

-- a session that goes on so far has ended where something stopped it, or where it rests
module _ (processes : List DiskProcess) (journal : LockId) (start now : Session) (goes : Goes processes journal start now) (session : (script : Script) × IsSession script processes journal start) where
  pub ended_stopped : (stop : Stop) → now.stop ≡ Some stop → HasEnded now.asking now.tokens now.commits now.stop
  ended_stopped stop is = subst (HasEnded now.asking now.tokens now.commits) (sym is) ((goes session.0 session.1).0.stops stop is)

  pub ended_resting : now.stop ≡ None → turn_of now ≡ Rest → HasEnded now.asking now.tokens now.commits now.stop
  ended_resting going turn = subst (HasEnded now.asking now.tokens now.commits) (sym going) (rests now turn)

  pub session_now : (script : Script) × IsSession script processes journal now
  session_now = (session.0, (goes session.0 session.1).0)

-- of what its wire told before, a step makes this
abbrev pub Tells : Session → Telling → Session → Telling → Type 0
Tells before wire after wire_after = (told : Telling) → IsTold told wire (replicate before.losses true) before.asking.log → after.stop ≡ None → IsTold told wire_after (replicate after.losses true) after.asking.log

module _ {Q : Type 0} (asking : Q → Asking) (single : Q → Type 0) (allows : Q → List LogEntry → Type 0) (processes : List DiskProcess) (journal : LockId) (start : SessionJob Q) (wire : Telling) where
  pub record IsWorking (now : SessionJob Q) (wire_now : Telling) : Type 0 where
    pub goes : Goes processes journal (seen asking start) (seen asking now)
    pub later : IsLater single allows start.requester now.requester
    pub told : Tells (seen asking start) wire (seen asking now) wire_now

  pub worked_still : IsWorking start wire
  worked_still = record { goes = goes_still processes journal (seen asking start); later = record { single_still = λ s. s; allowed = λ log a. a }; told = λ told is_told going. is_told }

  pub worked_on : (now after : SessionJob Q) (wire_now wire_after : Telling) → IsWorking now wire_now → now.stop ≡ None → Goes processes journal (seen asking now) (seen asking after) → IsLater single allows now.requester after.requester
      → Tells (seen asking now) wire_now (seen asking after) wire_after → IsWorking after wire_after
  worked_on now after wire_now wire_after h going goes later tells =
      record {
        goes = goes_after processes journal (seen asking start) (seen asking now) (seen asking after) h.goes goes;
        later = record { single_still = λ s. later.single_still (h.later.single_still s); allowed = λ log a. h.later.allowed log (later.allowed log a) };
        told = λ told is_told still. tells told (h.told told is_told going) still;
      }

-- what the wire told is told of the request under way
pub sent_tells : (s after : Session) (wire wire_after : Telling) (p : Passage) → Answers wire.first wire.round p wire_after.first → wire_after.round ≡ wire.round → TellsOn (replicate s.losses true ++ is_loss p ∷ []) s after → Tells s wire after wire_after
sent_tells s after wire wire_after p answers round tells told is_told still = tells told wire_after (told_sent told wire wire_after (replicate s.losses true) s.asking.log p is_told answers round) still

pub quiet_tells : (s after : Session) (wire : Telling) → TellsOn (replicate s.losses true) s after → Tells s wire after wire
quiet_tells s after wire tells told = tells told wire
