-- A session waits for a reply: its tokens change, and nothing else of it does.
use Rattle.std.proofs.Common.{ℕ, List, refl, ap, sym, ◌∙◌, subst}
use Rattle.sql_base.specs.declared.scripts.Script.{Script}
use Rattle.requester_fs.specs.Asking.{Asking}
use Rattle.turn_lock.specs.Pass.{LockId}
use Rattle.executor_pool.specs.Sessions.{ChangesTokens, Goes, HearsAt, IsAwaited, IsSession, seen}
use Rattle.executor_pool.specs.declared.processes.DiskProcess.{DiskProcess}
use Rattle.executor_pool.specs.declared.sessions.SessionJob.{SessionJob}
use Rattle.executor_pool.specs.declared.tokens.Heard.{Heard}
use Rattle.executor_pool.proofs.Stepping.{goes_after, goes_still}

module _ {Q : Type 0} (asking : Q → Asking) (processes : List DiskProcess) (journal : LockId) where
  pub record HasWaited (start now : SessionJob Q) : Type 0 where
    pub rest : ChangesTokens start now
    pub goes : Goes processes journal (seen asking start) (seen asking now)

  pub waits_still : (start : SessionJob Q) → HasWaited start start
  waits_still start = record { rest = refl; goes = goes_still processes journal (seen asking start) }

  pub waits_on : (start now after : SessionJob Q) → HasWaited start now → ChangesTokens now after → Goes processes journal (seen asking now) (seen asking after) → HasWaited start after
  waits_on start now after h rest goes =
      record {
        rest = rest ∙ ap (λ (j : SessionJob Q). record j { tokens = after.tokens }) h.rest;
        goes = goes_after processes journal (seen asking start) (seen asking now) (seen asking after) h.goes goes;
      }

  module _ (start now : SessionJob Q) (h : HasWaited start now) where
    pub session_still : (session : (script : Script) × IsSession script processes journal (seen asking start)) → (script : Script) × IsSession script processes journal (seen asking now)
    session_still session = (session.0, (h.goes session.0 session.1).0)

    pub awaited_still : (part sync : ℕ) → IsAwaited (seen asking start) part sync → IsAwaited (seen asking now) part sync
    awaited_still part sync awaits = subst (λ (j : SessionJob Q). IsAwaited (seen asking j) part sync) (sym h.rest) awaits

-- what it heard there is heard by the session as it then is
pub heard_still : {Q : Type 0} (asking : Q → Asking) (before now : SessionJob Q) (part sync : ℕ) (heard : Heard) → ChangesTokens before now → HearsAt now.tokens.items part before.number sync heard → HearsAt (seen asking now).tokens part (seen asking now).number sync heard
heard_still {Q} asking before now part sync heard rest h = subst (λ (n : ℕ). HearsAt now.tokens.items part n sync heard) (sym (ap (λ (j : SessionJob Q). j.number) rest)) h
