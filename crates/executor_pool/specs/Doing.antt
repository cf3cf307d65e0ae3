-- What the jobs of a run need, and what they hand back.
use Rattle.std.specs.Prelude.{◌≡◌, ℕ, suc, List, None, Some, slice_get, replicate, true}
use Rattle.sql_base.specs.declared.scripts.Script.{Script}
use Rattle.driver_laws.specs.Carrying.{Telling}
use Rattle.requester_fs.specs.Asking.{Asking}
use Rattle.requester_fs.specs.Beginnings.{IsLater}
use Rattle.session_grammar.specs.declared.logs.LogEntry.{LogEntry}
use Rattle.turn_lock.specs.Pass.{LockId}
use Rattle.executor_pool.specs.Jobs.{HasEnded, JournalPass, KeepsMail}
use Rattle.executor_pool.specs.Sessions.{Goes, IsSession, IsTold, seen}
use Rattle.executor_pool.specs.Tokens.{IsAt, IsSameServer}
use Rattle.executor_pool.specs.declared.jobs.Done.{Done}
use Rattle.executor_pool.specs.declared.jobs.Done.TheVariants as done
use Rattle.executor_pool.specs.declared.jobs.Job.{Job}
use Rattle.executor_pool.specs.declared.jobs.Job.TheVariants as job
use Rattle.executor_pool.specs.declared.processes.DiskProcess.{DiskProcess}
use Rattle.executor_pool.specs.declared.sessions.SessionJob.{SessionJob}
use Rattle.executor_pool.specs.declared.tokens.Tokens.{Tokens}

-- what a job needs of the partitions and the journal that it works with
abbrev pub IsJob : {Q W : Type 0} → (Q → Asking) → (Q → Type 0) → List DiskProcess → LockId → Job Q W → Type 0
IsJob asking single processes journal (job.Session s wire ticket) = ((script : Script) × IsSession script processes journal (seen asking s)) × single s.requester
IsJob asking single processes journal (job.Server s) = IsAt processes s

-- a session that has worked to its end, over a wire that told this as it was handed in
pub record HasWorked {Q : Type 0} (asking : Q → Asking) (single : Q → Type 0) (allows : Q → List LogEntry → Type 0) (processes : List DiskProcess) (journal : LockId) (now : Telling) (before after : SessionJob Q) : Type 0 where
  pub goes : Goes processes journal (seen asking before) (seen asking after)
  pub later : IsLater single allows before.requester after.requester
  pub ended : HasEnded (asking after.requester) after.tokens.items after.commits after.stop
  pub told : (told : Telling) → IsTold told now (replicate before.losses true) (asking before.requester).log → after.stop ≡ None
      → (then : Telling) × IsTold told then (replicate after.losses true) (asking after.requester).log

-- what is handed back of a job
abbrev pub IsDone : {Q W : Type 0} → (Q → Asking) → (Q → Type 0) → (Q → List LogEntry → Type 0) → (W → Telling) → List DiskProcess → LockId → Job Q W → Done Q → Type 0
IsDone asking single allows tell processes journal (job.Session before wire ticket) (done.Session after) = HasWorked asking single allows processes journal (tell wire) before after
IsDone asking single allows tell processes journal (job.Session before wire ticket) (done.Server after) = ⊥
IsDone asking single allows tell processes journal (job.Server before) (done.Session after) = ⊥
IsDone asking single allows tell processes journal (job.Server before) (done.Server after) = IsSameServer before after × (KeepsMail before → KeepsMail after)

-- the session's job at a place as it begins, by requesters, what wires tell, tokens and passes in the order of the sessions
pub record Begins {Q W : Type 0} (tell : W → Telling) (requesters : List Q) (told : List Telling) (rows : List (List Tokens)) (passes : List JournalPass) (at : ℕ) (s : SessionJob Q) (w : W) : Type 0 where
  pub number : s.number ≡ suc at
  pub requester : slice_get requesters at ≡ Some s.requester
  pub losses : s.losses ≡ 0
  pub stop : s.stop ≡ None
  pub tokens : slice_get rows at ≡ Some s.tokens.items
  pub commits : slice_get passes at ≡ Some s.commits
  pub wire : slice_get told at ≡ Some (tell w)

abbrev pub IsBegun : {Q W : Type 0} → (W → Telling) → List Q → List Telling → List (List Tokens) → List JournalPass → ℕ → Job Q W → Type 0
IsBegun tell requesters told rows commits at (job.Session s wire ticket) = Begins tell requesters told rows commits at s wire
IsBegun tell requesters told rows commits at (job.Server s) = ⊥
