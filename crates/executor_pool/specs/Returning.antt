-- The sessions and servers of a run as they come back from its jobs.
use Rattle.std.specs.Prelude.{◌≡◌, ℕ, suc, List, [], length, map, slice_get, Some, None, replicate, true}
use Rattle.std.specs.List.{AllByRecursion, AllZip}
use Rattle.sql_base.specs.Scripts.{IsScript}
use Rattle.sql_base.specs.declared.scripts.Script.{Script}
use Rattle.driver_laws.specs.Carrying.{AllCarried, Telling}
use Rattle.requester_fs.specs.Asking.{Asking}
use Rattle.requester_fs.specs.Beginnings.{EachAt, IsLater}
use Rattle.run_record.specs.Legal.{Legal}
use Rattle.run_record.specs.Openings.{openings}
use Rattle.run_record.specs.declared.records.RunRecord.{RunRecord}
use Rattle.session_grammar.specs.declared.logs.LogEntry.{LogEntry}
use Rattle.turn_lock.specs.Pass.{LockId, new_pass}
use Rattle.executor_pool.specs.Closing.{HasServed}
use Rattle.executor_pool.specs.Dealing.{IsMadeFor, Opened, servers_from, tokens_to}
use Rattle.executor_pool.specs.Jobs.{HasEnded}
use Rattle.executor_pool.specs.Sessions.{IsSession, IsTold, StillCommits, seen}
use Rattle.executor_pool.specs.Tokens.{AreSame}
use Rattle.executor_pool.specs.declared.processes.Crew.{Crew}
use Rattle.executor_pool.specs.declared.processes.DiskProcess.{DiskProcess}
use Rattle.executor_pool.specs.declared.returned.Returned.{Returned}
use Rattle.executor_pool.specs.declared.sessions.SessionJob.{SessionJob}

-- a run of a script by these requesters, over wires that tell so, with these partitions, journal and crew
pub record Run (Q : Type 0) : Type 0 where
  pub script : Script
  pub requesters : List Q
  pub told : List Telling
  pub crew : Crew
  pub opened : List Opened
  pub journal : LockId

-- its script is one, its partitions are those of the script, and a session has one place in the journal
pub record IsSet {Q : Type 0} (run : Run Q) : Type 0 where
  pub is_script : IsScript run.script
  pub openings_are : map (λ o. o.opening) run.opened ≡ openings run.script
  pub sessions : length run.script.sessions ≡ run.crew.sessions
  pub made_for : AllByRecursion (IsMadeFor run.crew) run.opened
  pub passes : run.journal.passes ≡ run.crew.sessions

-- the session at a place, which has ended
pub record IsBack {Q : Type 0} (asking : Q → Asking) (single : Q → Type 0) (allows : Q → List LogEntry → Type 0) (run : Run Q) (processes : List DiskProcess) (at : ℕ) (s : SessionJob Q) : Type 0 where
  pub number : s.number ≡ suc at
  pub session : IsSession run.script processes run.journal (seen asking s)
  pub tokens : AllZip AreSame (map (tokens_to at) run.opened) s.tokens.items
  pub commits : StillCommits (new_pass run.journal (tt {0}) at) s.commits
  pub ended : HasEnded (asking s.requester) s.tokens.items s.commits s.stop
  pub told : (t : Telling) → slice_get run.told at ≡ Some t → s.stop ≡ None → (now : Telling) × IsTold t now (replicate s.losses true) (asking s.requester).log
  pub first : Q
  pub first_is : slice_get run.requesters at ≡ Some first
  pub later : IsLater single allows first s.requester

-- all of them, and all servers
pub record AreBack {Q : Type 0} (asking : Q → Asking) (single : Q → Type 0) (allows : Q → List LogEntry → Type 0) (run : Run Q) (processes : List DiskProcess) (r : Returned Q) : Type 0 where
  pub set : IsSet run
  pub processes_are : processes ≡ map (λ o. o.process) run.opened
  pub sessions : EachAt (IsBack asking single allows run processes) r.sessions.items
  pub many : length r.sessions.items ≡ run.crew.sessions
  pub requesters : length run.requesters ≡ run.crew.sessions
  pub servers : AllZip HasServed (servers_from run.crew 0 run.opened) r.servers.items

-- what is kept of a run: a legal record with the logs that its requesters allow, in which just those messages were lost of which the wires told so
pub record IsKept {Q : Type 0} (allows : Q → List LogEntry → Type 0) (run : Run Q) (kept : RunRecord) : Type 0 where
  pub legal : Legal run.script kept
  pub carried : AllCarried run.told kept
  pub allowed : AllZip allows run.requesters kept.logs
  pub no_acts : kept.acts ≡ []
