-- What the jobs of a run leave, once all of them have ended and their tokens are brought together.
use Rattle.std.specs.Prelude.{◌≡◌, ◌<◌, ℕ, suc, List, [], ◌++◌, length, map, slice_get, Some, None, Contains}
use Rattle.std.specs.List.{AllByRecursion, AllZip, flat_map}
use mathlib.Core.List.{IsPrefix}
use Rattle.sql_base.specs.Scripts.{IsScript}
use Rattle.sql_base.specs.declared.scripts.Script.{Script}
use Rattle.commit_journal.specs.Journal.{StampsRise}
use Rattle.partition_state.specs.History.{IsLegal}
use Rattle.partition_state.specs.declared.entries.Entry.{Entry}
use Rattle.driver_laws.specs.Carrying.{Telling}
use Rattle.run_record.specs.Openings.{history_of, openings}
use Rattle.run_record.specs.declared.records.RunRecord.{RunRecord}
use Rattle.session_grammar.specs.UnderWay.{UnderWay}
use Rattle.turn_lock.specs.Pass.{IsMadeOf, StandIn}
use Rattle.executor_pool.specs.Jobs.{AtWork, HasEnded, KeepsMail}
use Rattle.executor_pool.specs.Sessions.{IsTold, Session}
use Rattle.executor_pool.specs.declared.tokens.Server.{Server}
use Rattle.executor_pool.specs.declared.tokens.Tokens.{Tokens}

-- the history of a partition, and the tokens to it: its entries are just those that the passes added, it begins with what each has seen,
-- and each message that was taken from its mail was posted
pub record IsJoined (sessions : List Session) (part : ℕ) (history : List Entry) : Type 0 where
  pub held : List Tokens
  pub servers : List Server
  pub of_sessions : AllZip (λ s t. slice_get s.tokens part ≡ Some t) sessions held
  pub of_servers : AllByRecursion KeepsMail servers
  pub made : IsMadeOf history (map (λ t. t.pass) held ++ map (λ s. s.pass) servers)
  pub begins : AllByRecursion (λ t. IsPrefix t.pass.seen history) held
  pub posted : AllByRecursion (Contains (flat_map (λ t. t.poster.posted) held)) (flat_map (λ t. t.taker.taken) held ++ flat_map (λ s. s.taker.taken) servers)

-- the record of a run by threads, and its sessions as their jobs handed them back; the wires told so as they were handed in
pub record IsPooled (script : Script) (told : List Telling) (kept : RunRecord) (sessions : List Session) : Type 0 where
  pub script_runs : IsScript script
  pub many : length sessions ≡ length script.sessions
  pub work : (at : ℕ) (s : Session) → slice_get sessions at ≡ Some s → AtWork script (suc at) s.asking s.tokens s.commits
  pub carried : (at : ℕ) (s : Session) (t : Telling) → slice_get sessions at ≡ Some s → slice_get told at ≡ Some t → s.stop ≡ None → (now : Telling) × IsTold t now [] s.asking.log
  pub over : AllByRecursion (λ s. HasEnded s.asking s.tokens s.commits s.stop) sessions
  pub no_acts : kept.acts ≡ []
  pub logs : kept.logs ≡ map (λ s. s.asking.log) sessions
  pub at_each : AllByRecursion (λ s. length s.tokens ≡ length kept.histories) sessions
  pub histories_replay : AllZip IsLegal (openings script) kept.histories
  pub parts : (part : ℕ) → part < length kept.histories → IsJoined sessions part (history_of kept part)
  pub stamps_rise : StampsRise 0 kept.journal
  pub journal_made : IsMadeOf kept.journal (map (λ s. s.commits) sessions)
  pub journal_begins : AllByRecursion (λ s. IsPrefix s.commits.seen kept.journal) sessions
  pub journal_order : AllByRecursion (λ s. StandIn s.commits.mine s.commits.seen) sessions

-- what each session has under way, counted from 1
abbrev pub ways_of : List Session → List UnderWay
ways_of sessions = map (λ s. s.asking.way) sessions
