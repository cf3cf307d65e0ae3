-- Which records are those of a run of the script.
use Rattle.std.specs.Prelude.{◌≡◌, ◌≤◌, ◌<◌, ℕ, ◌==◌, List, [], ◌∷◌, length, map, filter, filter_map, find, flat_map, Option, Some, None, true, ◌↔◌, ◌⊎◌, Contains}
use Rattle.std.specs.List.{AllZip, AllByRecursion, last_or}
use Rattle.sql_base.specs.Locks.{same_txn}
use Rattle.sql_base.specs.declared.outcomes.Outcome.TheVariants.{Committed}
use Rattle.sql_base.specs.Scripts.{IsScript, Lies}
use Rattle.sql_base.specs.Tables.{all_differ}
use Rattle.partition_state.specs.History.{IsLegal}
use Rattle.session_grammar.specs.Rows.{is_for}
use Rattle.session_grammar.specs.Follows.{Attempt, Reads, IsPart, follows, asker, works_of}
use Rattle.run_record.specs.Openings.{by_part, openings, history_of, log_of, rows_left}
use Rattle.partition_state.specs.Commits.{is_of, name_of}
use Rattle.commit_journal.specs.Journal.{StampsRise}
use Rattle.sql_base.specs.declared.lock_names.TxnName.{TxnName}
use Rattle.sql_base.specs.declared.scripts.Script.{Script}
use Rattle.commit_journal.specs.declared.Drawn.{Drawn}
use Rattle.dp_messages.specs.declared.replies.Reply.TheVariants as reply
use Rattle.dp_messages.specs.declared.requests.Ask.{Ask}
use Rattle.dp_messages.specs.declared.requests.Ask.TheVariants.{EndCommit, EndUndo}
use Rattle.dp_messages.specs.declared.requests.Request.{Request}
use Rattle.partition_state.specs.declared.entries.Entry.{Entry}
use Rattle.session_grammar.specs.declared.logs.Answer.TheVariants.{PathFailed, Reply, Stamp}
use Rattle.session_grammar.specs.declared.logs.LogEntry.{LogEntry}
use Rattle.session_grammar.specs.declared.logs.LogEntry.TheVariants.{Asked, Drew}
use Rattle.run_record.specs.declared.records.RunRecord.{RunRecord}

-- the stamps that a log drew, with their floors
abbrev pub drawn_by : LogEntry → Option Drawn
drawn_by (Drew name floor (Stamp stamp)) = Some (record { name = name; floor = floor; stamp = stamp })
drawn_by entry = None

abbrev pub drawn_in : List LogEntry → List Drawn
drawn_in log = filter_map drawn_by log

abbrev pub StampsOfLogRise : List Drawn → Type 0
StampsOfLogRise [] = Unit {0}
StampsOfLogRise (d ∷ []) = Unit {0}
StampsOfLogRise (d ∷ e ∷ ds) = (d.stamp < e.stamp) × StampsOfLogRise (e ∷ ds)

-- the journal holds just what the logs drew, each transaction once, above its floor
pub record StampsDrawn (kept : RunRecord) : Type 0 where
  pub rise : StampsRise 0 kept.journal
  pub once : all_differ same_txn (map (λ d. d.name) kept.journal) ≡ true
  pub drawn : (d : Drawn) → Contains kept.journal d ↔ Contains (flat_map drawn_in kept.logs) d
  pub in_order : AllByRecursion (λ log. StampsOfLogRise (drawn_in log)) kept.logs

-- the entries of an opener in a history are those that its log asked of the partition, in their order and with their replies;
-- a request whose path failed may have its entry, with any reply, or none
abbrev pub IsServed : Entry → ℕ → Request → Type 0
IsServed e sync request = (e.sync ≡ sync) × (e.request ≡ request)

abbrev pub AreServed : List LogEntry → List Entry → Type 0
AreServed [] es = es ≡ []
AreServed (Asked part sync request losses (Reply r) ∷ log) [] = ⊥
AreServed (Asked part sync request losses (Reply r) ∷ log) (e ∷ es) = IsServed e sync request × (e.reply ≡ r) × AreServed log es
AreServed (Asked part sync request losses PathFailed ∷ log) [] = AreServed log []
AreServed (Asked part sync request losses PathFailed ∷ log) (e ∷ es) = AreServed log (e ∷ es) ⊎ (IsServed e sync request × AreServed log es)
-- a stamp is drawn, and never the answer of a partition
AreServed (Asked part sync request losses (Stamp stamp) ∷ log) es = ⊥
AreServed (Drew name floor answer ∷ log) es = AreServed log es

-- every history has just the entries that the sessions asked
pub record EntriesAsked (script : Script) (kept : RunRecord) : Type 0 where
  pub openers : AllByRecursion (λ history. AllByRecursion (λ e. Lies 1 (length script.sessions) e.opener) history) kept.histories
  pub served : (part session : ℕ) → part < length kept.histories → Lies 1 (length script.sessions) session
      → AreServed (filter (is_for part) (log_of kept session)) (filter (λ e. e.opener == session) (history_of kept part))

-- the last thing that the attempt asked of the partition
abbrev pub last_ask : TxnName → List Entry → Option Ask
last_ask t history = last_or None (map (λ e. e.request.ask) (filter (is_of t) history))

abbrev pub NoCommit : TxnName → List Entry → Type 0
NoCommit t history = (stamp : ℕ) (e : Entry) → Contains (filter (is_of t) history) e → e.request.ask ≡ EndCommit stamp → ⊥

-- where the attempt left an entry, it ended by commit with its stamp if it is in the journal, and else by undo
abbrev pub EndsBy : TxnName → List Entry → Option Drawn → Type 0
EndsBy t history (Some d) = last_ask t history ≡ Some (EndCommit d.stamp)
EndsBy t history None = (last_ask t history ≡ Some EndUndo) × NoCommit t history

abbrev pub in_journal : RunRecord → TxnName → Option Drawn
in_journal kept t = find (λ d. same_txn d.name t) kept.journal

-- the claim holds of an attempt that a reading of the session's log shows
abbrev pub ForAttempt : Script → RunRecord → ℕ → List Attempt → Attempt → Type 0 → Type 0
ForAttempt script kept session attempts a Claim =
    Lies 1 (length script.sessions) session → Reads IsPart (asker script session) (works_of script session) (log_of kept session) attempts → Contains attempts a → Claim

pub record AttemptsEnded (script : Script) (kept : RunRecord) : Type 0 where
  pub ends : AllByRecursion (λ history. AllByRecursion (λ e. EndsBy (name_of e) history (in_journal kept (name_of e))) history) kept.histories
  -- an attempt in the journal committed, so none of its transaction follows it
  pub committed : (session : ℕ) (attempts : List Attempt) (a : Attempt) (d : Drawn)
      → ForAttempt script kept session attempts a (in_journal kept (record { session = session; ordinal = a.ordinal }) ≡ Some d → a.outcome ≡ Committed d.stamp)

-- the floor of a commit is at least each floor that a partition replied to it
abbrev pub IsCovered : Drawn → Entry → Type 0
IsCovered d e = (floor : ℕ) → is_of d.name e ≡ true → e.reply ≡ reply.Floor floor → floor ≤ d.floor

abbrev pub FloorsCovered : RunRecord → Type 0
FloorsCovered kept = AllByRecursion (λ d. AllByRecursion (λ history. AllByRecursion (IsCovered d) history) kept.histories) kept.journal

pub record LogsFollow (script : Script) (kept : RunRecord) : Type 0 where
  pub logs : length kept.logs ≡ length script.sessions
  pub each : (session : ℕ) → Lies 1 (length script.sessions) session → follows script session (log_of kept session)

-- the rows that are kept of each partition are those that its history leaves
abbrev pub RowsLeft : Script → RunRecord → Type 0
RowsLeft script kept = kept.rows ≡ by_part rows_left (openings script) kept.histories

-- a record of a run of the script
pub record Legal (script : Script) (kept : RunRecord) : Type 0 where
  pub script_runs : IsScript script
  pub histories_replay : AllZip IsLegal (openings script) kept.histories
  pub stamps_drawn : StampsDrawn kept
  pub entries_asked : EntriesAsked script kept
  pub attempts_ended : AttemptsEnded script kept
  pub floors_covered : FloorsCovered kept
  pub logs_follow : LogsFollow script kept
  pub rows_kept : RowsLeft script kept
