-- What a session's job and a server's job keep, each over its own tokens and log alone.
use Rattle.std.specs.Prelude.{◌≡◌, ◌≢◌, ◌<◌, ◌-◌, ◌^◌, ◌⊎◌, max, ℕ, List, [], map, slice_get, Option, Some, None, false, Contains}
use Rattle.std.specs.List.{AllByRecursion}
use Rattle.sql_base.specs.declared.lock_names.TxnName.{TxnName}
use Rattle.sql_base.specs.declared.scripts.Script.{Script}
use Rattle.commit_journal.specs.Journal.{drawn_for, last_stamp}
use Rattle.commit_journal.specs.declared.Drawn.{Drawn}
use Rattle.dp_messages.specs.Spelling.{IsEnvelope, request_bytes}
use Rattle.dp_messages.specs.declared.requests.Envelope.{Envelope}
use Rattle.dp_messages.specs.declared.requests.Request.{Request}
use Rattle.partition_state.specs.declared.entries.Entry.{Entry}
use Rattle.plans_laws.specs.Spelled.{envelope_of}
use Rattle.session_grammar.specs.Rows.{fits}
use Rattle.session_grammar.specs.UnderWay.{Awaiting, Drawing, IsOpen, Sending}
use Rattle.session_grammar.specs.declared.logs.Answer.TheVariants.{PathFailed, Reply, Stamp}
use Rattle.session_grammar.specs.declared.logs.LogEntry.{LogEntry}
use Rattle.session_grammar.specs.declared.logs.LogEntry.TheVariants.{Asked, Drew}
use Rattle.requester_fs.specs.Asking.{Asking, IsAsking}
use Rattle.driver_laws.specs.Moves as moves
use Rattle.run_record.specs.Legal.{drawn_in}
use Rattle.turn_lock.specs.Pass.{PassState}
use Rattle.executor_pool.specs.declared.sessions.Stop.{Stop}
use Rattle.executor_pool.specs.declared.sessions.Stop.TheVariants.{Misfit, Passed, Refused}
use Rattle.executor_pool.specs.declared.tokens.Server.{Server}
use Rattle.executor_pool.specs.declared.tokens.Tokens.{Tokens}

-- a requester has asked this of a partition; it may be answered or not
abbrev pub HasAsked : Asking → ℕ → ℕ → Request → Type 0
HasAsked a part sync request = moves.HasAsked a.log a.way part sync request

-- a message spells what the requester has asked of a partition
abbrev pub IsOwnMessage : Asking → ℕ → List ℕ → Type 0
IsOwnMessage a part message = (e : Envelope) × IsEnvelope e × (message ≡ request_bytes e) × (e.opener ≡ a.number) × HasAsked a part e.sync e.request

-- an entry is of one of the messages that were taken from its partition's mail
abbrev pub IsOfMessage : List (List ℕ) → Entry → Type 0
IsOfMessage taken e = IsEnvelope (envelope_of e) × Contains taken (request_bytes (envelope_of e))

-- an entry that a session added is of a message that it took, or, by hand, of what it asked itself
abbrev pub IsOfSession : Asking → ℕ → List (List ℕ) → Entry → Type 0
IsOfSession a part taken e = IsOfMessage taken e ⊎ ((e.opener ≡ a.number) × HasAsked a part e.sync e.request)

-- what a session keeps at one partition
pub record KeepsPart (a : Asking) (part : ℕ) (t : Tokens) : Type 0 where
  pub posted : AllByRecursion (IsOwnMessage a part) t.poster.posted
  pub served : AllByRecursion (λ placed. IsOfSession a part t.taker.taken placed.1) t.pass.mine

-- what a server keeps at its partition
abbrev pub KeepsMail : Server → Type 0
KeepsMail s = AllByRecursion (λ placed. IsOfMessage s.taker.taken placed.1) s.pass.mine

-- an entry of this opener stands in what was seen of a partition's history
abbrev pub HasSeen : List Tokens → ℕ → ℕ → Entry → Type 0
HasSeen tokens part opener e = (t : Tokens) × (slice_get tokens part ≡ Some t) × Contains t.pass.seen e × (e.opener ≡ opener)

-- a reply that a session heard is that of an entry which it has seen; a stamp answers no request
abbrev pub HasHeard : ℕ → List Tokens → LogEntry → Type 0
HasHeard number tokens (Asked part sync request losses (Reply r)) = (e : Entry) × HasSeen tokens part number e × (e.sync ≡ sync) × (e.reply ≡ r)
HasHeard number tokens (Asked part sync request losses PathFailed) = Unit {0}
HasHeard number tokens (Asked part sync request losses (Stamp stamp)) = ⊥
HasHeard number tokens (Drew name floor answer) = Unit {0}

-- a pass to the journal, which begins from nothing
abbrev pub JournalPass : Type 0
JournalPass = PassState Drawn (Unit {0})

-- what a session added to the journal is what its log drew, in order
abbrev pub KeepsJournal : List LogEntry → JournalPass → Type 0
KeepsJournal log commits = map (λ placed. placed.1) commits.mine ≡ drawn_in log

-- what the job of a session keeps: its requester's clause, its tokens at each partition, its pass to the journal
pub record AtWork (script : Script) (number : ℕ) (a : Asking) (tokens : List Tokens) (commits : JournalPass) : Type 0 where
  pub script_is : a.script ≡ script
  pub number_is : a.number ≡ number
  pub asking : IsAsking a
  pub heard : AllByRecursion (HasHeard number tokens) a.log
  pub parts : (part : ℕ) (t : Tokens) → slice_get tokens part ≡ Some t → KeepsPart a part t
  pub draws : KeepsJournal a.log commits

-- a journal draws no stamp for this name and floor: it has drawn one, or no stamp is left
abbrev pub Refuses : List Drawn → TxnName → ℕ → Type 0
Refuses journal name floor = (drawn_for name journal ≢ None) ⊎ (max (last_stamp 0 journal) floor ≡ 2 ^ 64 - 1)

-- what a session has seen that stopped it
abbrev pub IsStopped : Asking → List Tokens → JournalPass → Stop → Type 0
IsStopped a tokens commits Misfit = (s : Sending) × (e : Entry) × IsOpen a.way s × HasSeen tokens s.part a.number e × (e.sync ≡ s.sync) × (fits s.request.ask e.reply ≡ false)
IsStopped a tokens commits Passed = (s : Sending) × (e : Entry) × IsOpen a.way s × HasSeen tokens s.part a.number e × (s.sync < e.sync)
IsStopped a tokens commits Refused = (name : TxnName) × (floor : ℕ) × (a.way ≡ Drawing name floor) × Refuses commits.seen name floor

-- a job ends where its session has finished, or where something stopped it
abbrev pub HasEnded : Asking → List Tokens → JournalPass → Option Stop → Type 0
HasEnded a tokens commits None = a.way ≡ Awaiting []
HasEnded a tokens commits (Some stop) = IsStopped a tokens commits stop
