-- What the job of a session keeps from step to step.
use Rattle.std.specs.Prelude.{◌≡◌, ◌≤◌, ◌+◌, ◌==◌, ◌||◌, nat_lt, ℕ, List, [], ◌∷◌, ◌++◌, length, replicate, slice_get, Option, Some, None, Bool, true, false, if◌then◌else◌}
use Rattle.std.specs.List.{AllZip}
use mathlib.Core.List.{IsPrefix}
use Rattle.outside.specs.declared.wire.Passage.{Passage}
use Rattle.sql_base.specs.Scripts.{parts_of}
use Rattle.sql_base.specs.declared.lock_names.TxnName.{TxnName}
use Rattle.sql_base.specs.declared.scripts.Script.{Script}
use Rattle.dp_messages.specs.Spelling.{IsReply}
use Rattle.dp_messages.specs.declared.replies.Reply.{Reply}
use Rattle.dp_messages.specs.declared.requests.Envelope.{Envelope}
use Rattle.dp_messages.specs.declared.requests.Request.{Request}
use Rattle.partition_state.specs.declared.entries.Entry.{Entry}
use Rattle.session_grammar.specs.Rows.{is_end}
use Rattle.session_grammar.specs.Sessions.{Draws, Ends, Next, Sends, entries_kept}
use Rattle.session_grammar.specs.declared.logs.Answer.{Answer}
use Rattle.session_grammar.specs.declared.logs.Answer.TheVariants.{PathFailed}
use Rattle.session_grammar.specs.declared.logs.LogEntry.{LogEntry}
use Rattle.requester_fs.specs.Asking.{Asking, HasTaken, IsAsking, IsSame, next_at, places_of}
use Rattle.driver_laws.specs.Carrying.{IsCarried, Telling}
use Rattle.turn_lock.specs.Pass.{LockId}
use Rattle.executor_pool.specs.Jobs.{AtWork, HasSeen, IsStopped, JournalPass}
use Rattle.executor_pool.specs.Tokens.{AreOf, AreSame, Hears}
use Rattle.executor_pool.specs.declared.processes.DiskProcess.{DiskProcess}
use Rattle.executor_pool.specs.declared.sendings.Outgoing.{Outgoing}
use Rattle.executor_pool.specs.declared.sessions.SessionJob.{SessionJob}
use Rattle.executor_pool.specs.declared.sessions.Stop.{Stop}
use Rattle.executor_pool.specs.declared.sessions.Turn.{Turn}
use Rattle.executor_pool.specs.declared.sessions.Turn.TheVariants.{Draw, Rest, Send, ServeByHand}
use Rattle.executor_pool.specs.declared.tokens.Heard.{Heard}
use Rattle.executor_pool.specs.declared.tokens.Tokens.{Tokens}

-- a session at work, as contracts see it
pub record Session : Type 0 where
  pub number : ℕ
  pub asking : Asking
  pub losses : ℕ
  pub tokens : List Tokens
  pub commits : JournalPass
  pub stop : Option Stop

abbrev pub seen : {Q : Type 0} → (Q → Asking) → SessionJob Q → Session
seen asking s = record { number = s.number; asking = asking s.requester; losses = s.losses; tokens = s.tokens.items; commits = s.commits; stop = s.stop }

-- what it does next
abbrev pub next_of : Session → Next
next_of s = next_at s.asking.way 0

abbrev pub turn_to : ℕ → Next → Turn
turn_to losses (Sends part sync request) = if losses == 4 then ServeByHand else Send
turn_to losses (Draws name floor) = Draw
turn_to losses Ends = Rest

abbrev pub turn_of : Session → Turn
turn_of s = turn_to s.losses (next_of s)

abbrev pub IsSending : Next → Type 0
IsSending (Sends part sync request) = Unit {0}
IsSending (Draws name floor) = ⊥
IsSending Ends = ⊥

-- the envelope of its request, which goes to this partition
abbrev pub GoesOut : Session → ℕ → Envelope → Type 0
GoesOut s part e = (e.opener ≡ s.number) × (next_of s ≡ Sends part e.sync e.request)

pub record IsOut (s : Session) (out : Outgoing) : Type 0 where
  pub goes : GoesOut s out.part out.envelope
  pub is_end : out.is_end ≡ is_end out.envelope.request.ask

-- a request is lost four times only where it is an End
abbrev pub MayBeLost : ℕ → Next → Type 0
MayBeLost losses (Sends part sync request) = (losses ≤ 4) × (is_end request.ask ≡ false → losses ≤ 3)
MayBeLost losses next = losses ≡ 0

-- what a session keeps that works with these partitions and this journal
pub record IsSession (script : Script) (processes : List DiskProcess) (journal : LockId) (s : Session) : Type 0 where
  pub work : AtWork script s.number s.asking s.tokens s.commits
  pub one : places_of s.asking.way ≡ 1
  pub of_parts : AllZip AreOf processes s.tokens
  pub parts : length processes ≡ parts_of script.tables
  pub journal_is : (s.commits.lock ≡ journal) × (s.commits.holds ≡ false)
  pub losses : s.stop ≡ None → MayBeLost s.losses (next_of s)
  pub stops : (stop : Stop) → s.stop ≡ Some stop → IsStopped s.asking s.tokens s.commits stop

-- the same pass to the journal, later
pub record StillCommits (before after : JournalPass) : Type 0 where
  pub lock : after.lock ≡ before.lock
  pub number : after.number ≡ before.number
  pub idle : after.holds ≡ false
  pub seen : IsPrefix before.seen after.seen

-- the same session, later
pub record IsSameSession (before after : Session) : Type 0 where
  pub number : after.number ≡ before.number
  pub tokens : AllZip AreSame before.tokens after.tokens
  pub commits : StillCommits before.commits after.commits

-- a session goes on so: what it keeps, it still keeps
abbrev pub Goes : List DiskProcess → LockId → Session → Session → Type 0
Goes processes journal before after = (script : Script) → IsSession script processes journal before → IsSession script processes journal after × IsSameSession before after

-- of its job nothing but the tokens changed
abbrev pub ChangesTokens : {Q : Type 0} → SessionJob Q → SessionJob Q → Type 0
ChangesTokens before after = after ≡ record before { tokens = after.tokens }

-- the requester has taken an answer, and nothing is left of what it had under way
pub record IsAnswered (answer : Answer) (a b : Session) : Type 0 where
  pub same : IsSame a.asking b.asking
  pub taken : HasTaken a.asking (next_of a) answer a.losses b.asking
  pub asking : IsAsking b.asking
  pub one : places_of b.asking.way ≡ 1
  pub in_order : b.asking.log ≡ a.asking.log ++ entries_kept (next_of a) answer a.losses
  pub rest : b ≡ record a { asking = b.asking; losses = 0 }

-- its request was lost once more; or this was the fourth loss, and it isn't an End
abbrev pub lost_by : Bool → Session → Session → Type 0
lost_by true a b = b ≡ record a { losses = a.losses + 1 }
lost_by false a b = IsAnswered PathFailed (record a { losses = a.losses + 1 }) b

abbrev pub IsLost : Bool → Session → Session → Type 0
IsLost is_end a b = lost_by (nat_lt (a.losses + 1) 4 || is_end) a b

-- its request went to this partition with this sync
abbrev pub IsAwaited : Session → ℕ → ℕ → Type 0
IsAwaited s part sync = (request : Request) × (next_of s ≡ Sends part sync request)

-- the reply to its request, of an entry that it has seen
pub record IsHeard (s : Session) (r : Reply) : Type 0 where
  pub part : ℕ
  pub sync : ℕ
  pub awaits : IsAwaited s part sync
  pub spelled : IsReply r
  pub e : Entry
  pub has_seen : HasSeen s.tokens part s.number e
  pub same_sync : e.sync ≡ sync
  pub reply_is : e.reply ≡ r

-- what a session heard at a partition
abbrev pub HearsAt : List Tokens → ℕ → ℕ → ℕ → Heard → Type 0
HearsAt tokens part opener sync heard = (t : Tokens) × (slice_get tokens part ≡ Some t) × Hears t.pass.seen opener sync heard

-- the wire tells this from now on; what it told until now is the sendings of the log, and this behind them
abbrev pub IsTold : Telling → Telling → List Bool → List LogEntry → Type 0
IsTold told now tail log = (passages : List Passage) × IsCarried told.first told.round passages now.first log tail × (now.round ≡ told.round)

-- what was told of a request under way is told of the log once it is answered
abbrev pub TellsOn : List Bool → Session → Session → Type 0
TellsOn tail before after = (told now : Telling) → IsTold told now tail before.asking.log → after.stop ≡ None → IsTold told now (replicate after.losses true) after.asking.log

-- the sending that was carried, unless the request is served by hand
abbrev pub carried_now : ℕ → List Bool
carried_now losses = if nat_lt losses 4 then false ∷ [] else []

-- a session drew this commit
pub record HasDrawn (name : TxnName) (floor stamp : ℕ) (before after : JournalPass) : Type 0 where
  pub place : ℕ
  pub mine : after.mine ≡ before.mine ++ (place, record { name = name; floor = floor; stamp = stamp }) ∷ []
