-- What contracts see of a requester.
use Rattle.std.specs.Prelude.{◌≡◌, ◌<◌, ℕ, List, [], length, max, Option, Some, None, slice_get}
use Rattle.std.specs.List.{AllByRecursion}
use Rattle.sql_base.specs.Scripts.{IsScript, Lies, parts_of}
use Rattle.sql_base.specs.declared.scripts.Script.{Script}
use Rattle.dp_messages.specs.Spelling.{IsEnvelope, IsReply}
use Rattle.dp_messages.specs.declared.replies.Reply.TheVariants as reply
use Rattle.dp_messages.specs.declared.requests.Ask.{Ask}
use Rattle.dp_messages.specs.declared.requests.Ask.TheVariants.{Continue}
use Rattle.session_grammar.specs.Follows.{follows}
use Rattle.session_grammar.specs.Sessions.{Draws, Ends, Next, Sends, Working}
use Rattle.session_grammar.specs.UnderWay.{Asks, Awaiting, Drawing, Sending, TakesAnswer, TakesStamp, UnderWay}
use Rattle.session_grammar.specs.declared.logs.Answer.{Answer}
use Rattle.session_grammar.specs.declared.logs.Answer.TheVariants.{PathFailed, Reply, Stamp}
use Rattle.session_grammar.specs.declared.logs.LogEntry.{LogEntry}

-- a requester: the script and the session that it works for, its log in the order of syncs, and what it has under way
pub record Asking : Type 0 where
  pub script : Script
  pub number : ℕ
  pub log : List LogEntry
  pub way : UnderWay

-- it has this many places: one for each request under way, and one at least
abbrev pub places_of : UnderWay → ℕ
places_of (Awaiting sends) = max 1 (length sends)
places_of (Drawing name floor) = 1

-- what is done at a place: a request is sent, or the commit is drawn; where nothing is under way, it has finished
abbrev pub next_send : Option Sending → Next
next_send (Some s) = Sends s.part s.sync s.request
next_send None = Ends

abbrev pub next_at : UnderWay → ℕ → Next
next_at (Awaiting sends) place = next_send (slice_get sends place)
next_at (Drawing name floor) place = Draws name floor

-- a request under way goes to a partition of the script, and a message can spell it
pub record IsSendable (a : Asking) (s : Sending) : Type 0 where
  pub part : s.part < parts_of a.script.tables
  pub spelled : IsEnvelope (record { opener = a.number; sync = s.sync; request = s.request })

abbrev pub AreSendable : Asking → UnderWay → Type 0
AreSendable a (Awaiting sends) = AllByRecursion (IsSendable a) sends
AreSendable a (Drawing name floor) = (name.session ≡ a.number)

-- what a requester keeps at every moment: it works for a session of a script, its log with what is under way begins one that the script allows,
-- and where nothing is under way, its log is whole
pub record IsAsking (a : Asking) : Type 0 where
  pub is_script : IsScript a.script
  pub session : Lies 1 (length a.script.sessions) a.number
  pub asks : Asks a.script a.number a.log a.way
  pub sendable : AreSendable a a.way
  pub whole : a.way ≡ Awaiting [] → follows a.script a.number a.log

-- a message can spell the reply
abbrev pub IsSpelled : Answer → Type 0
IsSpelled (Reply r) = IsReply r
IsSpelled PathFailed = Unit {0}
IsSpelled (Stamp stamp) = Unit {0}

-- it works for the same session of the same script
pub record IsSame (a b : Asking) : Type 0 where
  pub script : b.script ≡ a.script
  pub number : b.number ≡ a.number

-- what an answer to the action at a place makes of it: the entry is in the log, and what else was under way stays so
abbrev pub HasTaken : Asking → Next → Answer → ℕ → Asking → Type 0
HasTaken a (Sends part sync request) answer losses b =
    (sends : List Sending) × (a.way ≡ Awaiting sends) × TakesAnswer a.script a.number a.log sends (record { part = part; sync = sync; request = request }) losses answer b.log b.way
HasTaken a (Draws name floor) (Stamp stamp) losses b = TakesStamp a.script a.number a.log (record { name = name; floor = floor; stamp = stamp }) b.log b.way
HasTaken a (Draws name floor) answer losses b = ⊥
HasTaken a Ends answer losses b = ⊥

-- how often a subset may be redriven behind what is asked, where so many of some keys stand above each key, and n above none
abbrev pub spare_of : (List ℕ → ℕ) → ℕ → Ask → ℕ
spare_of above n (Continue subset last) = above last
spare_of above n ask = n

-- a redrive comes with a key that has fewer above it
abbrev pub Advances : (List ℕ → ℕ) → ℕ → Next → Answer → Type 0
Advances above n (Sends part sync request) (Reply (reply.Redrive subset last cause rows changed)) = above last < spare_of above n request.ask
Advances above n next answer = Unit {0}

-- a session that does one thing after the other, as its script's session
abbrev pub working : Asking → Working
working a = record { limits = a.script.limits; number = a.number; log = a.log; next = next_at a.way 0 }
