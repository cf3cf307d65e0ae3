-- What contracts see of a session.
use Rattle.std.specs.Prelude.{◌≡◌, ◌<◌, ℕ, ◌+◌, List, [], ◌∷◌, ◌++◌, Bool, false, ◌↔◌}
use Rattle.sql_base.specs.Scripts.{parts_of}
use Rattle.sql_base.specs.declared.lock_names.TxnName.{TxnName}
use Rattle.sql_base.specs.declared.scripts.Limits.{Limits}
use Rattle.sql_base.specs.declared.scripts.Script.{Script}
use Rattle.dp_messages.specs.declared.replies.Reply.{Reply as PartitionReply}
use Rattle.dp_messages.specs.declared.requests.Request.{Request}
use Rattle.session_grammar.specs.declared.logs.Action.{Action}
use Rattle.session_grammar.specs.declared.logs.Action.TheVariants.{Send, Commit, Finished}
use Rattle.session_grammar.specs.declared.logs.Answer.{Answer}
use Rattle.session_grammar.specs.declared.logs.Answer.TheVariants.{Stamp}
use Rattle.session_grammar.specs.declared.logs.LogEntry.{LogEntry}
use Rattle.session_grammar.specs.declared.logs.LogEntry.TheVariants.{Asked, Drew}
use Rattle.session_grammar.specs.Follows.{in_line}
use Rattle.session_grammar.specs.Rows.{IsSent, fits}

-- what a session does next: it sends a request to a partition, draws a commit above a floor, or has finished
pub data Next : Type 0 where
  Sends : ℕ → ℕ → Request → Next
  Draws : TxnName → ℕ → Next
  Ends : Next

-- a session: the limits and the number that it was made with, its log, and what it does next
pub record Working : Type 0 where
  pub limits : Limits
  pub number : ℕ
  pub log : List LogEntry
  pub next : Next

-- an action, as contracts see it
abbrev pub shown : Action → Next
shown (Send part sync request) = Sends part sync request.now
shown (Commit name floor) = Draws name floor
shown Finished = Ends

-- the sync of the request that comes after a log
abbrev pub sync_behind : ℕ → List LogEntry → ℕ
sync_behind next [] = next
sync_behind next (Asked part sync request losses answer ∷ log) = sync_behind (next + 1) log
sync_behind next (Drew name floor answer ∷ log) = sync_behind next log

-- the reply may come to what is sent next
abbrev pub fits_next : Next → PartitionReply → Bool
fits_next (Sends part sync request) r = fits request.ask r
fits_next (Draws name floor) r = false
fits_next Ends r = false

-- the answer may come of what is done next, after so many losses
abbrev pub MayCome : Next → Answer → ℕ → Type 0
MayCome (Sends part sync request) answer losses = IsSent request.ask losses answer
MayCome (Draws name floor) (Stamp stamp) losses = Unit {0}
MayCome (Draws name floor) answer losses = ⊥
MayCome Ends answer losses = ⊥

-- what the log keeps of it
abbrev pub entries_kept : Next → Answer → ℕ → List LogEntry
entries_kept (Sends part sync request) answer losses = Asked part sync request losses answer ∷ []
entries_kept (Draws name floor) answer losses = Drew name floor answer ∷ []
entries_kept Ends answer losses = []

-- a log is the beginning of one that the script allows
abbrev pub Begins : Script → ℕ → List LogEntry → Type 0
Begins script number log = (rest : List LogEntry) × in_line script number (log ++ rest)

-- what is sent goes to one of the partitions
abbrev pub IsWithin : ℕ → Next → Type 0
IsWithin parts (Sends part sync request) = part < parts
IsWithin parts (Draws name floor) = Unit {0}
IsWithin parts Ends = Unit {0}

-- the session is that of the script with this number: its log is the beginning of one that the script allows, also with whatever may come next, and it has finished where it is whole
pub record IsSessionOf (script : Script) (number : ℕ) (s : Working) : Type 0 where
  pub limits : s.limits ≡ script.limits
  pub number_is : s.number ≡ number
  pub part : IsWithin (parts_of script.tables) s.next
  pub begins : Begins script number s.log
  pub goes_on : (answer : Answer) (losses : ℕ) → MayCome s.next answer losses → Begins script number (s.log ++ entries_kept s.next answer losses)
  pub ends_where_whole : (s.next ≡ Ends) ↔ in_line script number s.log
