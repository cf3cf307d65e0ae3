-- Requests in a log, each with its repeats after Locked.
use Rattle.std.specs.Prelude.{◌≡◌, ◌≤◌, ℕ, zero, suc, List, [], ◌∷◌, Option, Some, None, Bool, true, false, ◌==◌, if◌then◌else◌}
use Rattle.sql_base.specs.declared.outcomes.Abort.{Abort}
use Rattle.sql_base.specs.declared.outcomes.Abort.TheVariants.{LockedOut, PathLost, Faulted, Duplicate}
use Rattle.sql_base.specs.declared.lock_names.Lock.{Lock}
use Rattle.dp_messages.specs.declared.replies.Reply.{Reply as PartitionReply}
use Rattle.dp_messages.specs.declared.replies.Reply.TheVariants as reply
use Rattle.dp_messages.specs.declared.requests.Ask.{Ask}
use Rattle.dp_messages.specs.declared.requests.Ask.TheVariants as ask
use Rattle.dp_messages.specs.declared.requests.Request.{Request}
use Rattle.session_grammar.specs.declared.logs.Answer.{Answer}
use Rattle.session_grammar.specs.declared.logs.Answer.TheVariants.{Reply, PathFailed, Stamp}
use Rattle.session_grammar.specs.declared.logs.LogEntry.{LogEntry}
use Rattle.session_grammar.specs.declared.logs.LogEntry.TheVariants.{Asked, Drew}
use Rattle.dp_messages.specs.Replies.{is_done}

-- the replies that may come to a subset's request, a ReadKey, an Insert and a LockGranule
abbrev pub fits_subset : PartitionReply → Bool
fits_subset (reply.Ended rows changed) = true
fits_subset (reply.Redrive subset last cause rows changed) = true
fits_subset (reply.Locked lock) = true
fits_subset (reply.Failed key fault) = true
fits_subset other = false

abbrev pub fits_read : PartitionReply → Bool
fits_read (reply.Row row) = true
fits_read reply.NoRow = true
fits_read (reply.Locked lock) = true
fits_read (reply.Failed key fault) = true
fits_read other = false

abbrev pub fits_insert : PartitionReply → Bool
fits_insert reply.Done = true
fits_insert (reply.Locked lock) = true
fits_insert (reply.DuplicateKey key) = true
fits_insert (reply.Failed key fault) = true
fits_insert other = false

abbrev pub fits_lock : PartitionReply → Bool
fits_lock reply.Done = true
fits_lock (reply.Locked lock) = true
fits_lock other = false

abbrev pub is_floor : PartitionReply → Bool
is_floor (reply.Floor floor) = true
is_floor other = false

-- the reply is one that may come to what was asked
abbrev pub fits : Ask → PartitionReply → Bool
fits (ask.BeginRead access granule range filter columns) r = fits_subset r
fits (ask.BeginUpdate access granule range filter sets) r = fits_subset r
fits (ask.BeginDelete access granule range filter) r = fits_subset r
fits (ask.Continue subset last) r = fits_subset r
fits (ask.ReadKey access key filter columns) r = fits_read r
fits (ask.Insert row) r = fits_insert r
fits (ask.LockGranule prefix mode) r = fits_lock r
fits ask.Prepare r = is_floor r
fits (ask.EndCommit stamp) r = is_done r
fits ask.EndUndo r = is_done r

abbrev pub is_end : Ask → Bool
is_end (ask.EndCommit stamp) = true
is_end ask.EndUndo = true
is_end other = false

-- a reply comes after at most 3 losses, that to an End after at most 4; 4 losses of any other request are a lost path
abbrev pub IsSent : Ask → ℕ → Answer → Type 0
IsSent a losses (Reply r) = (losses ≤ (if is_end a then 4 else 3)) × (fits a r ≡ true)
IsSent a losses PathFailed = (losses ≡ 4) × (is_end a ≡ false)
IsSent a losses (Stamp stamp) = ⊥

-- the entry asks this of the partition, and was answered so
abbrev pub IsAsked : ℕ → Request → Answer → LogEntry → Type 0
IsAsked part request answer (Asked p sync q losses a) = (p ≡ part) × (q ≡ request) × (a ≡ answer) × IsSent q.ask losses a
IsAsked part request answer (Drew name floor a) = ⊥

abbrev pub is_locked : Answer → Bool
is_locked (Reply (reply.Locked lock)) = true
is_locked answer = false

-- the row of a request: at most `patience` entries answered Locked, then one with this answer, which is Locked only behind just so many
abbrev pub IsExchange : ℕ → ℕ → Request → List LogEntry → Answer → Type 0
IsExchange patience part request [] answer = ⊥
IsExchange patience part request (e ∷ []) answer = IsAsked part request answer e × (is_locked answer ≡ true → patience ≡ 0)
IsExchange zero part request (e ∷ f ∷ es) answer = ⊥
IsExchange (suc patience) part request (e ∷ f ∷ es) answer = ((lock : Lock) × IsAsked part request (Reply (reply.Locked lock)) e) × IsExchange patience part request (f ∷ es) answer

-- how the last answer of a row fails its attempt, if it does
abbrev pub failure : Answer → Option Abort
failure PathFailed = Some PathLost
failure (Reply (reply.Locked lock)) = Some LockedOut
failure (Reply (reply.Failed key fault)) = Some (Faulted key fault)
failure (Reply (reply.DuplicateKey key)) = Some (Duplicate key)
failure answer = None

-- the entry was asked of this partition
abbrev pub is_for : ℕ → LogEntry → Bool
is_for part (Asked p sync request losses answer) = p == part
is_for part (Drew name floor answer) = false
