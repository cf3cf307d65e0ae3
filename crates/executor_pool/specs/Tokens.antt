-- What a call of a job does to its tokens.
use Rattle.std.specs.Prelude.{◌≡◌, ℕ, List, slice_get, Some, Contains, false}
use Rattle.dp_messages.specs.Spelling.{IsReply}
use Rattle.dp_messages.specs.declared.requests.Request.{Request}
use Rattle.partition_state.specs.declared.entries.Entry.{Entry}
use Rattle.requester_fs.specs.Asking.{Asking}
use Rattle.shared_partition.specs.Sharing.{GoesOn, HasLater}
use Rattle.executor_pool.specs.Jobs.{HasAsked, KeepsPart}
use Rattle.executor_pool.specs.declared.processes.DiskProcess.{DiskProcess}
use Rattle.executor_pool.specs.declared.tokens.Heard.{Heard}
use Rattle.executor_pool.specs.declared.tokens.Heard.TheVariants.{Reply, Nothing, Passed}
use Rattle.executor_pool.specs.declared.tokens.Server.{Server}
use Rattle.executor_pool.specs.declared.tokens.Tokens.{Tokens}

-- a session's tokens are those to this partition, and a server's
pub record AreOf (d : DiskProcess) (t : Tokens) : Type 0 where
  pub lock : t.pass.lock ≡ d.partition
  pub idle : t.pass.holds ≡ false
  pub posts : t.poster.mail ≡ d.mail
  pub takes : t.taker.mail ≡ d.mail

pub record Serves (d : DiskProcess) (s : Server) : Type 0 where
  pub lock : s.pass.lock ≡ d.partition
  pub idle : s.pass.holds ≡ false
  pub takes : s.taker.mail ≡ d.mail

-- a server is one of these partitions
abbrev pub IsAt : List DiskProcess → Server → Type 0
IsAt processes s = (d : DiskProcess) × (slice_get processes s.part ≡ Some d) × Serves d s

-- the same tokens, later
pub record AreSame (before after : Tokens) : Type 0 where
  pub pass : GoesOn before.pass after.pass
  pub poster_mail : after.poster.mail ≡ before.poster.mail
  pub poster_number : after.poster.number ≡ before.poster.number
  pub taker_mail : after.taker.mail ≡ before.taker.mail
  pub taker_number : after.taker.number ≡ before.taker.number

pub record IsSameServer (before after : Server) : Type 0 where
  pub part : after.part ≡ before.part
  pub pass : GoesOn before.pass after.pass
  pub taker_mail : after.taker.mail ≡ before.taker.mail
  pub taker_number : after.taker.number ≡ before.taker.number

-- a call leaves a session's tokens so: for a requester that has asked what the call does, what is kept stays kept
pub record Leaves (HasDone : Asking → ℕ → Type 0) (before after : Tokens) : Type 0 where
  pub same : AreSame before after
  pub keeps : (a : Asking) (part : ℕ) → HasDone a part → KeepsPart a part before → KeepsPart a part after

-- it does nothing that has to be asked
abbrev pub AsksNothing : Asking → ℕ → Type 0
AsksNothing a part = Unit {0}

-- it serves this of the opener
abbrev pub HasAskedAs : ℕ → ℕ → Request → Asking → ℕ → Type 0
HasAskedAs opener sync request a part = (opener ≡ a.number) × HasAsked a part sync request

-- what an opener heard that looked for the reply to a sync
abbrev pub Hears : List Entry → ℕ → ℕ → Heard → Type 0
Hears seen opener sync (Reply r) = IsReply r × (e : Entry) × Contains seen e × (e.opener ≡ opener) × (e.sync ≡ sync) × (e.reply ≡ r)
Hears seen opener sync Nothing = Unit {0}
Hears seen opener sync Passed = HasLater seen opener sync
