-- What the calls on a shared partition say: each is at most one event of its one history.
use Rattle.std.specs.Prelude.{◌≡◌, ◌<◌, ◌≤◌, ◌⊎◌, ℕ, List, [], ◌∷◌, ◌++◌, Contains, Option, Some, None, true, false}
use Rattle.std.specs.List.{AllByRecursion}
use mathlib.Core.List.{IsPrefix}
use Rattle.dp_messages.specs.Spelling.{IsEnvelope, IsReply, reply_bytes, request_bytes}
use Rattle.dp_messages.specs.declared.requests.Envelope.{Envelope}
use Rattle.dp_messages.specs.declared.requests.Request.{Request}
use Rattle.partition_state.specs.History.{IsLegal}
use Rattle.partition_state.specs.State.{Opener}
use Rattle.partition_state.specs.declared.entries.Entry.{Entry}
use Rattle.partition_core.specs.Kept.{Kept, opened_with, opener_in}
use Rattle.partition_core.specs.Settling.{ServesSettling}
use Rattle.partition_core.specs.declared.partitions.Served.{Served}
use Rattle.partition_core.specs.declared.partitions.Served.TheVariants.{New, Repeat, Old, Starved}
use Rattle.turn_lock.specs.Pass.{HasRoot, PassState, with_entry, with_turn, without_turn}
use Rattle.shared_partition.specs.declared.picked.Picked.{Picked}
use Rattle.shared_partition.specs.declared.picked.Picked.TheVariants as picked

-- a pass to a partition: it has seen a beginning of its history, and its root is the partition as it opened
abbrev pub PartitionPass : Type 0
PartitionPass = PassState Entry Kept

-- the pass, once it has taken the turn, found the partition so, added this entry or none, and given the turn back
abbrev pub turned : PartitionPass → List ℕ → Kept → Option Entry → PartitionPass
turned pass losses found None = without_turn (with_turn (record pass { losses = losses }) found.history found)
turned pass losses found (Some e) = without_turn (with_entry (with_turn (record pass { losses = losses }) found.history found) e)

-- the same pass after a call: it doesn't hold the turn, and has seen all that it had seen, and perhaps more
pub record GoesOn (before after : PartitionPass) : Type 0 where
  pub lock : after.lock ≡ before.lock
  pub number : after.number ≡ before.number
  pub root : after.root ≡ before.root
  pub idle : after.holds ≡ false
  pub seen : IsPrefix before.seen after.seen

-- one turn, which found the partition so and added this entry or none: the history that the pass then has seen is one
-- that the partition can have from its opening, each entry with the reply of its step
pub record IsTurn (before after : PartitionPass) (added : Option Entry) : Type 0 where
  pub found : Kept
  pub begins : IsPrefix before.seen found.history
  pub rooted : HasRoot before (opened_with found.opening)
  pub adds : after ≡ turned before after.losses found added
  pub legal : IsLegal found.opening after.seen

-- what an opener was served last in a history
pub record IsLast (history : List Entry) (opener sync : ℕ) (e : Entry) : Type 0 where
  pub stands : Contains history e
  pub of_opener : e.opener ≡ opener
  pub has_sync : e.sync ≡ sync
  pub none_later : AllByRecursion (λ f. f.opener ≡ opener → f.sync ≤ sync) history

-- an opener was served a later sync than this one
abbrev pub HasLater : List Entry → ℕ → ℕ → Type 0
HasLater history opener sync = (e : Entry) × Contains history e × (e.opener ≡ opener) × (sync < e.sync)

-- an opener was served nothing from this sync on
abbrev pub HasNoneFrom : List Entry → ℕ → ℕ → Type 0
HasNoneFrom history opener sync = AllByRecursion (λ e. e.opener ≡ opener → e.sync < sync) history

-- when each answer to a request comes, by what the partition keeps of the opener: its last sync, and whether memory was
-- short for it. Memory may be short for each new sync
abbrev pub IsDue : Opener → ℕ → Served → Type 0
IsDue o sync New = o.last < sync
IsDue o sync Repeat = (sync ≡ o.last) × (o.starved ≡ false)
IsDue o sync Old = (sync < o.last) × (o.starved ≡ false)
IsDue o sync Starved = (o.last < sync) ⊎ ((sync ≤ o.last) × (o.starved ≡ true))

-- when each answer to a request comes, and what it leaves of the pass
abbrev pub Answers : PartitionPass → ℕ → ℕ → Request → Served → PartitionPass → Type 0
Answers before opener sync request New after =
    (e : Entry) × (turn : IsTurn before after (Some e)) × (e.opener ≡ opener) × (e.sync ≡ sync) × (e.request ≡ request) × IsDue (opener_in turn.found opener) sync New
Answers before opener sync request Repeat after =
    (turn : IsTurn before after None) × (e : Entry) × IsLast after.seen opener sync e × IsDue (opener_in turn.found opener) sync Repeat
Answers before opener sync request Old after = (turn : IsTurn before after None) × HasLater after.seen opener sync × IsDue (opener_in turn.found opener) sync Old
Answers before opener sync request Starved after = (turn : IsTurn before after None) × IsDue (opener_in turn.found opener) sync Starved

-- the same of the one request that a message spells
abbrev pub AnswersMessage : PartitionPass → List ℕ → Served → PartitionPass → Type 0
AnswersMessage before message served after = (e : Envelope) × IsEnvelope e × (message ≡ request_bytes e) × Answers before e.opener e.sync e.request served after

-- the Prepare that prepares a live transaction and the End that ends one were served however short memory was, if the
-- sync was above the opener's last in the partition as the turn found it
abbrev pub EndsWithoutMemory : PartitionPass → ℕ → ℕ → Request → Served → PartitionPass → Type 0
EndsWithoutMemory before opener sync request served after =
    (found : Kept) × (after.found ≡ before.found ++ found ∷ []) × ServesSettling found opener sync request served

-- what there is for an opener that asks for the reply to a sync: the bytes of that of its last entry, which has it
abbrev pub Finds : List Entry → ℕ → ℕ → Picked → Type 0
Finds history opener sync (picked.Reply bytes) = (e : Entry) × IsLast history opener sync e × IsReply e.reply × (bytes.items ≡ reply_bytes e.reply)
Finds history opener sync picked.Pending = HasNoneFrom history opener sync
Finds history opener sync picked.Passed = HasLater history opener sync
Finds history opener sync picked.Starved = Unit {0}
Finds history opener sync picked.NoMemory = Unit {0}

-- when there is what, by what the partition keeps of the opener
abbrev pub IsThere : Opener → ℕ → Picked → Type 0
IsThere o sync (picked.Reply bytes) = (o.last ≡ sync) × (o.starved ≡ false)
IsThere o sync picked.Pending = o.last < sync
IsThere o sync picked.Passed = (sync < o.last) × (o.starved ≡ false)
IsThere o sync picked.Starved = (sync ≤ o.last) × (o.starved ≡ true)
IsThere o sync picked.NoMemory = (o.last ≡ sync) × (o.starved ≡ false)

-- the same of the partition as the turn found it
abbrev pub FindsDue : PartitionPass → ℕ → ℕ → Picked → PartitionPass → Type 0
FindsDue before opener sync result after = (found : Kept) × (after.found ≡ before.found ++ found ∷ []) × IsThere (opener_in found opener) sync result
