-- A partition that is asked in messages alone.
use Rattle.std.specs.Prelude.{◌≡◌, ℕ, List, [], ◌∷◌, ◌++◌, replicate}
use Rattle.dp_messages.specs.Spelling.{IsEnvelope, reply_bytes, request_bytes}
use Rattle.dp_messages.specs.declared.replies.Reply.{Reply}
use Rattle.dp_messages.specs.declared.requests.Envelope.{Envelope}
use Rattle.dp_messages.specs.declared.requests.Request.{Request}
use Rattle.partition_state.specs.State.{State, new_opener}
use Rattle.partition_state.specs.declared.entries.Entry.{Entry}
use Rattle.plans_laws.specs.Spelled.{CameSpelled, Spelled}
use Rattle.partition_core.specs.Kept.{Kept, opener_in}
use Rattle.partition_core.specs.declared.partitions.Served.{Served}
use Rattle.partition_core.specs.declared.partitions.Served.TheVariants.{New, Repeat, Old, Starved}
use Rattle.shared_partition.specs.Sharing.{HasLater, IsDue, IsLast}
use Rattle.shared_partition.specs.declared.picked.Picked.{Picked}
use Rattle.shared_partition.specs.declared.picked.Picked.TheVariants as picked

-- a partition opens so: its parts can be spelled, and no opener was served
pub record IsOpening (p : State) : Type 0 where
  pub spelled : Spelled p
  pub openers : p.openers ≡ replicate 8 new_opener

-- so it opened, and its requests came spelled
pub record IsSpelled (k : Kept) : Type 0 where
  pub opening : IsOpening k.opening
  pub came : CameSpelled k.history

-- what each answer to a request leaves of the history
abbrev pub Adds : Kept → ℕ → ℕ → Request → Served → Kept → Type 0
Adds k opener sync request New after =
    (e : Entry) × (after.history ≡ k.history ++ e ∷ []) × (e.opener ≡ opener) × (e.sync ≡ sync) × (e.request ≡ request) × IsDue (opener_in k opener) sync New
Adds k opener sync request Repeat after = (after.history ≡ k.history) × (e : Entry) × IsLast k.history opener sync e × IsDue (opener_in k opener) sync Repeat
Adds k opener sync request Old after = (after.history ≡ k.history) × HasLater k.history opener sync × IsDue (opener_in k opener) sync Old
Adds k opener sync request Starved after = (after.history ≡ k.history) × IsDue (opener_in k opener) sync Starved

-- the same of the one request that a message spells
abbrev pub AddsMessage : Kept → List ℕ → Served → Kept → Type 0
AddsMessage k message served after = (e : Envelope) × IsEnvelope e × (message ≡ request_bytes e) × Adds k e.opener e.sync e.request served after

-- a message spells an envelope of this opener and sync
abbrev pub IsAddress : List ℕ → ℕ → ℕ → Type 0
IsAddress message opener sync = (e : Envelope) × IsEnvelope e × (message ≡ request_bytes e) × (opener ≡ e.opener) × (sync ≡ e.sync)

-- the bytes of the reply, but for want of memory
abbrev pub IsSpelling : Reply → Picked → Type 0
IsSpelling reply (picked.Reply bytes) = bytes.items ≡ reply_bytes reply
IsSpelling reply picked.NoMemory = Unit {0}
IsSpelling reply other = ⊥
