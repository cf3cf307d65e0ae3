-- What the process of a partition does with messages.
use Rattle.std.specs.Prelude.{◌≡◌, ◌≤◌, ◌<◌, ◌⊎◌, ℕ, List, [], ◌∷◌, length, replicate, None}
use Rattle.outside.specs.declared.wire.Passage.{Passage}
use Rattle.outside.specs.declared.wire.Passage.TheVariants.{Carry, Repeat, LoseRequest, LoseReply}
use Rattle.dp_messages.specs.Spelling.{IsEnvelope, request_bytes}
use Rattle.dp_messages.specs.declared.requests.Envelope.{Envelope}
use Rattle.dp_messages.specs.declared.requests.Request.{Request}
use Rattle.partition_core.specs.Kept.{Kept, opener_in, served}
use Rattle.partition_state.specs.State.{opener_of}
use Rattle.step_world.specs.declared.processes.DiskProcess.{DiskProcess}
use Rattle.step_world.specs.declared.processes.Sender.{Sender}

-- how often a path carries a message
abbrev pub copies_of : {A : Type 0} → Passage → A → List A
copies_of Carry m = m ∷ []
copies_of Repeat m = m ∷ m ∷ []
copies_of LoseRequest m = []
copies_of LoseReply m = m ∷ []

-- a request with a new sync is served, and any other changes nothing
abbrev pub Handles : Kept → ℕ → ℕ → Request → Kept → Type 0
Handles k opener sync request after = (((opener_in k opener).last < sync) × (after ≡ served k opener sync request)) ⊎ ((sync ≤ (opener_in k opener).last) × (after ≡ k))

-- the oldest message is served and gone
pub record TakesOldest (old new : DiskProcess) (sender : Sender) : Type 0 where
  pub envelope : Envelope
  pub spelled : IsEnvelope envelope
  pub oldest : old.mail ≡ request_bytes envelope ∷ new.mail
  pub opener : sender.opener ≡ envelope.opener
  pub sync : sender.sync ≡ envelope.sync
  pub handled : Handles old.partition envelope.opener envelope.sync envelope.request new.partition

-- no later request of the opener was served than the one with this sync, and no mark stands
pub record CanReply (k : Kept) (opener sync : ℕ) : Type 0 where
  pub openers : length k.now.openers ≡ 8
  pub marks : k.marks ≡ replicate 8 None
  pub last : (opener_of k.now opener).last ≤ sync
