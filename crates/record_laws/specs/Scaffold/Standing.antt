-- What a partition keeps of a session, and where the session stands by it.
use Rattle.std.specs.Prelude.{◌≡◌, ◌≤◌, ◌<◌, ◌⊎◌, ◌==◌, ◌-◌, ℕ, List, [], ◌∷◌, length, map, filter, slice_set, Option, Some, None, Bool, not}
use Rattle.std.specs.List.{AllByRecursion}
use Rattle.sql_base.specs.Locks.{same_txn}
use Rattle.sql_base.specs.Scripts.{Lies}
use Rattle.sql_base.specs.declared.key_ranges.Start.TheVariants.{After}
use Rattle.sql_base.specs.declared.lock_names.TxnName.{TxnName}
use Rattle.key_sequenced.specs.Cells.{AreCells}
use Rattle.subset_blocks.specs.Blocks.{NumbersDiffer, advanced, closed, closed_of, find_block, free_number, opened}
use Rattle.subset_blocks.specs.declared.Block.{Block}
use Rattle.subset_blocks.specs.declared.Numbered.{Numbered}
use Rattle.quantum_core.specs.declared.works.SetWork.{SetWork}
use Rattle.dp_messages.specs.declared.replies.Reply.{Reply as PartitionReply}
use Rattle.dp_messages.specs.declared.replies.Reply.TheVariants as reply
use Rattle.dp_messages.specs.declared.requests.Ask.{Ask}
use Rattle.dp_messages.specs.declared.requests.Ask.TheVariants.{Continue, Prepare, EndCommit, EndUndo}
use Rattle.partition_state.specs.State.{State, enlisted, floor_of, opener_of}
use Rattle.partition_state.specs.Step.{Answered, prepared}
use Rattle.partition_state.specs.declared.lives.Live.{Live}
use Rattle.record_laws.specs.Scaffold.Lanes.{Stand, Over, Between, Within, Ready, Stamped, Lost, Gone}

-- its live transactions and its subsets
abbrev pub is_live_of : ℕ → Live → Bool
is_live_of session l = l.name.session == session

abbrev pub is_block_of : ℕ → Numbered SetWork → Bool
is_block_of session b = b.block.holder.session == session

-- what the partition keeps of a session, but for its last sync
pub record View : Type 0 where
  pub lives : List Live
  pub blocks : List (Numbered SetWork)
  pub ended : ℕ

abbrev pub view : State → ℕ → View
view p session = record { lives = filter (is_live_of session) p.lives; blocks = filter (is_block_of session) p.blocks; ended = (opener_of p session).ended }

abbrev pub name : ℕ → ℕ → TxnName
name session ordinal = record { session = session; ordinal = ordinal }

abbrev pub live : ℕ → ℕ → Option ℕ → Live
live session ordinal floor = record { name = name session ordinal; floor = floor }

-- the one subset under way goes on after the key
abbrev pub IsSubset : ℕ → ℕ → ℕ → List ℕ → List (Numbered SetWork) → Type 0
IsSubset session ordinal number key blocks =
    (b : Numbered SetWork) × (blocks ≡ b ∷ []) × (b.number ≡ number) × (b.block.holder ≡ name session ordinal) × (b.block.start ≡ After key)

-- one subset at most, of the attempt
abbrev pub AreFew : ℕ → ℕ → List (Numbered SetWork) → Type 0
AreFew session ordinal blocks = (length blocks ≤ 1) × AllByRecursion (λ b. b.block.holder ≡ name session ordinal) blocks

-- the session stands so with the partition
abbrev pub Stands : View → ℕ → Stand → Type 0
Stands v session (Over last) = (v.lives ≡ []) × (v.blocks ≡ []) × (v.ended ≤ last)
Stands v session (Between ordinal) = (v.lives ≡ live session ordinal None ∷ []) × (v.blocks ≡ []) × (v.ended < ordinal)
Stands v session (Within ordinal number key) = (v.lives ≡ live session ordinal None ∷ []) × IsSubset session ordinal number key v.blocks × (v.ended < ordinal)
Stands v session (Ready ordinal floor) = (v.lives ≡ live session ordinal (Some floor) ∷ []) × (v.blocks ≡ []) × (v.ended < ordinal)
Stands v session (Stamped ordinal floor stamp) = (v.lives ≡ live session ordinal (Some floor) ∷ []) × (v.blocks ≡ []) × (v.ended < ordinal) × (floor < stamp)
Stands v session (Lost ordinal) = AllByRecursion (λ l. l.name ≡ name session ordinal) v.lives × AreFew session ordinal v.blocks × (v.ended < ordinal)
Stands v session Gone = length v.blocks ≤ 1

-- the subsets after the first quantum of one, and after a further quantum of it
abbrev pub Opens : State → TxnName → PartitionReply → List (Numbered SetWork) → Type 0
Opens p t (reply.Redrive subset last cause rows changed) blocks =
    (block : Block SetWork) × (block.holder ≡ t) × (block.start ≡ After last) × (subset ≡ free_number p.blocks) × (blocks ≡ opened block p.blocks)
Opens p t other blocks = blocks ≡ p.blocks

abbrev pub GoesOn : State → Numbered SetWork → PartitionReply → List (Numbered SetWork) → Type 0
GoesOn p b (reply.Redrive subset last cause rows changed) blocks = (subset ≡ b.number) × (blocks ≡ advanced b.number last p.blocks)
GoesOn p b (reply.Ended rows changed) blocks = blocks ≡ closed b.number p.blocks
GoesOn p b other blocks = blocks ≡ p.blocks

-- a floor is kept, or was kept before
abbrev pub Prepares : State → TxnName → ℕ → List Live → Type 0
Prepares p t floor lives = ((floor_of p t ≡ Some floor) × (lives ≡ p.lives)) ⊎ ((floor_of p t ≡ None) × (lives ≡ map (prepared t floor) p.lives))

-- what an accepted request leaves of live transactions, subsets and openers
abbrev pub Effect : State → TxnName → Ask → Answered → Type 0
Effect p t (Continue subset last) a =
    (b : Numbered SetWork) × (find_block subset t p.blocks ≡ Some b) × (a.state.lives ≡ p.lives) × GoesOn p b a.reply a.state.blocks × (a.state.openers ≡ p.openers)
Effect p t Prepare a = (floor : ℕ) × (a.reply ≡ reply.Floor floor) × Prepares p t floor a.state.lives × (a.state.blocks ≡ p.blocks) × (a.state.openers ≡ p.openers)
Effect p t (EndCommit stamp) a =
    (a.reply ≡ reply.Done) × (a.state.lives ≡ filter (λ l. not (same_txn l.name t)) p.lives) × (a.state.blocks ≡ closed_of t p.blocks)
    × (a.state.openers ≡ slice_set p.openers (t.session - 1) (record (opener_of p t.session) { ended = t.ordinal }))
Effect p t EndUndo a =
    (a.reply ≡ reply.Done) × (a.state.lives ≡ filter (λ l. not (same_txn l.name t)) p.lives) × (a.state.blocks ≡ closed_of t p.blocks)
    × (a.state.openers ≡ slice_set p.openers (t.session - 1) (record (opener_of p t.session) { ended = t.ordinal }))
Effect p t other a = (a.state.lives ≡ enlisted t p.lives) × Opens p t a.reply a.state.blocks × (a.state.openers ≡ p.openers)

-- what every partition keeps: rising keys, subsets of different numbers that belong to openers, as live transactions do, and its openers
pub record Orderly (p : State) : Type 0 where
  pub cells : AreCells p.cells
  pub numbers : NumbersDiffer p.blocks
  pub owners : AllByRecursion (λ b. Lies 1 8 b.block.holder.session) p.blocks
  pub livers : AllByRecursion (λ l. Lies 1 8 l.name.session) p.lives
  pub openers : length p.openers ≡ 8
