-- A partition with its history, and what its calls say.
use Rattle.std.specs.Prelude.{◌≡◌, ◌<◌, ◌≤◌, ◌⊎◌, ℕ, ◌-◌, List, [], ◌∷◌, ◌++◌, filter_map, replicate, slice_get, slice_set, unwrap_or, Option, Some, None, true, false}
use Rattle.sql_base.specs.declared.values.Value.{Value}
use Rattle.dp_messages.specs.declared.requests.Request.{Request}
use Rattle.partition_state.specs.State.{State, Opener, opener_of}
use Rattle.partition_state.specs.Step.{step, answered}
use Rattle.partition_state.specs.History.{IsLegal, replay}
use Rattle.partition_state.specs.declared.entries.Entry.{Entry}
use Rattle.partition_core.specs.declared.partitions.Served.{Served}
use Rattle.partition_core.specs.declared.partitions.Served.TheVariants.{New, Repeat, Old, Starved}
use Rattle.partition_core.specs.declared.partitions.Pick.{Pick}
use Rattle.partition_core.specs.declared.partitions.Pick.TheVariants as pick

-- the state that a partition opened in, the state now, what was served in between, and each opener's mark:
-- the sync above its last served one for which memory was short, if there is one
pub record Kept : Type 0 where
  pub opening : State
  pub now : State
  pub history : List Entry
  pub marks : List (Option ℕ)

-- the history is legal from the opening, and leads to the state now
pub record IsReplayed (k : Kept) : Type 0 where
  pub legal : IsLegal k.opening k.history
  pub replayed : k.now ≡ replay k.opening k.history

-- nothing has been served yet
abbrev pub opened_with : State → Kept
opened_with p = record { opening = p; now = p; history = []; marks = replicate 8 None }

-- an opener whose last sync was starved
abbrev pub marked : Option ℕ → Opener → Opener
marked None o = o
marked (Some sync) o = record o { last = sync; starved = true }

-- what is kept of an opener: as the history leaves it, but for its last sync and its mark
abbrev pub opener_in : Kept → ℕ → Opener
opener_in k opener = marked (unwrap_or (slice_get k.marks (opener - 1)) None) (opener_of k.now opener)

-- no mark is below the last sync that was served
abbrev pub AreMarked : Kept → Type 0
AreMarked k = (opener : ℕ) → (opener_of k.now opener).last ≤ (opener_in k opener).last

-- the rows of the cells that aren't deleted
abbrev pub rows_in : Kept → List (List Value)
rows_in k = filter_map (λ cell. cell.now) k.now.cells

-- the entry of a request with a new sync
abbrev pub entry_of : State → ℕ → ℕ → Request → Entry
entry_of p opener sync request =
    record { opener = opener; sync = sync; request = request; reply = (answered p (record { session = opener; ordinal = request.ordinal }) request.ask).reply }

-- one more request served
abbrev pub served : Kept → ℕ → ℕ → Request → Kept
served k opener sync request =
    record k { now = (step k.now opener sync request).state; history = k.history ++ entry_of k.now opener sync request ∷ []; marks = slice_set k.marks (opener - 1) None }

-- memory was short for a sync
abbrev pub starved : Kept → ℕ → ℕ → Kept
starved k opener sync = record k { marks = slice_set k.marks (opener - 1) (Some sync) }

-- when each answer to a request comes, and what it leaves
abbrev pub Serves : Kept → ℕ → ℕ → Request → Served → Kept → Type 0
Serves k opener sync request New after = ((opener_in k opener).last < sync) × (after ≡ served k opener sync request)
Serves k opener sync request Repeat after = (sync ≡ (opener_in k opener).last) × ((opener_in k opener).starved ≡ false) × (after ≡ k)
Serves k opener sync request Old after = (sync < (opener_in k opener).last) × (after ≡ k)
Serves k opener sync request Starved after =
    (((opener_in k opener).last < sync) × (after ≡ starved k opener sync)) ⊎ ((sync ≡ (opener_in k opener).last) × ((opener_in k opener).starved ≡ true) × (after ≡ k))

-- when there is what for the opener that asks for the reply to a sync
abbrev pub Picks : Opener → ℕ → Pick → Type 0
Picks o sync (pick.Reply reply) = (o.last ≡ sync) × (o.starved ≡ false) × (o.kept ≡ Some reply.now)
Picks o sync pick.Pending = o.last < sync
Picks o sync pick.Passed = (sync < o.last) × (o.starved ≡ false)
Picks o sync pick.Starved = (sync ≤ o.last) × (o.starved ≡ true)
