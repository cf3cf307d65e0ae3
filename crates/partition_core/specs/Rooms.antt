-- The room that changes need, and the room in the history that is kept back for what settles the live transactions.
use Rattle.std.specs.Prelude.{◌≡◌, ◌≤◌, ◌<◌, ℕ, ◌+◌, List, [], ◌∷◌, length, Option, Some, None, Bool, true, false, is_none, ◌&&◌, vec_len, vec_capacity}
use Rattle.sql_base.specs.declared.lock_names.TxnName.{TxnName}
use Rattle.dp_messages.specs.declared.requests.Ask.{Ask}
use Rattle.partition_state.specs.State.{State, floor_of, is_live}
use Rattle.partition_state.specs.declared.lives.Live.{Live}
use Rattle.partition_core.specs.Scaffold.Changes.{changed}
use Rattle.partition_core.specs.Scaffold.Contents.{IsServing, parts_of}
use Rattle.partition_core.specs.Settling.{settles}
use Rattle.partition_core.specs.declared.changes.Change.{Change}
use Rattle.partition_core.specs.declared.changes.Change.TheVariants.{Begins, Advances, Closes, Inserts, Prepares, Commits, Undoes}
use Rattle.partition_core.specs.declared.contents.Contents.{Contents}

-- room for one more of each, and for so many changes of cells
pub record HasRoom (plans : ℕ) (c : Contents) : Type 0 where
  pub cells : 0 < c.store.file.spare
  pub locks : plans < c.store.locks.spare
  pub blocks : vec_len c.blocks < vec_capacity c.blocks
  pub lives : vec_len c.lives < vec_capacity c.lives

-- the room that a change needs; what prepares or ends a transaction needs none
abbrev pub HasRoomFor : Change → Contents → Type 0
HasRoomFor (Begins plans granule opened) c = HasRoom (length plans) c
HasRoomFor (Advances plans subset last) c = HasRoom (length plans) c
HasRoomFor (Closes plans subset) c = HasRoom (length plans) c
HasRoomFor (Inserts key row lock) c = HasRoom 0 c
HasRoomFor change c = Unit {0}

-- a transaction with this floor, if it has prepared, has its End before it, and else its Prepare too
abbrev pub ends_left : Option ℕ → ℕ
ends_left None = 2
ends_left (Some floor) = 1

-- the entries for which room is kept back
abbrev pub kept_back : List Live → ℕ
kept_back [] = 0
kept_back (l ∷ lives) = ends_left l.floor + kept_back lives

abbrev pub IsKeptBack : Contents → Type 0
IsKeptBack c = vec_len c.history + kept_back c.lives.items ≤ vec_capacity c.history

-- room for one more entry, and for those that are kept back after a change
abbrev pub IsKeptBackAfter : TxnName → Change → Contents → Type 0
IsKeptBackAfter t change c = vec_len c.history + 1 + kept_back (changed (parts_of c) t change).lives ≤ vec_capacity c.history

-- the entry of the change takes room that is kept back
abbrev pub takes_kept_back : State → TxnName → Change → Bool
takes_kept_back p t Prepares = is_live p t && is_none (floor_of p t)
takes_kept_back p t (Commits stamp) = is_live p t
takes_kept_back p t Undoes = is_live p t
takes_kept_back p t change = false

-- a request that settles its transaction comes to such a change
abbrev pub IsSettled : State → TxnName → Ask → Change → Type 0
IsSettled p t ask change = settles p t ask ≡ true → takes_kept_back p t change ≡ true

-- what holds between two requests, with the room that is kept back
pub record IsReady (c : Contents) : Type 0 where
  pub serving : IsServing (parts_of c)
  pub room : IsKeptBack c
