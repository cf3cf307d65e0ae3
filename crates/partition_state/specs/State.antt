-- What a partition keeps.
use Rattle.std.specs.Prelude.{ℕ, ◌-◌, List, [], ◌∷◌, ◌++◌, map, find, replicate, Option, Some, None, option_and_then, unwrap_or, slice_get, slice_set, Bool, false, if◌then◌else◌}
use Rattle.std.specs.List.{list_any}
use Rattle.sql_base.specs.Locks.{same_txn}
use Rattle.sql_base.specs.Rows.{key_of}
use Rattle.sql_base.specs.declared.lock_names.Lock.{Lock}
use Rattle.sql_base.specs.declared.lock_names.TxnName.{TxnName}
use Rattle.sql_base.specs.declared.scripts.Limits.{Limits}
use Rattle.sql_base.specs.declared.tables.TableDef.{TableDef}
use Rattle.sql_base.specs.declared.values.Value.{Value}
use Rattle.key_sequenced.specs.declared.Cell.{Cell}
use Rattle.subset_blocks.specs.declared.Numbered.{Numbered}
use Rattle.quantum_core.specs.declared.works.SetWork.{SetWork}
use Rattle.dp_messages.specs.declared.replies.Reply.{Reply}
use Rattle.partition_state.specs.declared.lives.Live.{Live}

-- what is kept of an opener: its last sync, whether want of memory starved that one, the reply to it, and its last ended ordinal
pub record Opener : Type 0 where
  pub last : ℕ
  pub starved : Bool
  pub kept : Option Reply
  pub ended : ℕ

-- a partition: its table, its place among the table's partitions, and all that requests change
pub record State : Type 0 where
  pub table : TableDef
  pub place : ℕ
  pub limits : Limits
  pub cells : List Cell
  pub locks : List Lock
  pub blocks : List (Numbered SetWork)
  pub openers : List Opener
  pub lives : List Live
  pub high : ℕ

abbrev pub new_opener : Opener
new_opener = record { last = 0; starved = false; kept = None; ended = 0 }

abbrev pub new_cell : TableDef → List Value → Cell
new_cell table row = record { key = key_of table row; now = Some row; was = None; writer = None }

-- a partition as it begins, with the records that were loaded
abbrev pub opening : TableDef → ℕ → Limits → List (List Value) → State
opening table place limits rows =
    record { table = table; place = place; limits = limits; cells = map (new_cell table) rows; locks = []; blocks = []; openers = replicate 8 new_opener; lives = []; high = 0 }

-- openers count from 1
abbrev pub opener_of : State → ℕ → Opener
opener_of p opener = unwrap_or (slice_get p.openers (opener - 1)) new_opener

abbrev pub with_opener : State → ℕ → Opener → State
with_opener p opener now = record p { openers = slice_set p.openers (opener - 1) now }

abbrev pub is_live : State → TxnName → Bool
is_live p t = list_any (λ l. same_txn l.name t) p.lives

-- the floor with which t has prepared here
abbrev pub floor_of : State → TxnName → Option ℕ
floor_of p t = option_and_then (λ l. l.floor) (find (λ l. same_txn l.name t) p.lives)

-- the live transactions with t among them
abbrev pub enlisted : TxnName → List Live → List Live
enlisted t lives = if list_any (λ l. same_txn l.name t) lives then lives else lives ++ record { name = t; floor = None } ∷ []

-- the partition with t live in it
abbrev pub with_live : State → TxnName → State
with_live p t = record p { lives = enlisted t p.lives }
