-- What the fields of a partition mean.
use Rattle.std.specs.Prelude.{◌≡◌, ◌≤◌, ◌<◌, ℕ, List, [], ◌∷◌, length, map, slice_get, Option, Some, None, option_and_then, false, if◌then◌else◌}
use Rattle.std.specs.List.{AllByRecursion}
use Rattle.sql_base.specs.Rows.{IsRow, key_width, kinds}
use Rattle.sql_base.specs.Scripts.{AreLimits}
use Rattle.sql_base.specs.Tables.{IsTable, first_keys}
use Rattle.sql_base.specs.declared.lock_names.Lock.{Lock}
use Rattle.sql_base.specs.declared.scripts.Limits.{Limits}
use Rattle.sql_base.specs.declared.tables.ColumnKind.{ColumnKind}
use Rattle.sql_base.specs.declared.tables.TableDef.{TableDef}
use Rattle.sql_base.specs.declared.values.Value.{Value}
use Rattle.key_sequenced.specs.declared.Cell.{Cell}
use Rattle.sync_messages.specs.declared.Seat.{Seat}
use Rattle.subset_blocks.specs.declared.Numbered.{Numbered}
use Rattle.quantum_core.specs.declared.works.SetWork.{SetWork}
use Rattle.quantum_runner.specs.Scaffold.Works.{IsWork}
use Rattle.partition_state.specs.State.{State, Opener, opening}
use Rattle.partition_state.specs.declared.entries.Entry.{Entry}
use Rattle.partition_state.specs.declared.lives.Live.{Live}
use Rattle.partition_laws.specs.Keeping.{Keeps, RowsKeep}
use Rattle.partition_core.specs.Kept.{Kept, IsReplayed}
use Rattle.partition_core.specs.declared.contents.Contents.{Contents}

-- the fields as lists, whatever room they have
pub record Parts : Type 0 where
  pub table : TableDef
  pub place : ℕ
  pub limits : Limits
  pub width : ℕ
  pub kinds : List ColumnKind
  pub firsts : List (List ℕ)
  pub rows : List (List Value)
  pub cells : List Cell
  pub locks : List Lock
  pub blocks : List (Numbered SetWork)
  pub seats : List (Seat ℕ)
  pub ended : List ℕ
  pub lives : List Live
  pub high : ℕ
  pub history : List Entry

abbrev pub parts_of : Contents → Parts
parts_of c =
    record { table = c.table; place = c.place; limits = c.limits; width = c.width; kinds = c.kinds; firsts = c.firsts; rows = c.rows; cells = c.store.file.cells; locks = c.store.locks.locks; blocks = c.blocks.items; seats = c.seats; ended = c.ended; lives = c.lives.items; high = c.high; history = c.history.items }

-- an opener by its last entry and its last ended ordinal
abbrev pub opener_by : ℕ → Option Entry → Opener
opener_by ended None = record { last = 0; starved = false; kept = None; ended = ended }
opener_by ended (Some e) = record { last = e.sync; starved = false; kept = Some e.reply; ended = ended }

-- the last entry of a seat, by its place in the history
abbrev pub entry_at : List Entry → Option ℕ → Option Entry
entry_at history place = option_and_then (slice_get history) place

-- the openers that the seats keep, without their marks
abbrev pub openers_in : List Entry → List (Seat ℕ) → List ℕ → List Opener
openers_in history [] ended = []
openers_in history (seat ∷ seats) [] = []
openers_in history (seat ∷ seats) (e ∷ ended) = opener_by e (entry_at history seat.kept) ∷ openers_in history seats ended

abbrev pub mark_of : Seat ℕ → Option ℕ
mark_of seat = if seat.starved then Some seat.last else None

abbrev pub state_of : Parts → State
state_of q =
    record { table = q.table; place = q.place; limits = q.limits; cells = q.cells; locks = q.locks; blocks = q.blocks; openers = openers_in q.history q.seats q.ended; lives = q.lives; high = q.high }

abbrev pub kept_of : Parts → Kept
kept_of q = record { opening = opening q.table q.place q.limits q.rows; now = state_of q; history = q.history; marks = map mark_of q.seats }

-- what was worked out of the table
pub record IsFormed (q : Parts) : Type 0 where
  pub table : IsTable q.table
  pub limits : AreLimits q.limits
  pub width : q.width ≡ key_width q.table
  pub kinds : q.kinds ≡ kinds q.table
  pub firsts : q.firsts ≡ first_keys q.table

-- a seat names an entry of the history, whose sync is its last unless that one was starved
abbrev pub IsPlace : List Entry → Option ℕ → Type 0
IsPlace history None = Unit {0}
IsPlace history (Some place) = place < length history

pub record IsSeat (history : List Entry) (seat : Seat ℕ) : Type 0 where
  pub place : IsPlace history seat.kept
  pub last : (opener_by 0 (entry_at history seat.kept)).last ≤ seat.last
  pub unmarked : seat.starved ≡ false → seat.last ≡ (opener_by 0 (entry_at history seat.kept)).last

-- all cells hold rows of the table
abbrev pub IsRowAt : TableDef → List ℕ → List Value → Type 0
IsRowAt table key row = IsRow table row

-- what holds between two requests
pub record IsServing (q : Parts) : Type 0 where
  pub replayed : IsReplayed (kept_of q)
  pub formed : IsFormed q
  pub keeps : Keeps (state_of q)
  pub rows : RowsKeep (IsRowAt q.table) (state_of q)
  pub works : AllByRecursion (λ b. IsWork q.table b.block.work) q.blocks
  pub seats : AllByRecursion (IsSeat q.history) q.seats
  pub eight : length q.seats ≡ 8
  pub eight_ended : length q.ended ≡ 8
