-- What a change makes of a partition, and what a judgement says of a request.
use Rattle.std.specs.Prelude.{◌≤◌, ℕ, ◌-◌, List, [], ◌∷◌, ◌++◌, length, filter, map, max, slice_set, Option, Some, None, not}
use Rattle.sql_base.specs.Locks.{granted, released, same_txn}
use Rattle.sql_base.specs.declared.lock_names.Access.{Access}
use Rattle.sql_base.specs.declared.lock_names.Access.TheVariants.{Repeatable}
use Rattle.sql_base.specs.declared.lock_names.Lock.{Lock}
use Rattle.sql_base.specs.declared.lock_names.TxnName.{TxnName}
use Rattle.key_sequenced.specs.Cells.{inserted, restored, cells_settled}
use Rattle.key_sequenced.specs.declared.Cell.{Cell}
use Rattle.subset_blocks.specs.Blocks.{advanced, closed, closed_of}
use Rattle.subset_blocks.specs.declared.Block.{Block}
use Rattle.subset_blocks.specs.declared.Numbered.{Numbered}
use Rattle.sync_messages.specs.Openers.{kept_as}
use Rattle.quantum_core.specs.declared.works.SetWork.{SetWork}
use Rattle.quantum_runner.specs.Scaffold.Plans.{granted_by, rewritten_by}
use Rattle.quantum_runner.specs.Scaffold.Works.{IsWork}
use Rattle.quantum_runner.specs.declared.planned.Planned.{Planned}
use Rattle.partition_state.specs.State.{State, enlisted}
use Rattle.partition_state.specs.Step.{Answered, transaction_ended, mode_of, prepared}
use Rattle.partition_state.specs.declared.entries.Entry.{Entry}
use Rattle.partition_core.specs.Scaffold.Contents.{Parts}
use Rattle.partition_core.specs.declared.changes.Change.{Change}
use Rattle.partition_core.specs.declared.changes.Change.TheVariants.{Stays, Begins, Advances, Closes, Inserts, Prepares, Commits, Undoes}
use Rattle.partition_core.specs.declared.changes.Judgement.{Judgement}

abbrev pub locks_with : Option Lock → List Lock → List Lock
locks_with None locks = locks
locks_with (Some lock) locks = granted lock locks

abbrev pub blocks_with : Option (Numbered SetWork) → List (Numbered SetWork) → List (Numbered SetWork)
blocks_with None blocks = blocks
blocks_with (Some b) blocks = blocks ++ b ∷ []

-- a partition after a change
abbrev pub after : State → TxnName → Change → State
after p t Stays = p
after p t (Begins plans granule opened) =
    record p { lives = enlisted t p.lives; cells = rewritten_by plans p.cells; locks = locks_with granule (granted_by plans p.locks); blocks = blocks_with opened p.blocks }
after p t (Advances plans subset last) = record p { cells = rewritten_by plans p.cells; locks = granted_by plans p.locks; blocks = advanced subset last p.blocks }
after p t (Closes plans subset) = record p { cells = rewritten_by plans p.cells; locks = granted_by plans p.locks; blocks = closed subset p.blocks }
after p t (Inserts key row lock) = record p { lives = enlisted t p.lives; cells = inserted t key row p.cells; locks = granted lock p.locks }
after p t Prepares = record p { lives = map (prepared t p.high) p.lives }
after p t (Commits stamp) = record (transaction_ended p t (cells_settled t p.cells)) { high = max p.high stamp }
after p t Undoes = transaction_ended p t (restored t p.cells)

-- what a judgement says
abbrev pub tells : State → TxnName → Judgement → Answered
tells p t j = record { reply = j.reply; state = after p t j.change }

-- the parts at the end of t, with these cells
abbrev pub ended_parts : Parts → TxnName → List Cell → Parts
ended_parts q t cells =
    record q { cells = cells; locks = released t q.locks; blocks = closed_of t q.blocks; lives = filter (λ l. not (same_txn l.name t)) q.lives; ended = slice_set q.ended (t.session - 1) t.ordinal }

-- the parts after a change
abbrev pub changed : Parts → TxnName → Change → Parts
changed q t Stays = q
changed q t (Begins plans granule opened) =
    record q { lives = enlisted t q.lives; cells = rewritten_by plans q.cells; locks = locks_with granule (granted_by plans q.locks); blocks = blocks_with opened q.blocks }
changed q t (Advances plans subset last) = record q { cells = rewritten_by plans q.cells; locks = granted_by plans q.locks; blocks = advanced subset last q.blocks }
changed q t (Closes plans subset) = record q { cells = rewritten_by plans q.cells; locks = granted_by plans q.locks; blocks = closed subset q.blocks }
changed q t (Inserts key row lock) = record q { lives = enlisted t q.lives; cells = inserted t key row q.cells; locks = granted lock q.locks }
changed q t Prepares = record q { lives = map (prepared t q.high) q.lives }
changed q t (Commits stamp) = record (ended_parts q t (cells_settled t q.cells)) { high = max q.high stamp }
changed q t Undoes = ended_parts q t (restored t q.cells)

-- the parts with an entry noted
abbrev pub noted_parts : Parts → Entry → Parts
noted_parts q e = record q { seats = slice_set q.seats (e.opener - 1) (kept_as e.sync (length q.history)); history = q.history ++ e ∷ [] }

-- under REPEATABLE, the lock on the granule
abbrev pub granule_wanted : Block SetWork → List ℕ → Access → Option Lock
granule_wanted block granule Repeatable = Some (record { holder = block.holder; prefix = granule; mode = mode_of block.work.doing })
granule_wanted block granule access = None

abbrev pub plans_in : Change → List Planned
plans_in Stays = []
plans_in (Begins plans granule opened) = plans
plans_in (Advances plans subset last) = plans
plans_in (Closes plans subset) = plans
plans_in (Inserts key row lock) = []
plans_in Prepares = []
plans_in (Commits stamp) = []
plans_in Undoes = []

-- the work of an opened block is of the table
abbrev pub FitsOpened : Parts → Option (Numbered SetWork) → Type 0
FitsOpened q None = Unit {0}
FitsOpened q (Some b) = IsWork q.table b.block.work

abbrev pub opened_in : Change → Option (Numbered SetWork)
opened_in (Begins plans granule opened) = opened
opened_in change = None

-- a quantum changes no more records than QUANTUM, and the work of an opened block is of the table
pub record IsFitting (q : Parts) (change : Change) : Type 0 where
  pub few : length (plans_in change) ≤ 1000
  pub opened : FitsOpened q (opened_in change)
