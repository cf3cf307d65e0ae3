-- What the first quantum of a block comes to.
use Rattle.std.specs.Prelude.{◌≡◌, ℕ, List, [], Option, Some, None}
use Rattle.sql_base.specs.declared.lock_names.Lock.{Lock}
use Rattle.subset_blocks.specs.declared.Block.{Block}
use Rattle.quantum_core.specs.declared.works.SetWork.{SetWork}
use Rattle.quantum_runner.specs.Scaffold.Plans.{IsWalk}
use Rattle.partition_state.specs.State.{State}
use Rattle.partition_state.specs.Step.{against_granule, as_row}
use Rattle.quantum_core.specs.declared.replies.QuantumReply.{QuantumReply}
use Rattle.quantum_core.specs.declared.replies.QuantumReply.TheVariants as answers
use Rattle.quantum_runner.specs.declared.planned.Planned.{Planned}
use Rattle.quantum_runner.specs.declared.planned.Walk.{Walk}
use Rattle.dp_messages.specs.declared.replies.Reply.{Reply}
use Rattle.dp_messages.specs.declared.replies.Reply.TheVariants.{Ended, Redrive, Locked, Failed}
use Rattle.sql_base.specs.declared.key_ranges.Start.TheVariants.{After}
use Rattle.partition_core.specs.Scaffold.Changes.{granule_wanted}
use Rattle.partition_core.specs.declared.begins.First.{First}
use Rattle.partition_core.specs.declared.changes.Change.{Change}
use Rattle.partition_core.specs.declared.changes.Change.TheVariants.{Stays, Begins, Advances, Closes}
use Rattle.partition_core.specs.declared.begins.First.TheVariants.{Barred, Walked}

-- the lock against the granule, or else the walk of the quantum
abbrev pub IsFirst : State → Block SetWork → List ℕ → First → Type 0
IsFirst p block granule (Barred lock) = against_granule p block granule block.access ≡ Some lock
IsFirst p block granule (Walked walk) = (against_granule p block granule block.access ≡ None) × IsWalk p.limits p.table p.cells p.locks block walk

-- what the next quantum of a block comes to, by its walk
abbrev pub next_reply : ℕ → QuantumReply → Reply
next_reply subset (answers.Ended rows changed) = Ended rows changed
next_reply subset (answers.Redrive last cause rows changed) = Redrive subset last cause rows changed
next_reply subset (answers.Locked lock) = Locked lock
next_reply subset (answers.Failed key fault) = Failed key fault

abbrev pub next_by : ℕ → List Planned → QuantumReply → Change
next_by subset plans (answers.Ended rows changed) = Closes plans subset
next_by subset plans (answers.Redrive last cause rows changed) = Advances plans subset last
next_by subset plans (answers.Locked lock) = Stays
next_by subset plans (answers.Failed key fault) = Stays

abbrev pub next_change : ℕ → Walk → Change
next_change subset walk = next_by subset walk.plans walk.reply

-- what the quantum of one key comes to, which never goes on
abbrev pub key_reply : QuantumReply → Reply
key_reply (answers.Ended rows changed) = as_row (Ended rows changed)
key_reply (answers.Redrive last cause rows changed) = Redrive 0 last cause rows changed
key_reply (answers.Locked lock) = Locked lock
key_reply (answers.Failed key fault) = Failed key fault

abbrev pub key_by : Option Lock → List Planned → QuantumReply → Change
key_by lock plans (answers.Ended rows changed) = Begins plans lock None
key_by lock plans (answers.Redrive last cause rows changed) = Begins [] None None
key_by lock plans (answers.Locked bar) = Begins [] None None
key_by lock plans (answers.Failed key fault) = Begins [] None None

abbrev pub key_change : Option Lock → Walk → Change
key_change lock walk = key_by lock walk.plans walk.reply

-- what the first quantum of a block comes to, where a new block has this number
abbrev pub first_reply : ℕ → QuantumReply → Reply
first_reply subset (answers.Ended rows changed) = Ended rows changed
first_reply subset (answers.Redrive last cause rows changed) = Redrive subset last cause rows changed
first_reply subset (answers.Locked lock) = Locked lock
first_reply subset (answers.Failed key fault) = Failed key fault

abbrev pub first_by : ℕ → Block SetWork → List ℕ → List Planned → QuantumReply → Change
first_by subset block granule plans (answers.Ended rows changed) = Begins plans (granule_wanted block granule block.access) None
first_by subset block granule plans (answers.Redrive last cause rows changed) =
    Begins plans (granule_wanted block granule block.access) (Some (record { number = subset; block = record block { start = After last } }))
first_by subset block granule plans (answers.Locked lock) = Begins [] None None
first_by subset block granule plans (answers.Failed key fault) = Begins [] None None

abbrev pub first_change : ℕ → Block SetWork → List ℕ → Walk → Change
first_change subset block granule walk = first_by subset block granule walk.plans walk.reply
