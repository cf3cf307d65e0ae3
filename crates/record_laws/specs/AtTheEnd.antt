-- What a run leaves in its partitions when it is over.
use Rattle.std.specs.Prelude.{◌≡◌, ◌<◌, ℕ, [], length, slice_get, Some, None}
use Rattle.std.specs.List.{AllByRecursion}
use Rattle.sql_base.specs.declared.scripts.Script.{Script}
use Rattle.partition_state.specs.History.{replay}
use Rattle.partition_state.specs.State.{State}
use Rattle.run_record.specs.Openings.{history_of, openings}
use Rattle.run_record.specs.declared.records.RunRecord.{RunRecord}

-- at the end no transaction is live in a partition, and no subset is under way
abbrev pub NothingLive : Script → RunRecord → Type 0
NothingLive script kept =
    (part : ℕ) (p : State) → part < length kept.histories → slice_get (openings script) part ≡ Some p
    → ((replay p (history_of kept part)).lives ≡ []) × ((replay p (history_of kept part)).blocks ≡ [])

-- and no cell has a writer
abbrev pub NothingPends : Script → RunRecord → Type 0
NothingPends script kept =
    (part : ℕ) (p : State) → part < length kept.histories → slice_get (openings script) part ≡ Some p
    → AllByRecursion (λ cell. cell.writer ≡ None) (replay p (history_of kept part)).cells
