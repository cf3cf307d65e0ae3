-- How a record's partitions begin, and how its parts are found.
use Rattle.std.specs.Prelude.{ℕ, ◌+◌, ◌-◌, ◌==◌, List, [], ◌∷◌, ◌++◌, length, map, filter, slice_get, unwrap_or}
use Rattle.std.specs.List.{range_with_len}
use Rattle.sql_base.specs.Rows.{key_of}
use Rattle.partition_map.specs.Map.{part_of}
use Rattle.key_sequenced.specs.Cells.{records}
use Rattle.partition_state.specs.History.{replay}
use Rattle.partition_state.specs.State.{State, opening}
use Rattle.one_thread.specs.One.{loaded}
use Rattle.sql_base.specs.declared.scripts.Limits.{Limits}
use Rattle.sql_base.specs.declared.scripts.Script.{Script}
use Rattle.sql_base.specs.declared.tables.TableDef.{TableDef}
use Rattle.sql_base.specs.declared.values.Value.{Value}
use Rattle.partition_state.specs.declared.entries.Entry.{Entry}
use Rattle.session_grammar.specs.declared.logs.LogEntry.{LogEntry}
use Rattle.run_record.specs.declared.records.RunRecord.{RunRecord}

-- the records that lie in one partition of their table
abbrev pub rows_in_part : TableDef → ℕ → List (List Value) → List (List Value)
rows_in_part table place rows = filter (λ row. part_of table (key_of table row) == place) rows

abbrev pub openings_from : Limits → List TableDef → List (List (List Value)) → List State
openings_from limits (table ∷ tables) (rows ∷ rest) =
    map (λ place. opening table place limits (rows_in_part table place rows)) (range_with_len 0 (length table.firsts + 1)) ++ openings_from limits tables rest
openings_from limits (table ∷ tables) [] = []
openings_from limits [] rest = []

-- the partitions of all tables as they begin, with the LOAD rows
abbrev pub openings : Script → List State
openings script = openings_from script.limits script.tables (loaded script).records

-- the history of a partition, counted from 0, and the log of a session, counted from 1
abbrev pub history_of : RunRecord → ℕ → List Entry
history_of kept part = unwrap_or (slice_get kept.histories part) []

abbrev pub log_of : RunRecord → ℕ → List LogEntry
log_of kept session = unwrap_or (slice_get kept.logs (session - 1)) []

-- one value for each partition, from its opening and history
abbrev pub by_part : {A : Type 0} → (State → List Entry → A) → List State → List (List Entry) → List A
by_part f (p ∷ ps) (h ∷ hs) = f p h ∷ by_part f ps hs
by_part f (p ∷ ps) [] = []
by_part f [] hs = []

-- the rows that a history leaves in its partition
abbrev pub rows_left : State → List Entry → List (List Value)
rows_left p history = map (λ k. k.row) (records (replay p history).cells)
