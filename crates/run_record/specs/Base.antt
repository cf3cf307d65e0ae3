-- The records as the commits in stamp order leave them.
use Rattle.std.specs.Prelude.{ℕ, ◌+◌, nat_lt, List, [], ◌∷◌, length, map, filter, flat_map, take, drop, fold, position, option_map, unwrap_or, ◌&&◌}
use Rattle.key_sequenced.specs.Cells.{Keyed, records}
use Rattle.partition_state.specs.State.{State}
use Rattle.partition_state.specs.History.{before}
use Rattle.one_thread.specs.One.{World}
use Rattle.run_record.specs.Openings.{by_part, openings}
use Rattle.key_sequenced.specs.Changes.{Change, laid}
use Rattle.partition_state.specs.Commits.{is_commit, is_of, pending}
use Rattle.sql_base.specs.declared.lock_names.TxnName.{TxnName}
use Rattle.sql_base.specs.declared.scripts.Script.{Script}
use Rattle.sql_base.specs.declared.tables.TableDef.{TableDef}
use Rattle.sql_base.specs.declared.values.Value.{Value}
use Rattle.commit_journal.specs.declared.Drawn.{Drawn}
use Rattle.partition_state.specs.declared.entries.Entry.{Entry}
use Rattle.run_record.specs.declared.records.RunRecord.{RunRecord}

-- the changes of t in a partition, just before its EndCommit there; none without one
abbrev pub changes : State → List Entry → TxnName → List Change
changes p history t = unwrap_or (option_map (λ i. pending t (before p history i)) (position (λ e. is_of t e && is_commit e.request.ask) history)) []

-- the opening records of a partition with its changes of all commits below a stamp laid over them, in stamp order
abbrev pub base_of : State → List Entry → List Drawn → ℕ → List Keyed
base_of p history journal stamp = fold (λ held d. laid held (changes p history d.name)) (records p.cells) (filter (λ d. nat_lt d.stamp stamp) journal)

-- the partitions of each table, one after the other
abbrev pub by_table : List TableDef → List (List Keyed) → List (List (List Value))
by_table [] parts = []
by_table (table ∷ tables) parts =
    let n = length table.firsts + 1 in
    flat_map (λ held. map (λ k. k.row) held) (take n parts) ∷ by_table tables (drop n parts)

-- the tables below a stamp
abbrev pub base : Script → RunRecord → ℕ → World
base script kept stamp = record { tables = script.tables; records = by_table script.tables (by_part (λ p history. base_of p history kept.journal stamp) (openings script) kept.histories) }
