-- The tables as a commit sees them while its statements go on.
use Rattle.std.specs.Prelude.{◌≡◌, ◌≤◌, ℕ, ◌+◌, List, [], ◌∷◌, filter, length, slice_get, Some, true, Ok}
use Rattle.sql_base.specs.declared.lock_names.TxnName.{TxnName}
use Rattle.sql_base.specs.declared.scripts.Script.{Script}
use Rattle.sql_base.specs.declared.statements.Statement.{Statement}
use Rattle.commit_journal.specs.declared.Drawn.{Drawn}
use Rattle.key_sequenced.specs.Cells.{Keyed}
use Rattle.one_thread.specs.One.{World, one}
use Rattle.partition_state.specs.History.{before}
use Rattle.partition_state.specs.State.{State}
use Rattle.partition_state.specs.Step.{is_closing}
use Rattle.partition_state.specs.declared.entries.Entry.{Entry}
use Rattle.session_grammar.specs.Plans.{Asker}
use Rattle.session_grammar.specs.Rows.{is_for}
use Rattle.session_grammar.specs.declared.logs.LogEntry.{LogEntry}
use Rattle.run_record.specs.Base.{base_of, by_table}
use Rattle.run_record.specs.Openings.{by_part, openings}
use Rattle.key_sequenced.specs.Changes.{laid}
use Rattle.partition_state.specs.Commits.{pending}
use Rattle.partition_state.specs.Commits.{name_of}
use Rattle.run_record.specs.Serial.{part_gives}
use Rattle.run_record.specs.declared.records.RunRecord.{RunRecord}
use Rattle.serial_passes.specs.Scaffold.Walks.{NoneOf, Walk, place_of}

-- what a commit sees of a partition before its entry with a sync
abbrev pub view : RunRecord → Drawn → ℕ → State → List Entry → List Keyed
view kept d sync p history = laid (base_of p history kept.journal d.stamp) (pending d.name (before p history (place_of d.name.session sync history)))

abbrev pub views : Script → RunRecord → Drawn → ℕ → List (List Keyed)
views script kept d sync = by_part (view kept d sync) (openings script) kept.histories

abbrev pub world_at : Script → RunRecord → Drawn → ℕ → World
world_at script kept d sync = record { tables = script.tables; records = by_table script.tables (views script kept d sync) }

-- the entries of each part stand in a history in their order; behind them the commit only closes
abbrev pub Walks : List Entry → TxnName → ℕ → List (List LogEntry) → ℕ → Type 0
Walks history t part [] sync =
    (k : ℕ) (e : Entry) → slice_get history k ≡ Some e → name_of e ≡ t
    → (is_closing e.request.ask ≡ true → place_of t.session sync history ≤ k) × (place_of t.session sync history ≤ k → is_closing e.request.ask ≡ true)
Walks history t part (es ∷ parts) sync =
    Walk history t part (filter (is_for part) es) (place_of t.session sync history) (place_of t.session (sync + length es) history) × Walks history t part parts (sync + length es)

-- how the parts of a committed attempt stand in all histories, from the sync of its first entry on
pub record Stands (script : Script) (kept : RunRecord) (d : Drawn) (parts : List (List LogEntry)) : Type 0 where
  pub first : ℕ
  pub none_before : (part : ℕ) (p : State) (history : List Entry) → slice_get (openings script) part ≡ Some p → slice_get kept.histories part ≡ Some history
      → NoneOf history d.name 0 (place_of d.name.session first history)
  pub walks : (part : ℕ) (p : State) (history : List Entry) → slice_get (openings script) part ≡ Some p → slice_get kept.histories part ≡ Some history
      → Walks history d.name part parts first

-- each statement, run alone on what the commit sees before it, gives what its part gave and leaves what the commit sees behind it
abbrev pub AreSteps : Script → RunRecord → Drawn → Asker → List Statement → List (List LogEntry) → ℕ → Type 0
AreSteps script kept d r [] [] sync = Unit {0}
AreSteps script kept d r (statement ∷ statements) (part ∷ parts) sync =
    (one (world_at script kept d sync) statement ≡ (Ok (part_gives r statement part), world_at script kept d (sync + length part))) × AreSteps script kept d r statements parts (sync + length part)
AreSteps script kept d r [] (part ∷ parts) sync = ⊥
AreSteps script kept d r (statement ∷ statements) [] sync = ⊥

-- the sync behind all parts
abbrev pub sync_behind : List (List LogEntry) → ℕ → ℕ
sync_behind [] sync = sync
sync_behind (part ∷ parts) sync = sync_behind parts (sync + length part)
