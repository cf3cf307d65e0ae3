-- The list of a subset as one chain of entries, and the entries of a log that a history shows exactly.
use Rattle.std.specs.Prelude.{◌≡◌, ℕ, List, [], ◌∷◌, ◌++◌, Some}
use Rattle.std.specs.List.{AllByRecursion}
use Rattle.sql_base.specs.declared.key_ranges.KeyRange.{KeyRange}
use Rattle.sql_base.specs.declared.lock_names.TxnName.{TxnName}
use Rattle.key_sequenced.specs.Changes.{records_for}
use Rattle.serial_laws.specs.Scaffold.Exact.{StatementGivesWay}
use Rattle.sql_base.specs.declared.statements.Statement.{Statement}
use Rattle.sql_base.specs.declared.tables.TableDef.{TableDef}
use Rattle.key_sequenced.specs.Cells.{records}
use Rattle.key_sequenced.specs.declared.Cell.{Cell}
use Rattle.dp_messages.specs.declared.replies.Reply.{Reply as PartitionReply}
use Rattle.dp_messages.specs.declared.replies.Reply.TheVariants as reply
use Rattle.partition_state.specs.History.{replay}
use Rattle.partition_state.specs.State.{State}
use Rattle.partition_state.specs.Step.{step}
use Rattle.partition_state.specs.declared.entries.Entry.{Entry}
use Rattle.session_grammar.specs.declared.logs.Answer.TheVariants.{Reply, PathFailed, Stamp}
use Rattle.session_grammar.specs.declared.logs.LogEntry.{LogEntry}
use Rattle.session_grammar.specs.declared.logs.LogEntry.TheVariants.{Asked, Drew}
use Rattle.run_record.specs.Tiles.{Interval, FaultFree, Matches, inside, interval_of}
use Rattle.serial_laws.specs.Scaffold.Stages.{Stage, Onward, ask_at}

-- what comes behind a reply to a subset's request
abbrev pub GoesOn : PartitionReply → Stage → (Stage → Type 0) → List LogEntry → Type 0
GoesOn (reply.Locked lock) stage rest log = rest stage
GoesOn (reply.Redrive subset last cause rows changed) stage rest log = rest (Onward subset last)
GoesOn (reply.Ended rows changed) stage rest log = log ≡ []
GoesOn other stage rest log = ⊥

-- the entries of a subset from a stage on, one after the other, until Ended
abbrev pub Chain : ℕ → Statement → List ℕ → KeyRange → List LogEntry → Stage → Type 0
Chain ordinal statement granule range [] stage = ⊥
Chain ordinal statement granule range (Asked part sync request losses (Reply r) ∷ log) stage =
    (request ≡ record { ordinal = ordinal; ask = ask_at statement granule range stage }) × GoesOn r stage (λ next. Chain ordinal statement granule range log next) log
Chain ordinal statement granule range (Asked part sync request losses PathFailed ∷ log) stage = ⊥
Chain ordinal statement granule range (Asked part sync request losses (Stamp stamp) ∷ log) stage = ⊥
Chain ordinal statement granule range (Drew name floor answer ∷ log) stage = ⊥

-- the history has the entry of the opener with this sync, and this holds of the cells before and after it
pub record ShownIn (p : State) (history : List Entry) (opener sync : ℕ) (Q : List Cell → List Cell → Type 0) : Type 0 where
  pub front : List Entry
  pub entry : Entry
  pub back : List Entry
  pub is : history ≡ front ++ entry ∷ back
  pub opener_is : entry.opener ≡ opener
  pub sync_is : entry.sync ≡ sync
  pub holds : Q (replay p front).cells (step (replay p front) entry.opener entry.sync entry.request).state.cells

-- what an entry shows: nothing faults, it matches, and to a statement that gives way the records are those that its transaction sees
abbrev pub ShowsRight : TableDef → Statement → TxnName → Interval → PartitionReply → List Cell → List Cell → Type 0
ShowsRight table statement t i r held after =
    AllByRecursion (FaultFree table statement) (inside i (records held)) × Matches table statement i (records held) (records after) r
    × (StatementGivesWay statement → inside i (records held) ≡ inside i (records_for t held))

-- the entry shows just the records of its interval
abbrev pub ExactIn : State → List Entry → TxnName → TableDef → Statement → List ℕ → LogEntry → Type 0
ExactIn p history t table statement high (Asked part sync request losses (Reply r)) =
    (i : Interval) → interval_of high (Asked part sync request losses (Reply r)) ≡ Some i → ShownIn p history t.session sync (ShowsRight table statement t i r)
ExactIn p history t table statement high other = Unit {0}
