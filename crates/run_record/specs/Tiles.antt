-- That a statement covered its key range once, with just the records that met its predicate then.
use Rattle.std.specs.Prelude.{◌≡◌, ℕ, ◌+◌, ◌==◌, List, [], ◌∷◌, length, map, filter, filter_map, count_by, position, slice_get, Option, Some, None, option_map, option_and_then, Bool, true, false, not, ◌&&◌, Contains, if◌then◌else◌}
use Rattle.std.specs.List.{AllByRecursion}
use Rattle.sql_base.specs.Keys.{key_le, key_eq}
use Rattle.sql_base.specs.Rows.{packed, key_of}
use Rattle.sql_base.specs.OnRows.{first_failing}
use Rattle.sql_base.specs.Scripts.{Lies}
use Rattle.sql_base.specs.Tables.{table_of}
use Rattle.key_sequenced.specs.Changes.{put}
use Rattle.key_sequenced.specs.Cells.{Keyed, records}
use Rattle.sql_base.specs.Keys.{is_from}
use Rattle.partition_state.specs.History.{before}
use Rattle.one_thread.specs.One.{meets, row_after, statement_fault}
use Rattle.session_grammar.specs.Plans.{plan_of, sents_of}
use Rattle.session_grammar.specs.declared.plans.Plan.{Plan}
use Rattle.session_grammar.specs.declared.plans.Sent.{Sent}
use Rattle.session_grammar.specs.Follows.{Attempt, Reads, IsPart, AreTheirs, projection, asker, works_of}
use Rattle.run_record.specs.Openings.{openings, history_of, log_of}
use Rattle.sql_base.specs.declared.key_ranges.KeyRange.{KeyRange}
use Rattle.sql_base.specs.declared.key_ranges.Start.{Start}
use Rattle.sql_base.specs.declared.key_ranges.Start.TheVariants.{At, After}
use Rattle.sql_base.specs.declared.scripts.Script.{Script}
use Rattle.sql_base.specs.declared.statements.Statement.{Statement}
use Rattle.sql_base.specs.declared.statements.Statement.TheVariants.{Select, Update, Delete, Insert, LockTable}
use Rattle.sql_base.specs.declared.tables.TableDef.{TableDef}
use Rattle.sql_base.specs.declared.values.Value.{Value}
use Rattle.dp_messages.specs.declared.replies.Reply.{Reply as PartitionReply}
use Rattle.dp_messages.specs.declared.replies.Reply.TheVariants as reply
use Rattle.dp_messages.specs.declared.requests.Ask.{Ask}
use Rattle.dp_messages.specs.declared.requests.Ask.TheVariants as ask
use Rattle.session_grammar.specs.declared.logs.Answer.TheVariants.{Reply}
use Rattle.session_grammar.specs.declared.logs.LogEntry.{LogEntry}
use Rattle.session_grammar.specs.declared.logs.LogEntry.TheVariants.{Asked, Drew}
use Rattle.run_record.specs.declared.records.RunRecord.{RunRecord}
use Rattle.run_record.specs.Legal.{ForAttempt}

-- the keys that an entry handled: from a start to an end that is included
pub record Interval : Type 0 where
  pub start : Start
  pub end : List ℕ

-- the range of the piece that a request begins
abbrev pub range_of : Ask → Option KeyRange
range_of (ask.BeginRead access granule range predicate columns) = Some range
range_of (ask.BeginUpdate access granule range predicate sets) = Some range
range_of (ask.BeginDelete access granule range predicate) = Some range
range_of (ask.ReadKey access key predicate columns) = Some (record { low = key; high = key })
range_of other = None

-- where a request of a piece starts
abbrev pub start_of : Ask → Option Start
start_of (ask.Continue subset last) = Some (After last)
start_of other = option_map (λ range. At range.low) (range_of other)

-- where its reply ends, if it handled anything
abbrev pub end_of : List ℕ → PartitionReply → Option (List ℕ)
end_of high (reply.Ended rows changed) = Some high
end_of high (reply.Row row) = Some high
end_of high reply.NoRow = Some high
end_of high (reply.Redrive subset last cause rows changed) = Some last
end_of high other = None

abbrev pub interval_from : Option Start → Option (List ℕ) → Option Interval
interval_from (Some start) (Some end) = Some (record { start = start; end = end })
interval_from start end = None

-- the interval of an entry in a piece with this high key
abbrev pub interval_of : List ℕ → LogEntry → Option Interval
interval_of high (Asked part sync request losses (Reply r)) = interval_from (start_of request.ask) (end_of high r)
interval_of high other = None

-- the intervals go from the start to the high key, each from just after the one before, and each redrive's key lies in its own
abbrev pub Cover : Start → List ℕ → List Interval → Type 0
Cover start high [] = ⊥
Cover start high (i ∷ []) = (i.start ≡ start) × (i.end ≡ high)
Cover start high (i ∷ j ∷ rest) = (i.start ≡ start) × (is_from start i.end ≡ true) × (key_le i.end high ≡ true) × Cover (After i.end) high (j ∷ rest)

-- the records of an interval
abbrev pub is_inside : Interval → List ℕ → Bool
is_inside i key = is_from i.start key && key_le key i.end

abbrev pub inside : Interval → List Keyed → List Keyed
inside i held = filter (λ r. is_inside i r.key) held

-- the rows and the count of a reply
abbrev pub reply_rows : PartitionReply → List (List ℕ)
reply_rows (reply.Ended rows changed) = rows
reply_rows (reply.Redrive subset last cause rows changed) = rows
reply_rows (reply.Row row) = row ∷ []
reply_rows other = []

abbrev pub reply_changed : PartitionReply → ℕ
reply_changed (reply.Ended rows changed) = changed
reply_changed (reply.Redrive subset last cause rows changed) = changed
reply_changed other = 0

-- the statement has no fault on the record
abbrev pub FaultFree : TableDef → Statement → Keyed → Type 0
FaultFree table statement r = statement_fault table statement r.row ≡ None

-- what an entry of the statement shows and leaves of the records, over those within its interval before it
abbrev pub Matches : TableDef → Statement → Interval → List Keyed → List Keyed → PartitionReply → Type 0
Matches table (Select t columns predicate access) i held after r =
    (reply_rows r ≡ map (λ k. packed columns k.row) (filter (λ k. meets predicate k.row) (inside i held))) × (after ≡ held)
Matches table (Update t sets predicate access) i held after r =
    (reply_changed r ≡ count_by (λ k. meets predicate k.row) (inside i held))
    × (after ≡ map (λ k. if is_inside i k.key && meets predicate k.row then record { key = k.key; row = row_after table sets k.row } else k) held)
Matches table (Delete t predicate access) i held after r =
    (reply_changed r ≡ count_by (λ k. meets predicate k.row) (inside i held)) × (after ≡ filter (λ k. not (is_inside i k.key && meets predicate k.row)) held)
Matches table other i held after r = ⊥

-- the place of the session's entry with this sync in the history of a partition
abbrev pub place_in : RunRecord → ℕ → ℕ → ℕ → Option ℕ
place_in kept part session sync = position (λ e. (e.opener == session) && (e.sync == sync)) (history_of kept part)

-- the records just before and just after an entry
pub record Around : Type 0 where
  pub held : List Keyed
  pub after : List Keyed

abbrev pub around : Script → RunRecord → ℕ → ℕ → ℕ → Option Around
around script kept session part sync =
    option_and_then
    (λ p. option_map
    (λ i. record { held = records (before p (history_of kept part) i).cells; after = records (before p (history_of kept part) (i + 1)).cells })
    (place_in kept part session sync))
    (slice_get (openings script) part)

abbrev pub MatchesAround : TableDef → Statement → Interval → PartitionReply → Option Around → Type 0
MatchesAround table statement i r None = ⊥
MatchesAround table statement i r (Some a) = AllByRecursion (FaultFree table statement) (inside i a.held) × Matches table statement i a.held a.after r

-- an entry that handled an interval shows just the records that met the predicate then
abbrev pub EntryExact : Script → RunRecord → ℕ → TableDef → Statement → List ℕ → LogEntry → Type 0
EntryExact script kept session table statement high (Asked part sync request losses (Reply r)) =
    (i : Interval) → interval_of high (Asked part sync request losses (Reply r)) ≡ Some i → MatchesAround table statement i r (around script kept session part sync)
EntryExact script kept session table statement high other = Unit {0}

-- a piece is covered once, in key order, each entry exactly
pub record PieceTiles (script : Script) (kept : RunRecord) (session : ℕ) (table : TableDef) (statement : Statement) (range : KeyRange) (entries : List LogEntry) : Type 0 where
  pub cover : Cover (At range.low) range.high (filter_map (interval_of range.high) entries)
  pub exact : AllByRecursion (EntryExact script kept session table statement range.high) entries

abbrev pub SentTiles : Script → RunRecord → ℕ → TableDef → Statement → List LogEntry → Sent → Type 0
SentTiles script kept session table statement part sent =
    (range : KeyRange) × (range_of sent.ask ≡ Some range) × PieceTiles script kept session table statement range (projection part sent)

-- the entry was answered Done
abbrev pub is_answered_done : LogEntry → Bool
is_answered_done (Asked part sync request losses (Reply reply.Done)) = true
is_answered_done entry = false

abbrev pub sync_of : LogEntry → ℕ
sync_of (Asked part sync request losses answer) = sync
sync_of (Drew name floor answer) = 0

abbrev pub part_asked : LogEntry → ℕ
part_asked (Asked part sync request losses answer) = part
part_asked (Drew name floor answer) = 0

-- just this record came, at its place in key order, and none with its key stood
abbrev pub IsAdded : List ℕ → List Value → Option Around → Type 0
IsAdded key row None = ⊥
IsAdded key row (Some a) =
    (a.after ≡ put key row a.held) × AllByRecursion (λ k. key_eq k.key key ≡ false) a.held

abbrev pub StaysAround : Option Around → Type 0
StaysAround None = ⊥
StaysAround (Some a) = a.after ≡ a.held

abbrev pub dones : List LogEntry → List LogEntry
dones part = filter is_answered_done part

-- a SELECT, UPDATE or DELETE asks just the partitions of its pieces, and covers each piece; an INSERT adds its row once; a LOCK TABLE was done once in each partition
abbrev pub TilesOn : Script → RunRecord → ℕ → TableDef → Statement → Plan → List LogEntry → Type 0
TilesOn script kept session table (Insert t row) plan part =
    (e : LogEntry) × (dones part ≡ e ∷ []) × IsAdded (key_of table row) row (around script kept session (part_asked e) (sync_of e)) × (first_failing table.checks row ≡ None)
TilesOn script kept session table (LockTable t mode) plan part =
    (map part_asked (dones part) ≡ map (λ sent. sent.part) (sents_of plan)) × AllByRecursion (λ e. StaysAround (around script kept session (part_asked e) (sync_of e))) (dones part)
TilesOn script kept session table statement plan part = AreTheirs (sents_of plan) part × AllByRecursion (SentTiles script kept session table statement part) (sents_of plan)

abbrev pub Tiles : Script → RunRecord → ℕ → Statement → List LogEntry → Type 0
Tiles script kept session statement part =
    (table : TableDef) × (slice_get script.tables (table_of statement) ≡ Some table) × TilesOn script kept session table statement (plan_of (asker script session) statement) part

-- a statement of an attempt whose part stands whole
pub record IsFinished (script : Script) (session : ℕ) (a : Attempt) (statement : Statement) (part : List LogEntry) : Type 0 where
  pub place : ℕ
  pub statement_at : slice_get a.work.statements place ≡ Some statement
  pub part_at : slice_get a.parts place ≡ Some part
  pub whole : IsPart (asker script session) a.ordinal statement part None

-- every finished statement tiles its range
abbrev pub FinishedTile : Script → RunRecord → Type 0
FinishedTile script kept =
    (session : ℕ) (attempts : List Attempt) (a : Attempt) (statement : Statement) (part : List LogEntry)
    → ForAttempt script kept session attempts a (IsFinished script session a statement part → Tiles script kept session statement part)
