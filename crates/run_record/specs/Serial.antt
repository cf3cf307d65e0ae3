-- That the committed REPEATABLE transactions and the final tables are those of one thread in stamp order.
use Rattle.std.specs.Prelude.{◌≡◌, ℕ, ◌+◌, List, [], ◌∷◌, length, map, flat_map, sum, Some, None, option_map, unwrap_or, slice_get, Contains}
use Rattle.std.specs.List.{AllByRecursion, AllZip, last_or}
use Rattle.sql_base.specs.declared.outcomes.Given.{Given}
use Rattle.sql_base.specs.declared.outcomes.Given.TheVariants.{Rows, Count, Silent}
use Rattle.sql_base.specs.Rows.{chosen, kinds}
use Rattle.sql_base.specs.Scripts.{Lies}
use Rattle.key_sequenced.specs.Cells.{records}
use Rattle.partition_state.specs.History.{replay}
use Rattle.one_thread.specs.One.{Commits, Ran, loaded, one_run, run_work, world_after}
use Rattle.session_grammar.specs.Plans.{Asker, plan_of, sents_of}
use Rattle.session_grammar.specs.Follows.{Attempt, Reads, IsPart, projection, asker, works_of}
use Rattle.run_record.specs.Openings.{openings, log_of, by_part}
use Rattle.run_record.specs.Legal.{in_journal, ForAttempt}
use Rattle.run_record.specs.Tiles.{reply_rows, reply_changed}
use Rattle.run_record.specs.Base.{base, base_of, by_table, changes}
use Rattle.key_sequenced.specs.Changes.{laid}
use Rattle.sql_base.specs.declared.lock_names.Access.{Access}
use Rattle.sql_base.specs.declared.lock_names.Access.TheVariants.{Browse, Stable, Repeatable}
use Rattle.sql_base.specs.declared.scripts.Script.{Script}
use Rattle.sql_base.specs.declared.statements.Statement.{Statement}
use Rattle.sql_base.specs.declared.statements.Statement.TheVariants.{Select, Update, Delete, Insert, LockTable}
use Rattle.sql_base.specs.declared.values.Value.{Value}
use Rattle.commit_journal.specs.declared.Drawn.{Drawn}
use Rattle.session_grammar.specs.declared.logs.Answer.TheVariants.{Reply}
use Rattle.session_grammar.specs.declared.logs.LogEntry.{LogEntry}
use Rattle.session_grammar.specs.declared.logs.LogEntry.TheVariants.{Asked}
use Rattle.run_record.specs.declared.records.RunRecord.{RunRecord}

-- the statements that see the same at any time of their transaction
abbrev pub IsRepeatable : Access → Type 0
IsRepeatable Browse = ⊥
IsRepeatable Stable = ⊥
IsRepeatable Repeatable = Unit {0}

abbrev pub IsFirm : Statement → Type 0
IsFirm (Select t columns predicate access) = IsRepeatable access
IsFirm (Update t sets predicate access) = IsRepeatable access
IsFirm (Delete t predicate access) = IsRepeatable access
IsFirm (Insert t row) = Unit {0}
IsFirm (LockTable t mode) = Unit {0}

-- the rows and the count of an entry
abbrev pub entry_rows : LogEntry → List (List ℕ)
entry_rows (Asked part sync request losses (Reply r)) = reply_rows r
entry_rows entry = []

abbrev pub entry_changed : LogEntry → ℕ
entry_changed (Asked part sync request losses (Reply r)) = reply_changed r
entry_changed entry = 0

-- the rows of a part, in rising partitions, and within a partition in the order of the log
abbrev pub part_rows : Asker → Statement → List LogEntry → List (List ℕ)
part_rows r statement part = flat_map (λ sent. flat_map entry_rows (projection part sent)) (sents_of (plan_of r statement))

-- what the part of a finished statement gives
abbrev pub part_gives : Asker → Statement → List LogEntry → Given
part_gives r (Select t columns predicate access) part =
    Rows (unwrap_or (option_map (λ table. chosen columns (kinds table)) (slice_get r.tables t)) []) (part_rows r (Select t columns predicate access) part)
part_gives r (Update t sets predicate access) part = Count (sum (map entry_changed part))
part_gives r (Delete t predicate access) part = Count (sum (map entry_changed part))
part_gives r (Insert t row) part = Silent
part_gives r (LockTable t mode) part = Silent

abbrev pub givens_of : Asker → List Statement → List (List LogEntry) → List Given
givens_of r (statement ∷ statements) (part ∷ parts) = part_gives r statement part ∷ givens_of r statements parts
givens_of r (statement ∷ statements) [] = []
givens_of r [] parts = []

-- the tables below the stamp of a commit with its own changes laid over them
abbrev pub base_with : Script → RunRecord → Drawn → List (List (List Value))
base_with script kept d =
    by_table script.tables (by_part (λ p history. laid (base_of p history kept.journal d.stamp) (changes p history d.name)) (openings script) kept.histories)

-- the transaction of an attempt, run alone on the tables below its stamp, commits with the results and changes that the attempt had
pub record RanAlone (script : Script) (kept : RunRecord) (session : ℕ) (a : Attempt) (d : Drawn) : Type 0 where
  pub commits : (run_work (base script kept d.stamp) a.work).ending ≡ Commits
  pub results : (run_work (base script kept d.stamp) a.work).given ≡ givens_of (asker script session) a.work.statements a.parts
  pub changes_are : (run_work (base script kept d.stamp) a.work).world.records ≡ base_with script kept d

-- one more than the last stamp
abbrev pub next_stamp : RunRecord → ℕ
next_stamp kept = unwrap_or (last_or None (map (λ d. d.stamp) kept.journal)) 0 + 1

-- the records of each table after the whole histories
abbrev pub final_records : Script → RunRecord → List (List (List Value))
final_records script kept = by_table script.tables (by_part (λ p history. records (replay p history).cells) (openings script) kept.histories)

pub record Serial (script : Script) (kept : RunRecord) : Type 0 where
  pub committed_alone : (session : ℕ) (attempts : List Attempt) (a : Attempt) (d : Drawn)
      → ForAttempt script kept session attempts a
      (in_journal kept (record { session = session; ordinal = a.ordinal }) ≡ Some d → AllByRecursion IsFirm a.work.statements → RanAlone script kept session a d)
  pub final_base : final_records script kept ≡ (base script kept (next_stamp kept)).records

-- ---- where the statements of all committed transactions are firm: those transactions in one thread, in stamp order

-- a committed transaction: what it drew, and the attempt that drew it
pub record Commit : Type 0 where
  pub drawn : Drawn
  pub attempt : Attempt

-- the attempt is that of the name in its session's log
pub record IsCommit (script : Script) (kept : RunRecord) (c : Commit) : Type 0 where
  pub lies : Lies 1 (length script.sessions) c.drawn.name.session
  pub numbered : c.attempt.ordinal ≡ c.drawn.name.ordinal
  pub attempts : List Attempt
  pub reads : Reads IsPart (asker script c.drawn.name.session) (works_of script c.drawn.name.session) (log_of kept c.drawn.name.session) attempts
  pub holds : Contains attempts c.attempt

-- all that committed sees the same at any time
abbrev pub AllFirm : Script → RunRecord → Type 0
AllFirm script kept = (c : Commit) → Contains kept.journal c.drawn → IsCommit script kept c → AllByRecursion IsFirm c.attempt.work.statements

-- what its transaction came to in one thread: it committed, with the results that the attempt had
abbrev pub RanAs : Script → Commit → Ran → Type 0
RanAs script c ran = (ran.ending ≡ Commits) × (ran.given ≡ givens_of (asker script c.drawn.name.session) c.attempt.work.statements c.attempt.parts)

-- the transactions of the whole journal, run one after the other from the LOAD rows, commit with the results that they had, and leave the final tables
pub record StampOrder (script : Script) (kept : RunRecord) : Type 0 where
  pub commits : List Commit
  pub journal_is : map (λ c. c.drawn) commits ≡ kept.journal
  pub are_commits : AllByRecursion (IsCommit script kept) commits
  pub ran_as : AllZip (RanAs script) commits (one_run (map (λ c. c.attempt.work) commits) (loaded script))
  pub leaves : (world_after (map (λ c. c.attempt.work) commits) (loaded script)).records ≡ final_records script kept

-- the corollary of `Serial`
abbrev pub FirmInStampOrder : Script → RunRecord → Type 0
FirmInStampOrder script kept = AllFirm script kept → StampOrder script kept
