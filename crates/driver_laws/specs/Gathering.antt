-- A history by what stands in it.
use Rattle.std.specs.Prelude.{◌≡◌, ◌<◌, ℕ, List, [], ◌∷◌, length, filter, true, ◌↔◌, ◌==◌, Contains}
use Rattle.std.specs.List.{AllByRecursion, AllZip}
use Rattle.sql_base.specs.Scripts.{IsScript, Lies}
use Rattle.sql_base.specs.declared.scripts.Script.{Script}
use Rattle.partition_state.specs.History.{IsLegal}
use Rattle.run_record.specs.Legal.{AreServed, drawn_in}
use Rattle.commit_journal.specs.Journal.{StampsRise}
use Rattle.run_record.specs.Openings.{history_of, log_of, openings}
use Rattle.run_record.specs.declared.records.RunRecord.{RunRecord}
use Rattle.record_laws.specs.SoFar.{LogsSoFar}
use Rattle.driver_laws.specs.Moves.{IsPosted}
use Rattle.session_grammar.specs.UnderWay.{UnderWay}
use Rattle.partition_state.specs.declared.entries.Entry.{Entry}
use Rattle.session_grammar.specs.Rows.{is_for}
use Rattle.session_grammar.specs.declared.logs.Answer.{Answer}
use Rattle.session_grammar.specs.declared.logs.Answer.TheVariants.{PathFailed, Reply, Stamp}
use Rattle.session_grammar.specs.declared.logs.LogEntry.{LogEntry}
use Rattle.session_grammar.specs.declared.logs.LogEntry.TheVariants.{Asked, Drew}

-- it was asked later than this
abbrev pub IsOver : ℕ → LogEntry → Type 0
IsOver sync (Asked p s q l w) = sync < s
IsOver sync (Drew n f w) = Unit {0}

-- each request is later than those before it
abbrev pub Climbs : List LogEntry → Type 0
Climbs [] = Unit {0}
Climbs (Asked p s q l w ∷ log) = AllByRecursion (IsOver s) log × Climbs log
Climbs (Drew n f w ∷ log) = Climbs log

-- and each entry
abbrev pub SyncsClimb : List Entry → Type 0
SyncsClimb [] = Unit {0}
SyncsClimb (e ∷ es) = AllByRecursion (λ f. e.sync < f.sync) es × SyncsClimb es

-- the entry is of a request of the log
abbrev pub IsAskedIn : ℕ → List LogEntry → Entry → Type 0
IsAskedIn part log e = (losses : ℕ) × (answer : Answer) × Contains log (Asked part e.sync e.request losses answer)

-- a request with a reply has its entry; a stamp answers no request
abbrev pub HasEntry : List Entry → LogEntry → Type 0
HasEntry es (Asked part sync request losses (Reply r)) = (e : Entry) × Contains es e × (e.sync ≡ sync) × (e.reply ≡ r)
HasEntry es (Asked part sync request losses PathFailed) = Unit {0}
HasEntry es (Asked part sync request losses (Stamp stamp)) = ⊥
HasEntry es (Drew name floor answer) = Unit {0}

-- a reply that a session heard is that of its entry
abbrev pub HasItsEntry : RunRecord → ℕ → LogEntry → Type 0
HasItsEntry kept session (Asked part sync request losses (Reply r)) = (e : Entry) × Contains (history_of kept part) e × (e.opener ≡ session) × (e.sync ≡ sync) × (e.reply ≡ r)
HasItsEntry kept session (Asked part sync request losses PathFailed) = Unit {0}
HasItsEntry kept session (Asked part sync request losses (Stamp stamp)) = ⊥
HasItsEntry kept session (Drew name floor answer) = Unit {0}

-- what is known of the journal: its stamps rise, and each session drew in its log just the commits that have its number, in their order
pub record JournalGathered (sessions : ℕ) (kept : RunRecord) : Type 0 where
  pub rise : StampsRise 0 kept.journal
  pub named : AllByRecursion (λ d. Lies 1 sessions d.name.session) kept.journal
  pub own : (session : ℕ) → Lies 1 sessions session → drawn_in (log_of kept session) ≡ filter (λ d. d.name.session == session) kept.journal

-- what is known of a run once its threads have ended: each entry is of a message that its session posted, and each reply of a log that of its entry
pub record Gathered (script : Script) (kept : RunRecord) (ways : List UnderWay) : Type 0 where
  pub script_runs : IsScript script
  pub histories_replay : AllZip IsLegal (openings script) kept.histories
  pub journal_drawn : JournalGathered (length script.sessions) kept
  pub openers : AllByRecursion (λ history. AllByRecursion (λ e. Lies 1 (length script.sessions) e.opener) history) kept.histories
  pub posted : (part : ℕ) → part < length kept.histories → AllByRecursion (λ e. IsPosted kept ways e.opener part e.sync e.request) (history_of kept part)
  pub heard : (session : ℕ) → Lies 1 (length script.sessions) session → AllByRecursion (HasItsEntry kept session) (log_of kept session)
  pub logs_begin : LogsSoFar script kept ways

-- what is served of requests with rising syncs, in two sentences: each entry was asked, and each reply has its entry
abbrev pub ServedBySentences : Type 0
ServedBySentences =
    (part : ℕ) (zs : List LogEntry) (es : List Entry) → AllByRecursion (λ z. is_for part z ≡ true) zs → Climbs zs → SyncsClimb es → AreServed zs es ↔ (AllByRecursion (IsAskedIn part zs) es × AllByRecursion (HasEntry es) zs)
