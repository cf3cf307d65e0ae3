-- What one action of a driver does to the record of a run, and what a requester keeps.
use Rattle.std.specs.Prelude.{◌≡◌, ◌≢◌, ◌-◌, ◌+◌, max, ℕ, List, [], ◌∷◌, ◌++◌, map, filter, slice_get, slice_set, Some, Contains}
use Rattle.sql_base.specs.declared.lock_names.TxnName.{TxnName}
use Rattle.sql_base.specs.declared.scripts.Script.{Script}
use Rattle.commit_journal.specs.declared.Drawn.{Drawn}
use Rattle.dp_messages.specs.declared.requests.Request.{Request}
use Rattle.partition_state.specs.History.{replay}
use Rattle.partition_state.specs.State.{State}
use Rattle.partition_state.specs.Step.{step}
use Rattle.partition_state.specs.declared.entries.Entry.{Entry}
use Rattle.session_grammar.specs.Rows.{is_for}
use Rattle.session_grammar.specs.declared.logs.Answer.{Answer}
use Rattle.session_grammar.specs.declared.logs.Answer.TheVariants.{Reply, PathFailed, Stamp}
use Rattle.session_grammar.specs.declared.logs.LogEntry.{LogEntry}
use Rattle.session_grammar.specs.declared.logs.LogEntry.TheVariants.{Asked, Drew}
use Rattle.run_record.specs.Openings.{history_of, log_of, openings}
use Rattle.run_record.specs.declared.records.Act.{Act}
use Rattle.run_record.specs.declared.records.RunRecord.{RunRecord}
use Rattle.record_laws.specs.SoFar.{way_of}
use Rattle.session_grammar.specs.UnderWay.{AreAbove, BeginsWith, Sending, Awaiting, Drawing, UnderWay, unanswered}
use Rattle.commit_journal.specs.Journal.{last_stamp}

-- the record with another log of a session, with one more entry in a history, or with one more commit
abbrev pub with_log : RunRecord → ℕ → List LogEntry → RunRecord
with_log kept session log = record kept { logs = slice_set kept.logs (session - 1) log }

abbrev pub with_entry : RunRecord → ℕ → Entry → RunRecord
with_entry kept part e = record kept { histories = slice_set kept.histories part (history_of kept part ++ e ∷ []) }

abbrev pub with_drawn : RunRecord → Drawn → RunRecord
with_drawn kept d = record kept { journal = kept.journal ++ d ∷ [] }

abbrev pub with_acts : RunRecord → List Act → RunRecord
with_acts kept acts = record kept { acts = acts }

-- with something else under way in a session
abbrev pub with_way : List UnderWay → ℕ → UnderWay → List UnderWay
with_way ways session way = slice_set ways (session - 1) way

-- with this under way behind its log, a session has asked this of a partition, whatever came of it
abbrev pub HasAsked : List LogEntry → UnderWay → ℕ → ℕ → Request → Type 0
HasAsked log way part sync request = (losses : ℕ) × (answer : Answer) × Contains (log ++ unanswered way) (Asked part sync request losses answer)

-- all that a session has asked so far, and so each message that it posted
abbrev pub asked_so_far : RunRecord → List UnderWay → ℕ → List LogEntry
asked_so_far kept ways session = log_of kept session ++ unanswered (way_of ways session)

abbrev pub IsPosted : RunRecord → List UnderWay → ℕ → ℕ → ℕ → Request → Type 0
IsPosted kept ways session part sync request = HasAsked (log_of kept session) (way_of ways session) part sync request

-- the entry is what the partition answers next to a request with a new sync
abbrev pub IsNext : Script → RunRecord → ℕ → Entry → Type 0
IsNext script kept part e =
    (p : State) × (slice_get (openings script) part ≡ Some p) × ((step (replay p (history_of kept part)) e.opener e.sync e.request).reply ≡ Some e.reply)

-- the answer to a request under way: the reply of its entry, or that its path failed
abbrev pub MayAnswer : RunRecord → ℕ → Sending → ℕ → Answer → Type 0
MayAnswer kept session s losses (Reply r) = (e : Entry) × Contains (history_of kept s.part) e × (e.opener ≡ session) × (e.sync ≡ s.sync) × (e.reply ≡ r)
MayAnswer kept session s losses PathFailed = losses ≡ 4
MayAnswer kept session s losses (Stamp stamp) = ⊥

-- the commit that the journal draws next
abbrev pub next_drawn : RunRecord → TxnName → ℕ → Drawn
next_drawn kept name floor = record { name = name; floor = floor; stamp = max (last_stamp 0 kept.journal) floor + 1 }

-- the record as a run begins
abbrev pub nothing_yet : Script → RunRecord
nothing_yet script = record { histories = map (λ p. []) (openings script); rows = []; journal = []; logs = map (λ works. []) script.sessions; acts = [] }
