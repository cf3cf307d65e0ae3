-- A driver's steps keep what is scheduled so far and what the wires told, as laws.
use Rattle.std.specs.Prelude.{◌≡◌, ◌≢◌, ◌<◌, ℕ, List, [], ◌∷◌, ◌++◌, length, map, replicate, nat_lt, slice_get, Some, Bool, true, ◌||◌, if◌then◌else◌}
use Rattle.std.specs.List.{AllByRecursion, list_any}
use Rattle.sql_base.specs.Scripts.{Lies}
use Rattle.outside.specs.Wire.{Answers}
use Rattle.commit_journal.specs.declared.Drawn.{Drawn}
use Rattle.outside.specs.declared.wire.Passage.{Passage}
use Rattle.dp_messages.specs.declared.replies.Reply.{Reply as PartitionReply}
use Rattle.dp_messages.specs.declared.requests.Request.{Request}
use Rattle.sql_base.specs.declared.scripts.Script.{Script}
use Rattle.partition_state.specs.History.{replay}
use Rattle.partition_state.specs.State.{State, opener_of}
use Rattle.partition_state.specs.declared.entries.Entry.{Entry}
use Rattle.session_grammar.specs.declared.logs.Answer.{Answer}
use Rattle.session_grammar.specs.declared.logs.Answer.TheVariants.{Reply, PathFailed}
use Rattle.session_grammar.specs.declared.logs.LogEntry.{LogEntry}
use Rattle.session_grammar.specs.declared.logs.LogEntry.TheVariants.{Asked, Drew}
use Rattle.run_record.specs.Openings.{history_of, log_of, openings}
use Rattle.run_record.specs.declared.records.Act.{Act}
use Rattle.run_record.specs.declared.records.Act.TheVariants.{Send, Take, ByHand, Draw, Serve}
use Rattle.run_record.specs.declared.records.RunRecord.{RunRecord}
use Rattle.driver_laws.specs.Carrying.{Carried, IsCarried, carried_after, passages_of}
use Rattle.outside.specs.Wire.{is_loss}
use Rattle.record_laws.specs.SoFar.{LegalSoFar, way_of}
use Rattle.driver_laws.specs.Moves.{with_acts, with_drawn, with_entry, with_log}
use Rattle.session_grammar.specs.UnderWay.{Sending, UnderWay, IsOpen}
use Rattle.driver_laws.specs.Scheduling.{Adds, IsDriven, Lost, Sent, Scheduled, ScheduledSoFar, Step, actors, is_by, is_old, is_serve_of, nobody, posted_of}

-- one act more, chosen of the actors that are enabled now, leaves the acts scheduled so far
abbrev pub ActIsScheduled : Type 0
ActIsScheduled =
    (live now : ℕ → Bool) (act : Act) → ((n : ℕ) → live n ≡ (is_by n act || now n)) → (tails tails_now : ℕ → List Step) (choices : List ℕ) (kept after : RunRecord)
    → ScheduledSoFar live tails choices kept → IsDriven live choices kept act → Adds tails tails_now kept after act → ScheduledSoFar now tails_now choices after

abbrev pub ActsEnd : Type 0
ActsEnd =
    (tails : ℕ → List Step) (choices : List ℕ) (kept : RunRecord) → ScheduledSoFar nobody tails choices kept → ((n : ℕ) → Lies 1 (length kept.logs) n → tails n ≡ [])
    → actors nobody (length kept.logs) (length kept.histories) kept.acts [] ≡ [] → Scheduled choices kept

-- all but one session have done as much as before
abbrev pub OthersStay : (ℕ → List Step) → (ℕ → List Step) → ℕ → Type 0
OthersStay tails now session = (n : ℕ) → n ≢ session → now n ≡ tails n

-- a message given to its wire
abbrev pub SendAdds : Type 0
SendAdds =
    (kept : RunRecord) (tails now : ℕ → List Step) (session part sync : ℕ) (passage : Passage) → now session ≡ tails session ++ (if is_loss passage then Lost part sync else Sent part sync) ∷ [] → OthersStay tails now session
    → Adds tails now kept (with_acts kept (kept.acts ++ Send session part sync passage ∷ [])) (Send session part sync passage)

-- a request with its reply taken, one whose path failed with this sending, and an End served by hand
abbrev pub TakeAdds : Type 0
TakeAdds =
    (kept : RunRecord) (tails now : ℕ → List Step) (session : ℕ) → Lies 1 (length kept.logs) session → (part sync : ℕ) (request : Request) (losses : ℕ) (r : PartitionReply) → nat_lt losses 4 ≡ true
    → tails session ≡ replicate losses (Lost part sync) ++ Sent part sync ∷ [] → now session ≡ [] → OthersStay tails now session
    → Adds tails now kept (with_acts (with_log kept session (log_of kept session ++ Asked part sync request losses (Reply r) ∷ [])) (kept.acts ++ Take session ∷ [])) (Take session)

abbrev pub FailureAdds : Type 0
FailureAdds =
    (kept : RunRecord) (tails now : ℕ → List Step) (session : ℕ) → Lies 1 (length kept.logs) session → (part sync : ℕ) (request : Request) (passage : Passage) → is_loss passage ≡ true
    → tails session ≡ replicate 3 (Lost part sync) → now session ≡ [] → OthersStay tails now session
    → Adds tails now kept (with_acts (with_log kept session (log_of kept session ++ Asked part sync request 4 PathFailed ∷ [])) (kept.acts ++ Send session part sync passage ∷ [])) (Send session part sync passage)

abbrev pub HandAdds : Type 0
HandAdds =
    (kept : RunRecord) (tails now : ℕ → List Step) (e : Entry) → Lies 1 (length kept.logs) e.opener → (part : ℕ) (request : Request) (r : PartitionReply) → part < length kept.histories
    → AllByRecursion (λ f. f.opener ≡ e.opener → f.sync < e.sync) (history_of kept part) → tails e.opener ≡ replicate 4 (Lost part e.sync) → now e.opener ≡ [] → OthersStay tails now e.opener
    → Adds tails now kept (with_acts (with_log (with_entry kept part e) e.opener (log_of kept e.opener ++ Asked part e.sync request 4 (Reply r) ∷ [])) (kept.acts ++ ByHand e.opener part e.sync ∷ [])) (ByHand e.opener part e.sync)

-- a commit drawn, where nothing else is under way
abbrev pub DrawAdds : Type 0
DrawAdds =
    (kept : RunRecord) (tails now : ℕ → List Step) (d : Drawn) → Lies 1 (length kept.logs) d.name.session → (answer : Answer) → tails d.name.session ≡ [] → now d.name.session ≡ [] → OthersStay tails now d.name.session
    → Adds tails now kept (with_acts (with_drawn (with_log kept d.name.session (log_of kept d.name.session ++ Drew d.name d.floor answer ∷ [])) d) (kept.acts ++ Draw d.name.session ∷ [])) (Draw d.name.session)

-- a message served as new, and as an old one
abbrev pub ServeAdds : Type 0
ServeAdds =
    (kept : RunRecord) (tails now : ℕ → List Step) (part : ℕ) → part < length kept.histories → (e : Entry) → AllByRecursion (λ f. f.opener ≡ e.opener → f.sync < e.sync) (history_of kept part) → ((n : ℕ) → now n ≡ tails n)
    → Adds tails now kept (with_acts (with_entry kept part e) (kept.acts ++ Serve part e.opener e.sync ∷ [])) (Serve part e.opener e.sync)

abbrev pub OldServeAdds : Type 0
OldServeAdds =
    (kept : RunRecord) (tails now : ℕ → List Step) (part opener sync : ℕ) → part < length kept.histories → list_any (is_old (record { opener = opener; sync = sync })) (map posted_of (history_of kept part)) ≡ true
    → ((n : ℕ) → now n ≡ tails n) → Adds tails now kept (with_acts kept (kept.acts ++ Serve part opener sync ∷ [])) (Serve part opener sync)

-- a wire asked once more, a request answered in whichever way, a commit drawn, and the end
abbrev pub SendIsCarried : Type 0
SendIsCarried =
    (first round passages later : List Passage) (log : List LogEntry) (tail : List Bool) → IsCarried first round passages later log tail → (p : Passage) (others : List Passage) → Answers later round p others
    → IsCarried first round (passages ++ p ∷ []) others log (tail ++ is_loss p ∷ [])

abbrev pub AnswerIsCarried : Type 0
AnswerIsCarried =
    (first round passages later : List Passage) (log : List LogEntry) (tail : List Bool) → IsCarried first round passages later log tail → (part sync : ℕ) (request : Request) (losses : ℕ) (answer : Answer)
    → tail ≡ replicate losses true ++ carried_after losses answer → IsCarried first round passages later (log ++ Asked part sync request losses answer ∷ []) []

abbrev pub WholeIsCarried : Type 0
WholeIsCarried =
    (first round : List Passage) (kept : RunRecord) (n : ℕ) (passages later : List Passage) → IsCarried first round passages later (log_of kept n) [] → (kept.acts ≢ [] → passages_of n kept.acts ≡ passages)
    → Carried kept n first round

-- where a Serve named a session's request under way, its partition keeps the reply: a driver that counts the session as enabled finds it
abbrev pub ServedIsKept : Type 0
ServedIsKept =
    (script : Script) (kept : RunRecord) (ways : List UnderWay) → LegalSoFar script kept ways → (live : ℕ → Bool) (tails : ℕ → List Step) (choices : List ℕ) → ScheduledSoFar live tails choices kept
    → (session : ℕ) → Lies 1 (length script.sessions) session → (s : Sending) → IsOpen (way_of ways session) s → s.part < length kept.histories → (p : State) → slice_get (openings script) s.part ≡ Some p
    → list_any (is_serve_of session (record { part = s.part; sync = s.sync })) kept.acts ≡ true → (opener_of (replay p (history_of kept s.part)) session).last ≡ s.sync
