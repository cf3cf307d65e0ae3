-- The moves of a record that is legal so far, as laws.
use Rattle.std.specs.Prelude.{◌≡◌, ◌≤◌, ◌<◌, ℕ, List, [], length, slice_get, Some, true, Contains, map}
use Rattle.std.specs.List.{AllByRecursion, list_any}
use Rattle.sql_base.specs.Scripts.{IsScript, Lies}
use Rattle.sql_base.specs.declared.lock_names.TxnName.{TxnName}
use Rattle.sql_base.specs.declared.scripts.Script.{Script}
use Rattle.dp_messages.specs.declared.replies.Reply.{Reply as PartitionReply}
use Rattle.dp_messages.specs.declared.requests.Request.{Request}
use Rattle.partition_state.specs.History.{replay}
use Rattle.partition_state.specs.State.{State, opener_of}
use Rattle.partition_state.specs.declared.entries.Entry.{Entry}
use Rattle.session_grammar.specs.Rows.{fits}
use Rattle.session_grammar.specs.declared.logs.Answer.{Answer}
use Rattle.session_grammar.specs.declared.logs.Answer.TheVariants.{Reply}
use Rattle.session_grammar.specs.declared.logs.LogEntry.{LogEntry}
use Rattle.run_record.specs.Openings.{history_of, log_of, openings}
use Rattle.run_record.specs.declared.records.Act.{Act}
use Rattle.run_record.specs.declared.records.RunRecord.{RunRecord}
use Rattle.record_laws.specs.SoFar.{LegalSoFar, way_of}
use Rattle.record_laws.specs.Suiting.{PlansSuit}
use Rattle.driver_laws.specs.Gathering.{Gathered}
use Rattle.driver_laws.specs.Scheduling.{is_old, posted_of}
use Rattle.driver_laws.specs.Moves.{IsNext, IsPosted, MayAnswer, next_drawn, nothing_yet, with_acts, with_drawn, with_entry, with_log, with_way}
use Rattle.session_grammar.specs.UnderWay.{Sending, Awaiting, Drawing, UnderWay, Asks, IsOpen, TakesStamp, TakesAnswer}

-- a run begins with what each requester opens at first
abbrev pub RunsBegin : Type 0
RunsBegin = (script : Script) (ways : List UnderWay) → IsScript script → ((session : ℕ) → Lies 1 (length script.sessions) session → Asks script session [] (way_of ways session)) → LegalSoFar script (nothing_yet script) ways

-- a message that its session posted is served as new, be it of a request under way or of one whose path failed
abbrev pub NewIsServed : Type 0
NewIsServed =
    (script : Script) (kept : RunRecord) (ways : List UnderWay) → LegalSoFar script kept ways → (part : ℕ) → part < length kept.histories → (e : Entry) → Lies 1 (length script.sessions) e.opener
    → IsNext script kept part e → IsPosted kept ways e.opener part e.sync e.request → LegalSoFar script (with_entry kept part e) ways

-- a request under way is answered by its entry, or its path failed
abbrev pub AnswerIsTaken : Type 0
AnswerIsTaken =
    (script : Script) (kept : RunRecord) (ways : List UnderWay) → LegalSoFar script kept ways → length ways ≡ length script.sessions → (session : ℕ) → Lies 1 (length script.sessions) session
    → (sends : List Sending) (s : Sending) (losses : ℕ) (answer : Answer) (log : List LogEntry) (way : UnderWay) → way_of ways session ≡ Awaiting sends → Contains sends s → MayAnswer kept session s losses answer
    → TakesAnswer script session (log_of kept session) sends s losses answer log way → LegalSoFar script (with_log kept session log) (with_way ways session way)

-- a commit is drawn
abbrev pub StampIsDrawn : Type 0
StampIsDrawn =
    (script : Script) (kept : RunRecord) (ways : List UnderWay) → LegalSoFar script kept ways → length ways ≡ length script.sessions → (session : ℕ) → Lies 1 (length script.sessions) session
    → (name : TxnName) (floor : ℕ) (log : List LogEntry) (way : UnderWay) → way_of ways session ≡ Drawing name floor → TakesStamp script session (log_of kept session) (next_drawn kept name floor) log way
    → LegalSoFar script (with_drawn (with_log kept session log) (next_drawn kept name floor)) (with_way ways session way)

-- an End is served by hand and answered at once
abbrev pub EndIsServed : Type 0
EndIsServed =
    (script : Script) (kept : RunRecord) (ways : List UnderWay) → LegalSoFar script kept ways → length ways ≡ length script.sessions → (e : Entry) → Lies 1 (length script.sessions) e.opener
    → (sends : List Sending) (s : Sending) (losses : ℕ) (log : List LogEntry) (way : UnderWay) → s.part < length kept.histories → IsNext script kept s.part e → IsPosted kept ways e.opener s.part e.sync e.request
    → way_of ways e.opener ≡ Awaiting sends → Contains sends s → e.sync ≡ s.sync → TakesAnswer script e.opener (log_of kept e.opener) sends s losses (Reply e.reply) log way
    → LegalSoFar script (with_log (with_entry kept s.part e) e.opener log) (with_way ways e.opener way)

-- no clause speaks of the list of acts
abbrev pub ActsAreFree : Type 0
ActsAreFree = (script : Script) (kept : RunRecord) (ways : List UnderWay) (acts : List Act) → LegalSoFar script kept ways → LegalSoFar script (with_acts kept acts) ways

-- what a partition keeps for a session: no sync above that of its request under way; where it has that sync, the kept reply is that of its entry
abbrev pub PickIsAnswer : Type 0
PickIsAnswer =
    (script : Script) (kept : RunRecord) (ways : List UnderWay) → LegalSoFar script kept ways → (session : ℕ) → Lies 1 (length script.sessions) session
    → (part : ℕ) → part < length kept.histories → (p : State) → slice_get (openings script) part ≡ Some p → (s : Sending) → s.part ≡ part → IsOpen (way_of ways session) s
    → ((opener_of (replay p (history_of kept part)) session).last ≤ s.sync)
    × ((losses : ℕ) (r : PartitionReply) → (opener_of (replay p (history_of kept part)) session).last ≡ s.sync → (opener_of (replay p (history_of kept part)) session).kept ≡ Some r → MayAnswer kept session s losses (Reply r))

-- and it fits what was asked
abbrev pub AnswerFits : Type 0
AnswerFits =
    (script : Script) (kept : RunRecord) (ways : List UnderWay) → PlansSuit script → LegalSoFar script kept ways → (session : ℕ) → Lies 1 (length script.sessions) session
    → (sends : List Sending) (s : Sending) (losses : ℕ) (r : PartitionReply) → way_of ways session ≡ Awaiting sends → Contains sends s → s.part < length kept.histories → MayAnswer kept session s losses (Reply r)
    → fits s.request.ask r ≡ true

-- a message that a session posted stays one of its log or of what it has under way, whichever session goes on
abbrev pub PostedStay : Type 0
PostedStay =
    (script : Script) (kept : RunRecord) (ways : List UnderWay) → LegalSoFar script kept ways → length ways ≡ length script.sessions → (session : ℕ) → Lies 1 (length script.sessions) session → (log : List LogEntry) (way : UnderWay)
    → (n part sync : ℕ) (request : Request) → Lies 1 (length script.sessions) n
    → ((sends : List Sending) (s : Sending) (losses : ℕ) (answer : Answer) → way_of ways session ≡ Awaiting sends → Contains sends s → TakesAnswer script session (log_of kept session) sends s losses answer log way
    → IsPosted kept ways n part sync request → IsPosted (with_log kept session log) (with_way ways session way) n part sync request)
    × ((name : TxnName) (floor : ℕ) → way_of ways session ≡ Drawing name floor → TakesStamp script session (log_of kept session) (next_drawn kept name floor) log way
    → IsPosted kept ways n part sync request → IsPosted (with_drawn (with_log kept session log) (next_drawn kept name floor)) (with_way ways session way) n part sync request)

-- what is known once all threads have ended makes a record that is legal so far
abbrev pub GatheredIsSoFar : Type 0
GatheredIsSoFar = (script : Script) (kept : RunRecord) (ways : List UnderWay) → Gathered script kept ways → LegalSoFar script kept ways

-- a message is new where its sync is above all that the partition served of its opener, and one that isn't new was served before: the two ways in which a Serve counts
abbrev pub NewOrOld : Type 0
NewOrOld =
    (script : Script) (kept : RunRecord) (ways : List UnderWay) → LegalSoFar script kept ways → (part : ℕ) → part < length kept.histories
    → ((e : Entry) → Lies 1 (length script.sessions) e.opener → IsNext script kept part e → AllByRecursion (λ f. f.opener ≡ e.opener → f.sync < e.sync) (history_of kept part))
    × ((session sync : ℕ) (p : State) → Lies 1 (length script.sessions) session → slice_get (openings script) part ≡ Some p → 0 < sync → sync ≤ (opener_of (replay p (history_of kept part)) session).last
    → list_any (is_old (record { opener = session; sync = sync })) (map posted_of (history_of kept part)) ≡ true)
