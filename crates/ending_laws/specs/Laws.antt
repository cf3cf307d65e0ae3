-- The laws of keys and redrives.
use Rattle.std.specs.Prelude.{◌≡◌, ◌≤◌, ◌<◌, ℕ, List, length, slice_get, Some, Contains}
use Rattle.std.specs.List.{AllByRecursion}
use Rattle.sql_base.specs.Scripts.{Lies}
use Rattle.sql_base.specs.declared.scripts.Script.{Script}
use Rattle.partition_state.specs.History.{replay}
use Rattle.partition_state.specs.State.{State}
use Rattle.session_grammar.specs.Sessions.{Sends}
use Rattle.session_grammar.specs.UnderWay.{Awaiting, Sending, UnderWay}
use Rattle.session_grammar.specs.declared.logs.Answer.{Answer}
use Rattle.requester_fs.specs.Asking.{Advances}
use Rattle.run_record.specs.Openings.{history_of, openings}
use Rattle.run_record.specs.declared.records.RunRecord.{RunRecord}
use Rattle.record_laws.specs.SoFar.{LegalSoFar, way_of}
use Rattle.driver_laws.specs.Moves.{MayAnswer}
use Rattle.ending_laws.specs.Keys.{above_in, keys_count, keys_of_script}

-- a partition holds keys of the script alone
abbrev pub KeysHeld : Type 0
KeysHeld =
    (script : Script) (kept : RunRecord) (ways : List UnderWay) → LegalSoFar script kept ways → (part : ℕ) (p : State) → part < length kept.histories → slice_get (openings script) part ≡ Some p
    → AllByRecursion (λ cell. Contains (keys_of_script script) cell.key) (replay p (history_of kept part)).cells

-- at most so many keys stand above one
abbrev pub FewAbove : Type 0
FewAbove = (script : Script) (key : List ℕ) → above_in script key ≤ keys_count script

-- the answer to a request under way, where it is a redrive, comes with a key that has fewer above it
abbrev pub RedrivesAdvance : Type 0
RedrivesAdvance =
    (script : Script) (kept : RunRecord) (ways : List UnderWay) → LegalSoFar script kept ways → (session : ℕ) → Lies 1 (length script.sessions) session
    → (sends : List Sending) (s : Sending) (losses : ℕ) (answer : Answer) → way_of ways session ≡ Awaiting sends → Contains sends s → s.part < length kept.histories → MayAnswer kept session s losses answer
    → Advances (above_in script) (keys_count script) (Sends s.part s.sync s.request) answer
