-- A run between two actions: the sessions and partitions, the journal, and what was done.
use Rattle.std.specs.Prelude.{◌≡◌, ◌≢◌, ◌≤◌, ℕ, zero, suc, List, [], ◌∷◌, ◌++◌, length, map, replicate, slice_get, unwrap_or, option_map, Option, Some, None, Bool, true, false, if◌then◌else◌}
use Rattle.std.specs.List.{AllByRecursion, AllZip, list_any}
use Rattle.outside.specs.declared.wire.Passage.{Passage}
use Rattle.sql_base.specs.Scripts.{Lies}
use Rattle.sql_base.specs.declared.scripts.Script.{Script}
use Rattle.commit_journal.specs.declared.Drawn.{Drawn}
use Rattle.dp_messages.specs.Spelling.{IsEnvelope, request_bytes}
use Rattle.dp_messages.specs.declared.requests.Envelope.{Envelope}
use Rattle.dp_messages.specs.declared.requests.Request.{Request}
use Rattle.partition_core.specs.Kept.{IsReplayed}
use Rattle.session_grammar.specs.Rows.{is_end}
use Rattle.session_grammar.specs.UnderWay.{Awaiting, Drawing, Sending, UnderWay}
use Rattle.session_grammar.specs.declared.logs.LogEntry.{LogEntry}
use Rattle.requester_fs.specs.Asking.{Asking, IsAsking, places_of}
use Rattle.requester_fs.specs.Beginnings.{EachAt, IsLater}
use Rattle.run_record.specs.Openings.{openings}
use Rattle.run_record.specs.declared.records.Act.{Act}
use Rattle.run_record.specs.declared.records.Act.TheVariants.{Serve}
use Rattle.plans_laws.specs.Spelled.{CameSpelled}
use Rattle.run_record.specs.declared.records.RunRecord.{RunRecord}
use Rattle.record_laws.specs.SoFar.{LegalSoFar}
use Rattle.driver_laws.specs.Carrying.{IsCarried, Telling, passages_of}
use Rattle.driver_laws.specs.Moves.{IsPosted}
use Rattle.driver_laws.specs.Scheduling.{Actor, Awaited, Lost, OfSession, Posted, ScheduledSoFar, Sent, Step, actors, awaited, chosen_of, is_serve_of, mail_after}
use Rattle.step_world.specs.Scaffold.Seats.{seen, turn_of}
use Rattle.step_world.specs.Tellings.{HasTold}
use Rattle.step_world.specs.declared.processes.DiskProcess.{DiskProcess}
use Rattle.step_world.specs.declared.seats.Seat.{Seat}
use Rattle.step_world.specs.declared.seats.Turn.{Turn}
use Rattle.step_world.specs.declared.worlds.World.{World}

-- a world as contracts see it
pub record Scene : Type 0 where
  pub seats : List (Seat Asking)
  pub processes : List DiskProcess
  pub journal : List Drawn
  pub acts : List Act

abbrev pub scene : {Q : Type 0} → (Q → Asking) → World Q → Scene
scene asking w = record { seats = map (seen asking) w.seats.items; processes = w.processes.items; journal = w.journal; acts = w.acts }

-- what stays as it is in a run: the script, the choices, and what each wire tells as it was handed in
pub record Setting : Type 0 where
  pub script : Script
  pub choices : List ℕ
  pub told : List Telling

-- the record of what was done so far, and what each session has under way
abbrev pub record_of : Scene → RunRecord
record_of w = record { histories = map (λ d. d.partition.history) w.processes; rows = []; journal = w.journal; logs = map (λ s. s.requester.log) w.seats; acts = w.acts }

abbrev pub ways_of : Scene → List UnderWay
ways_of w = map (λ s. s.requester.way) w.seats

-- the one request that a session has under way
abbrev pub request_in : UnderWay → Option Sending
request_in (Awaiting sends) = slice_get sends 0
request_in (Drawing name floor) = None

abbrev pub has_some : UnderWay → Bool
has_some (Awaiting []) = false
has_some (Awaiting (s ∷ sends)) = true
has_some (Drawing name floor) = true

-- a session has something under way
abbrev pub live_in : List (Seat Asking) → ℕ → Bool
live_in seats zero = false
live_in seats (suc at) = unwrap_or (option_map (λ s. has_some s.requester.way) (slice_get seats at)) false

-- the steps of its request, behind those of its log
abbrev pub carried_steps : Bool → Sending → List Step
carried_steps true s = Sent s.part s.sync ∷ []
carried_steps false s = []

abbrev pub steps_with : Option Sending → ℕ → Bool → List Step
steps_with None losses waits = []
steps_with (Some s) losses waits = replicate losses (Lost s.part s.sync) ++ carried_steps waits s

abbrev pub seat_steps : Seat Asking → List Step
seat_steps s = steps_with (request_in s.requester.way) s.losses s.waits

abbrev pub steps_in : List (Seat Asking) → ℕ → List Step
steps_in seats zero = []
steps_in seats (suc at) = unwrap_or (option_map seat_steps (slice_get seats at)) []

-- the sendings of its request: each was lost, but for one that it waits for
abbrev pub sendings_so_far : Seat Asking → List Bool
sendings_so_far s = replicate s.losses true ++ (if s.waits then false ∷ [] else [])

abbrev pub awaited_of : Sending → Awaited
awaited_of s = record { part = s.part; sync = s.sync }

-- what it waits for
abbrev pub awaited_by : Seat Asking → Option Awaited
awaited_by s = if s.waits then option_map awaited_of (request_in s.requester.way) else None

-- a request is lost four times only where it is an End, and one that was carried is lost three times at most
abbrev pub Stands : Seat Asking → Option Sending → Type 0
Stands s None = (s.losses ≡ 0) × (s.waits ≡ false)
Stands s (Some r) = (s.losses ≤ 4) × (s.waits ≡ true → s.losses ≤ 3) × (is_end r.request.ask ≡ false → s.losses ≤ 3)

-- whether the request was served is noted
abbrev pub IsNoted : ℕ → List Act → Seat Asking → Type 0
IsNoted n acts s = (r : Sending) → request_in s.requester.way ≡ Some r → list_any (is_serve_of n (awaited_of r)) acts ≡ s.is_served

-- its wire has told what its Sends say
abbrev pub IsTold : List Telling → List Telling → ℕ → List Act → Seat Asking → Type 0
IsTold told tellings at acts s =
    (first now : Telling) → slice_get told at ≡ Some first → slice_get tellings at ≡ Some now
    → IsCarried first.first first.round (passages_of (suc at) acts) now.first s.requester.log (sendings_so_far s) × (now.round ≡ first.round)

-- the seat of the session at a place
pub record IsSeat (setting : Setting) (tellings : List Telling) (acts : List Act) (at : ℕ) (s : Seat Asking) : Type 0 where
  pub number : s.number ≡ suc at
  pub asker : s.requester.number ≡ suc at
  pub script : s.requester.script ≡ setting.script
  pub asking : IsAsking s.requester
  pub one : places_of s.requester.way ≡ 1
  pub stands : Stands s (request_in s.requester.way)
  pub waits : awaited (suc at) acts ≡ awaited_by s
  pub noted : IsNoted (suc at) acts s
  pub told : IsTold setting.told tellings at acts s

-- a message in a mail spells a request that its sender posted
pub record IsMessage (sessions : ℕ) (kept : RunRecord) (ways : List UnderWay) (part : ℕ) (m : Posted) (bytes : List ℕ) : Type 0 where
  pub envelope : Envelope
  pub spelled : IsEnvelope envelope
  pub bytes_are : bytes ≡ request_bytes envelope
  pub message : m ≡ record { opener = envelope.opener; sync = envelope.sync }
  pub opener : Lies 1 sessions envelope.opener
  pub posted : IsPosted kept ways envelope.opener part envelope.sync envelope.request

-- the process of a partition: what it served leads from its opening to what it is now, and its mail holds what was posted and not yet served
pub record IsProcess (script : Script) (kept : RunRecord) (ways : List UnderWay) (part : ℕ) (d : DiskProcess) : Type 0 where
  pub opened : slice_get (openings script) part ≡ Some d.partition.opening
  pub replayed : IsReplayed d.partition
  pub unmarked : d.partition.marks ≡ replicate 8 None
  pub came : CameSpelled d.partition.history
  pub mail : AllZip (IsMessage (length script.sessions) kept ways part) (mail_after part kept.acts) d.mail

-- what was served was posted
abbrev pub WasPosted : ℕ → RunRecord → List UnderWay → Act → Type 0
WasPosted sessions kept ways (Serve part opener sync) = (request : Request) × Lies 1 sessions opener × IsPosted kept ways opener part sync request
WasPosted sessions kept ways act = Unit {0}

-- the run of a script so far
pub record Driving (setting : Setting) (tellings : List Telling) (w : Scene) : Type 0 where
  pub so_far : LegalSoFar setting.script (record_of w) (ways_of w)
  pub scheduled : ScheduledSoFar (live_in w.seats) (steps_in w.seats) setting.choices (record_of w)
  pub seats : EachAt (IsSeat setting tellings w.acts) w.seats
  pub processes : EachAt (IsProcess setting.script (record_of w) (ways_of w)) w.processes
  pub served : AllByRecursion (WasPosted (length setting.script.sessions) (record_of w) (ways_of w)) w.acts

-- the actor that the choices name next, if any is enabled
abbrev pub next_actor : Setting → Scene → Option Actor
next_actor setting w = chosen_of setting.choices (length w.acts) (actors (live_in w.seats) (length (record_of w).logs) (length (record_of w).histories) w.acts [])

-- the session at a place does this next
abbrev pub TurnAt : Scene → ℕ → Turn → Type 0
TurnAt w at turn = (s : Seat Asking) × (slice_get w.seats at ≡ Some s) × (turn_of s ≡ turn)

-- what an action of an actor that was chosen keeps
abbrev pub GoesOn : Actor → Scene → Scene → Type 0
GoesOn actor a b = (setting : Setting) (tellings : List Telling) → Driving setting tellings a → next_actor setting a ≡ Some actor → Driving setting tellings b

-- a sending goes with what its wire told
abbrev pub GoesOnWith : ℕ → Passage → Scene → Scene → Type 0
GoesOnWith at passage a b =
    (setting : Setting) (before after : List Telling) → HasTold at passage before after → Driving setting before a → next_actor setting a ≡ Some (OfSession (suc at)) → Driving setting after b

-- the same requesters, further on
abbrev pub AreLater : {Q : Type 0} → (Q → Type 0) → (Q → List LogEntry → Type 0) → List (Seat Q) → List (Seat Q) → Type 0
AreLater single allows before after = AllZip (λ a b. IsLater single allows a.requester b.requester) before after

-- something lies in the mail of a partition
abbrev pub HasMail : List DiskProcess → ℕ → Type 0
HasMail processes part = (d : DiskProcess) × (slice_get processes part ≡ Some d) × (d.mail ≢ [])
