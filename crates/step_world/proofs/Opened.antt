-- What a session with a request under way is known to be.
use Rattle.std.proofs.Common.{◌≡◌, ◌≢◌, ◌<◌, ◌-◌, ℕ, zero, suc, List, [], ◌∷◌, ◌++◌, length, map, max, get_or, Option, Some, Bool, true, false, cond, refl, ap, sym, ◌∙◌, subst, arith}
use Rattle.std.specs.Prelude.{Contains, ◌==◌, slice_get, unwrap_or}
use Rattle.std.proofs.lemmas.List.Elements.{Contains-append_right}
use Rattle.std.proofs.lemmas.Option.{slice_get_within}
use Rattle.std.proofs.lemmas.List.{length-map}
use Rattle.outside.specs.declared.wire.Passage.{Passage}
use Rattle.sql_base.specs.Scripts.{Lies, parts_of}
use Rattle.sql_base.specs.declared.lock_names.TxnName.{TxnName}
use Rattle.dp_messages.specs.Spelling.{IsEnvelope}
use Rattle.dp_messages.specs.declared.requests.Request.{Request}
use Rattle.requester_fs.specs.Asking.{AreSendable, Asking, IsAsking, IsSendable, next_at, places_of}
use Rattle.session_grammar.specs.Sessions.{Draws, Ends, Next, Sends}
use Rattle.session_grammar.specs.UnderWay.{Awaiting, Drawing, Sending, UnderWay, unanswered}
use Rattle.session_grammar.specs.declared.logs.Answer.TheVariants.{PathFailed}
use Rattle.session_grammar.specs.declared.logs.LogEntry.{LogEntry}
use Rattle.session_grammar.specs.declared.logs.LogEntry.TheVariants.{Asked}
use Rattle.run_record.specs.Openings.{log_of}
use Rattle.run_record.specs.declared.records.RunRecord.{RunRecord}
use Rattle.record_laws.specs.SoFar.{way_of}
use Rattle.driver_laws.specs.Moves.{IsPosted}
use Rattle.record_laws.proofs.FiveFacts.{as_many}
use Rattle.driver_laws.specs.Carrying.{Telling}
use Rattle.step_world.specs.Scaffold.Seats.{HasRequest, IsOut, IsSending, turn_of, turn_to}
use Rattle.step_world.specs.declared.processes.DiskProcess.{DiskProcess}
use Rattle.step_world.specs.declared.seats.Outgoing.{Outgoing}
use Rattle.step_world.specs.Scaffold.Worlds.{Driving, Scene, Setting, Stands, record_of, request_in, ways_of}
use Rattle.step_world.specs.declared.seats.Seat.{Seat}
use Rattle.step_world.specs.declared.seats.Turn.TheVariants.{Send, Take, ServeByHand, Wait}
use Rattle.step_world.specs.Tellings.{HasTold}
use Rattle.step_world.proofs.Places.{get_map, get_set_other}

-- one place, at which a request is sent
open_rest : (r : Sending) (rest : List Sending) → max 1 (length (r ∷ rest)) ≡ 1 → rest ≡ []
open_rest r [] h = refl
open_rest r (x ∷ rest) h = absurd (omega (arith, h))

pub open_way : (way : UnderWay) (part sync : ℕ) (request : Request) → places_of way ≡ 1 → next_at way 0 ≡ Sends part sync request → way ≡ Awaiting (record { part = part; sync = sync; request = request } ∷ [])
open_way (Awaiting []) part sync request one is = absurd (cc)
open_way (Awaiting (r ∷ rest)) part sync request one is =
    let its_part : r.part ≡ part = cc in
    let its_sync : r.sync ≡ sync = cc in
    let its_request : r.request ≡ request = cc in
    let same : r ≡ record { part = part; sync = sync; request = request } = (λ i. record { part = its_part i; sync = its_sync i; request = its_request i }) in
    let none = open_rest r rest one in
    (λ i. Awaiting (same i ∷ none i))
open_way (Drawing name floor) part sync request one is = absurd (cc)

pub draw_way : (way : UnderWay) (name : TxnName) (floor : ℕ) → next_at way 0 ≡ Draws name floor → way ≡ Drawing name floor
draw_way (Awaiting []) name floor is = absurd (cc)
draw_way (Awaiting (r ∷ rest)) name floor is = absurd (cc)
draw_way (Drawing n f) name floor is = cc

-- the turns, told apart
send_bits : (waits served four : Bool) → cond waits (cond served Take Wait) (cond four ServeByHand Send) ≡ Send → (waits ≡ false) × (four ≡ false)
send_bits true true four h = absurd (cc)
send_bits true false four h = absurd (cc)
send_bits false served true h = absurd (cc)
send_bits false served false h = (refl, refl)

take_bits : (waits served four : Bool) → cond waits (cond served Take Wait) (cond four ServeByHand Send) ≡ Take → (waits ≡ true) × (served ≡ true)
take_bits true true four h = (refl, refl)
take_bits true false four h = absurd (cc)
take_bits false served true h = absurd (cc)
take_bits false served false h = absurd (cc)

hand_bits : (waits served four : Bool) → cond waits (cond served Take Wait) (cond four ServeByHand Send) ≡ ServeByHand → (waits ≡ false) × (four ≡ true)
hand_bits true true four h = absurd (cc)
hand_bits true false four h = absurd (cc)
hand_bits false served true h = (refl, refl)
hand_bits false served false h = absurd (cc)

send_to : (s : Seat Asking) (next : Next) → turn_to s next ≡ Send → IsSending next × (s.waits ≡ false) × ((s.losses == 4) ≡ false)
send_to s (Sends part sync request) h = let bits = send_bits s.waits s.is_served (s.losses == 4) h in (tt, bits.0, bits.1)
send_to s (Draws name floor) h = absurd (cc)
send_to s Ends h = absurd (cc)

take_to : (s : Seat Asking) (next : Next) → turn_to s next ≡ Take → IsSending next × (s.waits ≡ true) × (s.is_served ≡ true)
take_to s (Sends part sync request) h = let bits = take_bits s.waits s.is_served (s.losses == 4) h in (tt, bits.0, bits.1)
take_to s (Draws name floor) h = absurd (cc)
take_to s Ends h = absurd (cc)

hand_to : (s : Seat Asking) (next : Next) → turn_to s next ≡ ServeByHand → IsSending next × (s.waits ≡ false) × ((s.losses == 4) ≡ true)
hand_to s (Sends part sync request) h = let bits = hand_bits s.waits s.is_served (s.losses == 4) h in (tt, bits.0, bits.1)
hand_to s (Draws name floor) h = absurd (cc)
hand_to s Ends h = absurd (cc)

pub turn_send : (s : Seat Asking) → turn_of s ≡ Send → HasRequest s × (s.waits ≡ false) × ((s.losses == 4) ≡ false)
turn_send s h = send_to s (next_at s.requester.way 0) h

pub turn_take : (s : Seat Asking) → turn_of s ≡ Take → HasRequest s × (s.waits ≡ true) × (s.is_served ≡ true)
turn_take s h = take_to s (next_at s.requester.way 0) h

pub turn_hand : (s : Seat Asking) → turn_of s ≡ ServeByHand → HasRequest s × (s.waits ≡ false) × ((s.losses == 4) ≡ true)
turn_hand s h = hand_to s (next_at s.requester.way 0) h

-- a request that is sent to a partition of the script, and that a message spells
pub sendable : (a : Asking) (r : Sending) → IsAsking a → a.way ≡ Awaiting (r ∷ []) → IsSendable a r
sendable a r asking is = (subst (AreSendable a) is asking.sendable).0

-- the way and the log of the session at a place
pub way_at : (w : Scene) (at : ℕ) (s : Seat Asking) → slice_get w.seats at ≡ Some s → way_of (ways_of w) (suc at) ≡ s.requester.way
way_at w at s here =
    let place : suc at - 1 ≡ at = omega arith in
    ap (λ n. unwrap_or (slice_get (ways_of w) n) (Awaiting [])) place ∙ ap (λ (o : Option UnderWay). unwrap_or o (Awaiting [])) (get_map (λ (x : Seat Asking). x.requester.way) w.seats at s here)

pub log_at : (w : Scene) (at : ℕ) (s : Seat Asking) → slice_get w.seats at ≡ Some s → log_of (record_of w) (suc at) ≡ s.requester.log
log_at w at s here =
    let place : suc at - 1 ≡ at = omega arith in
    ap (λ n. unwrap_or (slice_get (record_of w).logs n) []) place ∙ ap (λ (o : Option (List LogEntry)). unwrap_or o []) (get_map (λ (x : Seat Asking). x.requester.log) w.seats at s here)

-- a request under way was posted
pub is_posted : (kept : RunRecord) (ways : List UnderWay) (n : ℕ) (r : Sending) → way_of ways n ≡ Awaiting (r ∷ []) → IsPosted kept ways n r.part r.sync r.request
is_posted kept ways n r is = (
  4,
  PathFailed,
  subst (λ way. Contains (log_of kept n ++ unanswered way) (Asked r.part r.sync r.request 4 PathFailed)) (sym is)
      (Contains-append_right (log_of kept n) (Asked r.part r.sync r.request 4 PathFailed ∷ []) (Asked r.part r.sync r.request 4 PathFailed) (zero, omega arith, refl)),
)

-- the session at a place is one of the script
pub lies_at : (setting : Setting) (tellings : List Telling) (w : Scene) (at : ℕ) (s : Seat Asking) → Driving setting tellings w → slice_get w.seats at ≡ Some s → Lies 1 (length setting.script.sessions) (suc at)
lies_at setting tellings w at s run here =
    let less = slice_get_within w.seats at s here in
    let logs = length-map w.seats (λ (x : Seat Asking). x.requester.log) in
    let sessions = run.so_far.logs_begin.logs in
    (omega arith, omega (arith, less, logs, sessions))

-- the wires of the others tell what they told before
pub others_tell : (at : ℕ) (passage : Passage) (before after : List Telling) → HasTold at passage before after → (i : ℕ) → i ≢ at → slice_get after i ≡ slice_get before i
others_tell at passage before after has i differ = ap (λ (ts : List Telling). slice_get ts i) has.left ∙ get_set_other before at i (record { first = has.others; round = has.wire.round }) differ

-- the seat that stands at a place is the one that contracts see there
pub seat_is : {X Y : Type 0} (f : X → Y) (xs : List X) (at : ℕ) (x : X) (s : Y) → slice_get (map f xs) at ≡ Some s → x ≡ get_or xs at x → (slice_get xs at ≡ Some x) × (f x ≡ s)
seat_is f [] at x s here is = absurd (cc)
seat_is f (y ∷ xs) zero x s here is = (ap Some (sym is), ap f is ∙ cc)
seat_is f (y ∷ xs) (suc at) x s here is = seat_is f xs at x s here is

-- a session with a request under way, to a partition that there is
pub record OpenSeat (w : Scene) (at : ℕ) (s : Seat Asking) : Type 0 where
  pub r : Sending
  pub here : slice_get w.seats at ≡ Some s
  pub way : s.requester.way ≡ Awaiting (r ∷ [])
  pub sends : next_at s.requester.way 0 ≡ Sends r.part r.sync r.request
  pub spelled : IsEnvelope (record { opener = suc at; sync = r.sync; request = r.request })
  pub part : r.part < length w.processes
  pub stands : Stands s (Some r)

sending_next : (next : Next) → IsSending next → (part : ℕ) × (sync : ℕ) × (request : Request) × (next ≡ Sends part sync request)
sending_next (Sends part sync request) h = (part, sync, request, refl)
sending_next (Draws name floor) h = absurd h
sending_next Ends h = absurd h

pub opened_at : (setting : Setting) (tellings : List Telling) (w : Scene) (at : ℕ) (s : Seat Asking) → Driving setting tellings w → slice_get w.seats at ≡ Some s → HasRequest s → OpenSeat w at s
opened_at setting tellings w at s run here has =
    let is = run.seats at s here in
    let next = sending_next (next_at s.requester.way 0) has in
    let r : Sending = record { part = next.0; sync = next.1; request = next.2 } in
    let way = open_way s.requester.way next.0 next.1 next.2 is.one next.3 in
    let sent = sendable s.requester r is.asking way in
    let within : r.part < parts_of setting.script.tables = subst (λ script. r.part < parts_of script.tables) is.script sent.part in
    let many = as_many setting.script (record_of w) run.so_far.histories_replay in
    let histories = length-map w.processes (λ (d : DiskProcess). d.partition.history) in
    record {
      r = r;
      here = here;
      way = way;
      sends = next.3;
      spelled = subst (λ n. IsEnvelope (record { opener = n; sync = r.sync; request = r.request })) is.asker sent.spelled;
      part = omega (arith, within, many, histories);
      stands = subst (Stands s) (ap request_in way) is.stands;
    }

-- what goes out is the request under way
pub out_is : (s : Seat Asking) (r : Sending) (out : Outgoing) → next_at s.requester.way 0 ≡ Sends r.part r.sync r.request → IsOut s out → (out.part ≡ r.part) × (out.envelope ≡ record { opener = s.number; sync = r.sync; request = r.request })
out_is s r out sends is =
    let same : Sends out.part out.envelope.sync out.envelope.request ≡ Sends r.part r.sync r.request = sym is.sends ∙ sends in
    let sync : out.envelope.sync ≡ r.sync = cc in
    let request : out.envelope.request ≡ r.request = cc in
    (cc, (λ i. record { opener = is.opener i; sync = sync i; request = request i }))
