-- What a session does next, and what becomes of its seat.
use Rattle.std.specs.Prelude.{◌≡◌, ℕ, ◌+◌, ◌++◌, ◌==◌, nat_lt, Bool, true, false, ◌||◌, ◌&&◌, if◌then◌else◌}
use Rattle.outside.specs.Wire.{is_loss}
use Rattle.outside.specs.declared.wire.Passage.{Passage}
use Rattle.dp_messages.specs.declared.requests.Request.{Request}
use Rattle.requester_fs.specs.Asking.{Asking, HasTaken, IsAsking, IsSame, next_at, places_of}
use Rattle.session_grammar.specs.Rows.{is_end}
use Rattle.session_grammar.specs.Sessions.{Draws, Ends, MayCome, Next, Sends, entries_kept}
use Rattle.session_grammar.specs.declared.logs.Answer.{Answer}
use Rattle.session_grammar.specs.declared.logs.Answer.TheVariants.{PathFailed}
use Rattle.step_world.specs.declared.seats.Outgoing.{Outgoing}
use Rattle.step_world.specs.declared.seats.Seat.{Seat}
use Rattle.step_world.specs.declared.seats.Turn.{Turn}
use Rattle.step_world.specs.declared.seats.Turn.TheVariants.{Send, Take, ServeByHand, Draw, Wait, Rest}

-- a seat with what contracts see of its requester
abbrev pub seen : {Q : Type 0} → (Q → Asking) → Seat Q → Seat Asking
seen asking s = record { number = s.number; requester = asking s.requester; losses = s.losses; waits = s.waits; is_served = s.is_served }

-- the session waits where its path carried its request; what was lost four times and is still under way is an End
abbrev pub turn_with : Seat Asking → Turn
turn_with s = if s.waits then (if s.is_served then Take else Wait) else (if s.losses == 4 then ServeByHand else Send)

abbrev pub turn_to : Seat Asking → Next → Turn
turn_to s (Sends part sync request) = turn_with s
turn_to s (Draws name floor) = Draw
turn_to s Ends = Rest

abbrev pub turn_of : Seat Asking → Turn
turn_of s = turn_to s (next_at s.requester.way 0)

abbrev pub IsSending : Next → Type 0
IsSending (Sends part sync request) = Unit {0}
IsSending (Draws name floor) = ⊥
IsSending Ends = ⊥

-- it has a request under way
abbrev pub HasRequest : Seat Asking → Type 0
HasRequest s = IsSending (next_at s.requester.way 0)

-- its request as it goes out
pub record IsOut (s : Seat Asking) (out : Outgoing) : Type 0 where
  pub opener : out.envelope.opener ≡ s.number
  pub sends : next_at s.requester.way 0 ≡ Sends out.part out.envelope.sync out.envelope.request
  pub is_end : out.is_end ≡ is_end out.envelope.request.ask

-- the requester has taken an answer, and nothing is left of what it had under way
pub record IsAnswered (answer : Answer) (a b : Seat Asking) : Type 0 where
  pub number : b.number ≡ a.number
  pub same : IsSame a.requester b.requester
  pub taken : HasTaken a.requester (next_at a.requester.way 0) answer a.losses b.requester
  pub asking : IsAsking b.requester
  pub one : places_of b.requester.way ≡ 1
  pub in_order : b.requester.log ≡ a.requester.log ++ entries_kept (next_at a.requester.way 0) answer a.losses
  pub unlost : b.losses ≡ 0
  pub goes : b.waits ≡ false
  pub unserved : b.is_served ≡ false

-- what becomes of a request on its path: it is carried; it is lost once more; or this was the fourth loss, and it isn't an End
abbrev pub sent_by : Bool → Bool → Seat Asking → Seat Asking → Type 0
sent_by false goes_on a b = b ≡ record a { waits = true }
sent_by true true a b = b ≡ record a { losses = a.losses + 1 }
sent_by true false a b = IsAnswered PathFailed (record a { losses = a.losses + 1 }) b

abbrev pub IsSent : Passage → Bool → Seat Asking → Seat Asking → Type 0
IsSent passage is_end a b = sent_by (is_loss passage) (nat_lt (a.losses + 1) 4 || is_end) a b

-- its request may fail, unless it is an End
abbrev pub MayFail : Seat Asking → Bool → Type 0
MayFail s is_end = is_end ≡ false → MayCome (next_at s.requester.way 0) PathFailed 4

-- its request goes to this partition with this sync
abbrev pub IsAwaited : Seat Asking → ℕ → ℕ → Type 0
IsAwaited s part sync = (request : Request) × (next_at s.requester.way 0 ≡ Sends part sync request)

abbrev pub is_open : Next → ℕ → ℕ → Bool
is_open (Sends its_part its_sync request) part sync = its_part == part && its_sync == sync
is_open (Draws name floor) part sync = false
is_open Ends part sync = false

-- a partition has served a message of the session, which may be that of its request
abbrev pub served_at : Seat Asking → ℕ → ℕ → Seat Asking
served_at s part sync = record s { is_served = if is_open (next_at s.requester.way 0) part sync then true else s.is_served }
