-- What is seen of an opener, and what a starved sync leaves.
use Rattle.std.proofs.Common.{◌≡◌, ◌<◌, ◌-◌, inl, inr, ℕ, List, length, map, Option, Some, None, false, refl, ap, sym, ◌∙◌, subst, arith}
use Rattle.std.specs.Prelude.{slice_get, slice_set, unwrap_or}
use Rattle.std.proofs.lemmas.Bool.{false≢true}
use Rattle.sync_messages.specs.Openers.{IsArrival, seat_of, starved_at}
use Rattle.sync_messages.specs.declared.Arrival.TheVariants as arrival
use Rattle.dp_messages.specs.declared.requests.Request.{Request}
use Rattle.partition_core.specs.declared.partitions.Served.TheVariants as answer
use Rattle.sync_messages.specs.declared.Seat.{Seat}
use Rattle.partition_state.specs.State.{State, Opener, opener_of}
use Rattle.partition_state.specs.declared.entries.Entry.{Entry}
use Rattle.partition_laws.specs.Keeping.{Keeps, RowsKeep}
use Rattle.partition_core.specs.Kept.{AreMarked, Kept, Serves, marked, opener_in, served, starved}
use Rattle.partition_core.specs.Scaffold.Contents.{Parts, IsPlace, IsRowAt, IsServing, entry_at, kept_of, mark_of, opener_by, state_of}
use Rattle.partition_core.specs.Settling.{ServesSettling, settles}
use Rattle.partition_core.proofs.Seats.{IsSeen, mark-seen, opener-seen, openers-starved, seat-is, seat-seen, seats-starved}
use Rattle.sql_base.proofs.ListFacts.{map_set, length-set}

-- an opener is as its seat says
pub seen : (q : Parts) (opener : ℕ) → IsServing q → IsSeen (seat_of q.seats opener) (entry_at q.history (seat_of q.seats opener).kept) (opener_in (kept_of q) opener)
seen q opener serving =
    let seat : Seat ℕ = seat_of q.seats opener in
    let entry = entry_at q.history seat.kept in
    let n = unwrap_or (slice_get q.ended (opener - 1)) 0 in
    let same = serving.eight ∙ sym serving.eight_ended in
    let is : marked (mark_of seat) (opener_by n entry) ≡ opener_in (kept_of q) opener =
    ap (λ m. marked m (opener_by n entry)) (sym (mark-seen q.seats (opener - 1))) ∙ ap (marked (unwrap_or (slice_get (map mark_of q.seats) (opener - 1)) None)) (sym (opener-seen q.history q.seats q.ended (opener - 1) same)) in
    subst (IsSeen seat entry) is (seat-seen q.history seat n (seat-is q.history q.seats (opener - 1) serving.seats))

pub marks-above : (q : Parts) → IsServing q → AreMarked (kept_of q)
marks-above q serving opener =
    let seat : Seat ℕ = seat_of q.seats opener in
    let n = unwrap_or (slice_get q.ended (opener - 1)) 0 in
    let same = serving.eight ∙ sym serving.eight_ended in
    let is = seat-is q.history q.seats (opener - 1) serving.seats in
    let last : (opener_of (state_of q) opener).last ≡ (opener_by 0 (entry_at q.history seat.kept)).last = ap (λ (o : Opener). o.last) (opener-seen q.history q.seats q.ended (opener - 1) same) ∙ by-any n (entry_at q.history seat.kept) in
    let is_seen = seen q opener serving in
    omega (arith, last, is.last, is_seen.last)
  where
    by-any : (n : ℕ) (entry : Option Entry) → (opener_by n entry).last ≡ (opener_by 0 entry).last
    by-any n None = refl
    by-any n (Some e) = refl

-- the parts with a sync marked
abbrev pub starved_parts : Parts → ℕ → ℕ → Parts
starved_parts q opener sync = record q { seats = slice_set q.seats (opener - 1) (starved_at sync (seat_of q.seats opener)) }

state-starved : (q : Parts) (opener sync : ℕ) → length q.seats ≡ length q.ended → state_of (starved_parts q opener sync) ≡ state_of q
state-starved q opener sync same = ap (λ os. record (state_of q) { openers = os }) (openers-starved q.history q.seats q.ended (opener - 1) sync same)

abbrev kept_by : Parts → State → List (Option ℕ) → Kept
kept_by q now marks = record { opening = (kept_of q).opening; now = now; history = q.history; marks = marks }

pub kept-starved : (q : Parts) (opener sync : ℕ) → IsServing q → kept_of (starved_parts q opener sync) ≡ starved (kept_of q) opener sync
kept-starved q opener sync serving =
    ap (λ p. kept_by q p (map mark_of (starved_parts q opener sync).seats)) (state-starved q opener sync (serving.eight ∙ sym serving.eight_ended))
    ∙ ap (kept_by q (state_of q)) (map_set mark_of q.seats (opener - 1) (starved_at sync (seat_of q.seats opener)))

pub IsServing-starved : (q : Parts) (opener sync : ℕ) → IsServing q → (seat_of q.seats opener).last < sync → IsServing (starved_parts q opener sync)
IsServing-starved q opener sync serving fresh =
    let same = state-starved q opener sync (serving.eight ∙ sym serving.eight_ended) in
    record {
      replayed = record { legal = serving.replayed.legal; replayed = same ∙ serving.replayed.replayed };
      formed = record { table = serving.formed.table; limits = serving.formed.limits; width = serving.formed.width; kinds = serving.formed.kinds; firsts = serving.formed.firsts };
      keeps = subst Keeps (sym same) serving.keeps;
      rows = subst (RowsKeep (IsRowAt q.table)) (sym same) serving.rows;
      works = serving.works;
      seats = seats-starved q.history q.seats (opener - 1) sync serving.seats fresh;
      eight = length-set q.seats (opener - 1) (starved_at sync (seat_of q.seats opener)) ∙ serving.eight;
      eight_ended = serving.eight_ended;
    }

-- the place of the last entry lies in the history
pub place-within : (q : Parts) (opener place : ℕ) → IsServing q → Some place ≡ (seat_of q.seats opener).kept → place < length q.history
place-within q opener place serving e = subst (IsPlace q.history) (sym e) (seat-is q.history q.seats (opener - 1) serving.seats).place

-- without one there was no sync
pub never-served : (q : Parts) (opener : ℕ) → IsServing q → None ≡ (seat_of q.seats opener).kept → (seat_of q.seats opener).starved ≡ false → (seat_of q.seats opener).last ≡ 0
never-served q opener serving e live =
    (seat-is q.history q.seats (opener - 1) serving.seats).unmarked live ∙ ap (λ place. (opener_by 0 (entry_at q.history place)).last) (sym e)

-- each answer to a request by what its message is
pub serves-new : (q : Parts) (opener sync : ℕ) (request : Request) (new : Kept) → IsServing q → IsArrival (seat_of q.seats opener) sync arrival.New → new ≡ served (kept_of q) opener sync request → Serves (kept_of q) opener sync request answer.New new
serves-new q opener sync request new serving arrives is = let s = seen q opener serving in (omega (arith, s.last, arrives), is)

pub serves-starved : (q : Parts) (opener sync : ℕ) (request : Request) (new : Kept) → IsServing q → IsArrival (seat_of q.seats opener) sync arrival.New → new ≡ starved (kept_of q) opener sync → Serves (kept_of q) opener sync request answer.Starved new
serves-starved q opener sync request new serving arrives is = let s = seen q opener serving in inl (omega (arith, s.last, arrives), is)

pub serves-repeat : (q : Parts) (opener sync : ℕ) (request : Request) → IsServing q → IsArrival (seat_of q.seats opener) sync arrival.Repeat → Serves (kept_of q) opener sync request answer.Repeat (kept_of q)
serves-repeat q opener sync request serving arrives = let s = seen q opener serving in (arrives.0 ∙ sym s.last, s.starved ∙ arrives.1, refl)

pub serves-again : (q : Parts) (opener sync : ℕ) (request : Request) → IsServing q → IsArrival (seat_of q.seats opener) sync arrival.Starved → Serves (kept_of q) opener sync request answer.Starved (kept_of q)
serves-again q opener sync request serving arrives = let s = seen q opener serving in inr (arrives.0 ∙ sym s.last, s.starved ∙ arrives.1, refl)

pub serves-old : (q : Parts) (opener sync : ℕ) (request : Request) → IsServing q → IsArrival (seat_of q.seats opener) sync arrival.Old → Serves (kept_of q) opener sync request answer.Old (kept_of q)
serves-old q opener sync request serving arrives = let s = seen q opener serving in (omega (arith, s.last, arrives), refl)

-- what isn't new settles nothing, and what settles isn't starved
pub settling-repeat : (q : Parts) (opener sync : ℕ) (request : Request) → IsServing q → IsArrival (seat_of q.seats opener) sync arrival.Repeat → ServesSettling (kept_of q) opener sync request answer.Repeat
settling-repeat q opener sync request serving arrives = λ fresh s. let is = seen q opener serving in absurd (omega (arith, is.last, arrives.0, fresh))

pub settling-again : (q : Parts) (opener sync : ℕ) (request : Request) → IsServing q → IsArrival (seat_of q.seats opener) sync arrival.Starved → ServesSettling (kept_of q) opener sync request answer.Starved
settling-again q opener sync request serving arrives = λ fresh s. let is = seen q opener serving in absurd (omega (arith, is.last, arrives.0, fresh))

pub settling-old : (q : Parts) (opener sync : ℕ) (request : Request) → IsServing q → IsArrival (seat_of q.seats opener) sync arrival.Old → ServesSettling (kept_of q) opener sync request answer.Old
settling-old q opener sync request serving arrives = λ fresh s. let is = seen q opener serving in absurd (omega (arith, is.last, arrives, fresh))

pub settling-starved : (q : Parts) (opener sync : ℕ) (request : Request) → settles (state_of q) (record { session = opener; ordinal = request.ordinal }) request.ask ≡ false → ServesSettling (kept_of q) opener sync request answer.Starved
settling-starved q opener sync request none = λ fresh s. absurd (false≢true (sym none ∙ s))
