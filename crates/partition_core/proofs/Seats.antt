-- The seats of the openers.
use Rattle.std.proofs.Common.{◌≡◌, ◌<◌, ◌≤◌, ℕ, zero, suc, List, [], ◌∷◌, ◌++◌, length, map, Bool, Option, Some, None, true, false, refl, ap, sym, ◌∙◌, subst, arith}
use Rattle.std.specs.Prelude.{slice_get, slice_set, unwrap_or, option_map}
use Rattle.std.specs.List.{AllByRecursion}
use Rattle.std.proofs.lemmas.Bool.{false≢true}
use Rattle.std.proofs.lemmas.List.{length_push}
use Rattle.sync_messages.specs.Openers.{kept_as, new_seat, starved_at}
use Rattle.sync_messages.specs.declared.Seat.{Seat}
use Rattle.partition_state.specs.State.{Opener, new_opener}
use Rattle.partition_state.specs.declared.entries.Entry.{Entry}
use Rattle.partition_core.specs.Scaffold.Contents.{IsPlace, IsSeat, entry_at, mark_of, opener_by, openers_in}
use Rattle.partition_core.specs.Kept.{marked}
use Rattle.sql_base.proofs.ListFacts.{slice_get-last, all-set}

slice_get-before : {X : Type 0} (xs : List X) (x : X) (i : ℕ) → i < length xs → slice_get (xs ++ x ∷ []) i ≡ slice_get xs i
slice_get-before [] x i lt = absurd (omega arith)
slice_get-before (y ∷ xs) x zero lt = refl
slice_get-before (y ∷ xs) x (suc i) lt = slice_get-before xs x i (omega arith)

-- an entry of the history stays where it is
entry-same : (history : List Entry) (e : Entry) (place : Option ℕ) → IsPlace history place → entry_at (history ++ e ∷ []) place ≡ entry_at history place
entry-same history e None h = refl
entry-same history e (Some place) h = slice_get-before history e place h

-- the opener of a seat
pub opener-seen : (history : List Entry) (seats : List (Seat ℕ)) (ended : List ℕ) (i : ℕ) → length seats ≡ length ended
    → unwrap_or (slice_get (openers_in history seats ended) i) new_opener ≡ opener_by (unwrap_or (slice_get ended i) 0) (entry_at history (unwrap_or (slice_get seats i) new_seat).kept)
opener-seen history [] [] i same = refl
opener-seen history [] (n ∷ ended) i same = absurd (omega arith)
opener-seen history (seat ∷ seats) [] i same = absurd (omega arith)
opener-seen history (seat ∷ seats) (n ∷ ended) zero same = refl
opener-seen history (seat ∷ seats) (n ∷ ended) (suc i) same = opener-seen history seats ended i (omega arith)

pub mark-seen : (seats : List (Seat ℕ)) (i : ℕ) → unwrap_or (slice_get (map mark_of seats) i) None ≡ mark_of (unwrap_or (slice_get seats i) new_seat)
mark-seen [] i = refl
mark-seen (seat ∷ seats) zero = refl
mark-seen (seat ∷ seats) (suc i) = mark-seen seats i

pub seat-is : (history : List Entry) (seats : List (Seat ℕ)) (i : ℕ) → AllByRecursion (IsSeat history) seats → IsSeat history (unwrap_or (slice_get seats i) new_seat)
seat-is history [] i h = record { place = tt; last = omega arith; unmarked = λ _. refl }
seat-is history (seat ∷ seats) zero h = h.0
seat-is history (seat ∷ seats) (suc i) h = seat-is history seats i h.1

-- what is kept of the opener of a seat
pub record IsSeen (seat : Seat ℕ) (entry : Option Entry) (o : Opener) : Type 0 where
  pub last : o.last ≡ seat.last
  pub starved : o.starved ≡ seat.starved
  pub kept : o.kept ≡ option_map (λ e. e.reply) entry

seen_by : (last : ℕ) (starved : Bool) (place : Option ℕ) (n : ℕ) (entry : Option Entry) → (starved ≡ false → last ≡ (opener_by 0 entry).last)
    → IsSeen (record { last = last; starved = starved; kept = place }) entry (marked (mark_of (record { last = last; starved = starved; kept = place })) (opener_by n entry))
seen_by last true place n None h = record { last = refl; starved = refl; kept = refl }
seen_by last true place n (Some e) h = record { last = refl; starved = refl; kept = refl }
seen_by last false place n None h = record { last = sym (h refl); starved = refl; kept = refl }
seen_by last false place n (Some e) h = record { last = sym (h refl); starved = refl; kept = refl }

pub seat-seen : (history : List Entry) (seat : Seat ℕ) (n : ℕ) → IsSeat history seat → IsSeen seat (entry_at history seat.kept) (marked (mark_of seat) (opener_by n (entry_at history seat.kept)))
seat-seen history seat n h = seen_by seat.last seat.starved seat.kept n (entry_at history seat.kept) h.unmarked

by-last : (n m : ℕ) (entry : Option Entry) → (opener_by n entry).last ≡ (opener_by m entry).last
by-last n m None = refl
by-last n m (Some e) = refl

all-same : (history : List Entry) (e : Entry) (seats : List (Seat ℕ)) (ended : List ℕ) → AllByRecursion (IsSeat history) seats → openers_in (history ++ e ∷ []) seats ended ≡ openers_in history seats ended
all-same history e [] ended h = refl
all-same history e (seat ∷ seats) [] h = refl
all-same history e (seat ∷ seats) (n ∷ ended) h =
    ap (λ entry. opener_by n entry ∷ openers_in (history ++ e ∷ []) seats ended) (entry-same history e seat.kept h.0.place)
    ∙ ap (λ os. opener_by n (entry_at history seat.kept) ∷ os) (all-same history e seats ended h.1)

noted-by : (n : ℕ) (entry : Option Entry) (e : Entry) → opener_by n (Some e) ≡ record (opener_by n entry) { last = e.sync; starved = false; kept = Some e.reply }
noted-by n None e = refl
noted-by n (Some x) e = refl

-- an entry is noted at its opener's seat
pub openers-noted : (history : List Entry) (e : Entry) (seats : List (Seat ℕ)) (ended : List ℕ) (i : ℕ) → AllByRecursion (IsSeat history) seats → length seats ≡ length ended → i < length seats
    → openers_in (history ++ e ∷ []) (slice_set seats i (kept_as e.sync (length history))) ended
    ≡ slice_set (openers_in history seats ended) i (record (unwrap_or (slice_get (openers_in history seats ended) i) new_opener) { last = e.sync; starved = false; kept = Some e.reply })
openers-noted history e [] ended i h same lt = absurd (omega arith)
openers-noted history e (seat ∷ seats) [] i h same lt = absurd (omega arith)
openers-noted history e (seat ∷ seats) (n ∷ ended) zero h same lt =
    ap (λ entry. opener_by n entry ∷ openers_in (history ++ e ∷ []) seats ended) (slice_get-last history e)
    ∙ ap (λ o. o ∷ openers_in (history ++ e ∷ []) seats ended) (noted-by n (entry_at history seat.kept) e)
    ∙ ap (λ os. record (opener_by n (entry_at history seat.kept)) { last = e.sync; starved = false; kept = Some e.reply } ∷ os) (all-same history e seats ended h.1)
openers-noted history e (seat ∷ seats) (n ∷ ended) (suc i) h same lt =
    ap (λ entry. opener_by n entry ∷ openers_in (history ++ e ∷ []) (slice_set seats i (kept_as e.sync (length history))) ended) (entry-same history e seat.kept h.0.place)
    ∙ ap (λ os. opener_by n (entry_at history seat.kept) ∷ os) (openers-noted history e seats ended i h.1 (omega arith) (omega arith))

ended-by : (n m : ℕ) (entry : Option Entry) → opener_by m entry ≡ record (opener_by n entry) { ended = m }
ended-by n m None = refl
ended-by n m (Some x) = refl

-- an ordinal has ended
pub openers-ended : (history : List Entry) (seats : List (Seat ℕ)) (ended : List ℕ) (i n : ℕ) → length seats ≡ length ended
    → openers_in history seats (slice_set ended i n) ≡ slice_set (openers_in history seats ended) i (record (unwrap_or (slice_get (openers_in history seats ended) i) new_opener) { ended = n })
openers-ended history [] ended i n same = refl
openers-ended history (seat ∷ seats) [] i n same = absurd (omega arith)
openers-ended history (seat ∷ seats) (m ∷ ended) zero n same = ap (λ o. o ∷ openers_in history seats ended) (ended-by m n (entry_at history seat.kept))
openers-ended history (seat ∷ seats) (m ∷ ended) (suc i) n same = ap (λ os. opener_by m (entry_at history seat.kept) ∷ os) (openers-ended history seats ended i n (omega arith))

pub ended-seen : (history : List Entry) (seats : List (Seat ℕ)) (ended : List ℕ) (i : ℕ) → length seats ≡ length ended → (unwrap_or (slice_get (openers_in history seats ended) i) new_opener).ended ≡ unwrap_or (slice_get ended i) 0
ended-seen history seats ended i same = ap (λ (o : Opener). o.ended) (opener-seen history seats ended i same) ∙ of (entry_at history (unwrap_or (slice_get seats i) new_seat).kept)
  where
    of : (entry : Option Entry) → (opener_by (unwrap_or (slice_get ended i) 0) entry).ended ≡ unwrap_or (slice_get ended i) 0
    of None = refl
    of (Some e) = refl

IsPlace-longer : (history : List Entry) (e : Entry) (place : Option ℕ) → IsPlace history place → IsPlace (history ++ e ∷ []) place
IsPlace-longer history e None h = h
IsPlace-longer history e (Some place) h = grind (arith, length_push)

IsSeat-longer : (history : List Entry) (e : Entry) (seat : Seat ℕ) → IsSeat history seat → IsSeat (history ++ e ∷ []) seat
IsSeat-longer history e seat h = record {
  place = IsPlace-longer history e seat.kept h.place;
  last = subst (λ entry. (opener_by 0 entry).last ≤ seat.last) (sym (entry-same history e seat.kept h.place)) h.last;
  unmarked = λ s. h.unmarked s ∙ ap (λ entry. (opener_by 0 entry).last) (sym (entry-same history e seat.kept h.place));
}

seats-longer : (history : List Entry) (e : Entry) (seats : List (Seat ℕ)) → AllByRecursion (IsSeat history) seats → AllByRecursion (IsSeat (history ++ e ∷ [])) seats
seats-longer history e [] h = tt
seats-longer history e (seat ∷ seats) h = (IsSeat-longer history e seat h.0, seats-longer history e seats h.1)

noted-is : (history : List Entry) (e : Entry) → IsSeat (history ++ e ∷ []) (kept_as e.sync (length history))
noted-is history e = record {
  place = grind (arith, length_push);
  last = subst (λ entry. (opener_by 0 entry).last ≤ e.sync) (sym (slice_get-last history e)) (omega arith);
  unmarked = λ _. ap (λ entry. (opener_by 0 entry).last) (sym (slice_get-last history e));
}

pub seats-noted : (history : List Entry) (e : Entry) (seats : List (Seat ℕ)) (i : ℕ) → AllByRecursion (IsSeat history) seats → AllByRecursion (IsSeat (history ++ e ∷ [])) (slice_set seats i (kept_as e.sync (length history)))
seats-noted history e seats i h = all-set (IsSeat (history ++ e ∷ [])) seats i (kept_as e.sync (length history)) (noted-is history e) (seats-longer history e seats h)

-- the last sync of a seat is marked
pub seats-starved : (history : List Entry) (seats : List (Seat ℕ)) (i sync : ℕ) → AllByRecursion (IsSeat history) seats → (unwrap_or (slice_get seats i) new_seat).last < sync
    → AllByRecursion (IsSeat history) (slice_set seats i (starved_at sync (unwrap_or (slice_get seats i) new_seat)))
seats-starved history seats i sync h fresh =
    let seat : Seat ℕ = unwrap_or (slice_get seats i) new_seat in
    let is = seat-is history seats i h in
    all-set (IsSeat history) seats i (starved_at sync seat) (record { place = is.place; last = omega (arith, is.last); unmarked = λ s. absurd (false≢true (sym s)) }) h

pub openers-starved : (history : List Entry) (seats : List (Seat ℕ)) (ended : List ℕ) (i sync : ℕ) → length seats ≡ length ended → openers_in history (slice_set seats i (starved_at sync (unwrap_or (slice_get seats i) new_seat))) ended ≡ openers_in history seats ended
openers-starved history [] ended i sync same = refl
openers-starved history (seat ∷ seats) [] i sync same = absurd (omega arith)
openers-starved history (seat ∷ seats) (n ∷ ended) zero sync same = refl
openers-starved history (seat ∷ seats) (n ∷ ended) (suc i) sync same = ap (λ os. opener_by n (entry_at history seat.kept) ∷ os) (openers-starved history seats ended i sync (omega arith))
