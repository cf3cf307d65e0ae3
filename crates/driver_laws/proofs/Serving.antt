-- A partition serves a message as new: what was served of the session's log goes on.
use Rattle.std.proofs.Common.{◌≡◌, ◌≤◌, ◌<◌, ℕ, zero, suc, ◌+◌, List, [], ◌∷◌, ◌++◌, length, get_or, Some, Bool, true, false, refl, ap, sym, ◌∙◌, subst, inl, inr, arith}
use Rattle.std.proofs.lemmas.Bool.{eqb-true}
use Rattle.std.proofs.lemmas.List.{append-nil}
use Rattle.std.proofs.lemmas.List.Elements.{filter-append}
use Rattle.std.specs.Prelude.{◌⊎◌, filter, slice_get, Contains}
use Rattle.std.specs.List.{AllByRecursion}
use Rattle.sql_base.specs.declared.scripts.Script.{Script}
use Rattle.dp_messages.specs.declared.requests.Request.{Request}
use Rattle.partition_state.specs.History.{IsLegal}
use Rattle.partition_state.specs.State.{State}
use Rattle.partition_state.specs.declared.entries.Entry.{Entry}
use Rattle.session_grammar.specs.Follows.{CountSyncs}
use Rattle.session_grammar.specs.Rows.{is_for}
use Rattle.session_grammar.specs.declared.logs.Answer.{Answer}
use Rattle.session_grammar.specs.declared.logs.Answer.TheVariants.{Reply, PathFailed, Stamp}
use Rattle.session_grammar.specs.declared.logs.LogEntry.{LogEntry}
use Rattle.session_grammar.specs.declared.logs.LogEntry.TheVariants.{Asked, Drew}
use Rattle.run_record.specs.Legal.{AreServed, IsServed}
use Rattle.partition_laws.specs.Keeping.{Keeps}
use Rattle.partition_laws.proofs.OpenerLaws.{syncs_rise}
use Rattle.session_grammar.specs.UnderWay.{AreAbove, BeginsWith, IsAbove, IsWith, Merges, Sending, Awaiting, Drawing, UnderWay, unanswered, Asks}
use Rattle.record_laws.proofs.Completing.{filled_merges, merged_first, open_entry}
use Rattle.record_laws.proofs.Driving.{served_join}
use Rattle.record_laws.proofs.Served.{served_all, served_split}
use Rattle.driver_laws.specs.Gathering.{Climbs, IsOver}
use Rattle.driver_laws.proofs.Openings.{none_or_one, open_for, the_open}
use Rattle.sql_base.proofs.ListFacts.{all-filter, all-weaker, all_in, all_joined, all_places, all_through, slice_get-last}
use Rattle.session_grammar.proofs.LogLists.{syncs_front}

-- what was asked has this sync or a later one
abbrev pub NotBelow : ℕ → LogEntry → Type 0
NotBelow sync (Asked p s q l w) = sync ≤ s
NotBelow sync (Drew n f w) = Unit {0}

abbrev IsLater : ℕ → Entry → Type 0
IsLater sync e = sync ≤ e.sync

abbrev pub IsEarlier : ℕ → Entry → Type 0
IsEarlier sync e = e.sync < sync

module _ (part sync : ℕ) (request : Request) (losses : ℕ) (answer : Answer) where
  abbrev it : LogEntry
  it = Asked part sync request losses answer

  -- where none of the entries has its sync or a later one, it wasn't answered, and its entry may come
  pub served_new : (xs ys : List LogEntry) (es : List Entry) (e : Entry) → AllByRecursion (NotBelow sync) ys → AllByRecursion (IsEarlier sync) es → IsServed e sync request
      → AreServed (xs ++ it ∷ ys) es → AreServed (xs ++ it ∷ ys) (es ++ e ∷ [])
  served_new xs ys es e later earlier is h = let s = served_split xs (it ∷ ys) es h in by_back s.0 s.1 s.2 s.3 s.4
    where
      its_own : (w : Answer) → AreServed (Asked part sync request losses w ∷ ys) [] → AreServed (Asked part sync request losses w ∷ ys) (e ∷ [])
      its_own (Reply r) none = absurd none
      its_own PathFailed none = inr (is, none)
      its_own (Stamp stamp) none = absurd none

      back_earlier : (front back : List Entry) → AllByRecursion (IsEarlier sync) (front ++ back) → AllByRecursion (IsEarlier sync) back
      back_earlier [] back all = all
      back_earlier (f ∷ front) back all = back_earlier front back all.1

      late : (back : List Entry) → AreServed (it ∷ ys) back → AllByRecursion (IsLater sync) back
      late back served = served_all (NotBelow sync) (IsLater sync) (λ p x q l w f n of. omega (arith, n, of.0)) (it ∷ ys) back (omega arith, later) served

      by_back : (front back : List Entry) → es ≡ front ++ back → AreServed xs front → AreServed (it ∷ ys) back → AreServed (xs ++ it ∷ ys) (es ++ e ∷ [])
      by_back front [] is_es served none =
          let same : es ≡ front = is_es ∙ append-nil front in
          subst (λ (fs : List Entry). AreServed (xs ++ it ∷ ys) (fs ++ e ∷ [])) (sym same) (served_join xs (it ∷ ys) front (e ∷ []) served (its_own answer none))
      by_back front (f ∷ back) is_es served some =
          let l = late (f ∷ back) some in
          let early = back_earlier front (f ∷ back) (subst (AllByRecursion (IsEarlier sync)) is_es earlier) in
          absurd (omega (arith, l.0, early.0))

pub over_weaker : (n m : ℕ) → m ≤ n → (e : LogEntry) → IsOver n e → IsOver m e
over_weaker n m le (Asked p s q l w) h = omega (arith, le, h)
over_weaker n m le (Drew x f w) h = tt

over_not_below : (n : ℕ) (e : LogEntry) → IsOver n e → NotBelow n e
over_not_below n (Asked p s q l w) h = omega (arith, h)
over_not_below n (Drew x f w) h = tt

not_below_over : (n m : ℕ) → m < n → (e : LogEntry) → NotBelow n e → IsOver m e
not_below_over n m lt (Asked p s q l w) h = omega (arith, lt, h)
not_below_over n m lt (Drew x f w) h = tt

not_below_weaker : (n m : ℕ) → m ≤ n → (e : LogEntry) → NotBelow n e → NotBelow m e
not_below_weaker n m le (Asked p s q l w) h = omega (arith, le, h)
not_below_weaker n m le (Drew x f w) h = tt

-- the syncs of what was asked rise
counts_late : (n : ℕ) (log : List LogEntry) → CountSyncs n log → AllByRecursion (NotBelow n) log
counts_late n [] h = tt
counts_late n (Asked p s q l w ∷ log) h = (omega (arith, h.0), all-weaker (NotBelow (n + 1)) (NotBelow n) (not_below_weaker (n + 1) n (omega arith)) log (counts_late (n + 1) log h.1))
counts_late n (Drew x f w ∷ log) h = (tt, counts_late n log h)

counts_rise : (n : ℕ) (log : List LogEntry) → CountSyncs n log → Climbs log
counts_rise n [] h = tt
counts_rise n (Asked p s q l w ∷ log) h = (all-weaker (NotBelow (n + 1)) (IsOver s) (not_below_over (n + 1) s (omega (arith, h.0))) log (counts_late (n + 1) log h.1), counts_rise (n + 1) log h.1)
counts_rise n (Drew x f w ∷ log) h = counts_rise n log h

rises_front : (xs ys : List LogEntry) → Climbs (xs ++ ys) → Climbs xs
rises_front [] ys h = tt
rises_front (Asked p s q l w ∷ xs) ys h = (front xs h.0, rises_front xs ys h.1)
  where
    front : (zs : List LogEntry) → AllByRecursion (IsOver s) (zs ++ ys) → AllByRecursion (IsOver s) zs
    front [] all = tt
    front (z ∷ zs) all = (all.0, front zs all.1)
rises_front (Drew x f w ∷ xs) ys h = rises_front xs ys h

merged_rises : (xs ys zs : List LogEntry) → Merges xs ys zs → Climbs zs → Climbs xs
merged_rises xs ys [] m h = subst Climbs (sym m.0) tt
merged_rises xs ys (Asked p s q l w ∷ zs) (inl m) h = subst Climbs (sym m.1) (merged_first (IsOver s) m.0 ys zs m.2 h.0, merged_rises m.0 ys zs m.2 h.1)
merged_rises xs ys (Asked p s q l w ∷ zs) (inr m) h = merged_rises xs m.0 zs m.2 h.1
merged_rises xs ys (Drew x f w ∷ zs) (inl m) h = subst Climbs (sym m.1) (merged_rises m.0 ys zs m.2 h)
merged_rises xs ys (Drew x f w ∷ zs) (inr m) h = merged_rises xs m.0 zs m.2 h

-- those of a log with something under way
log_rises : (script : Script) (session : ℕ) (log : List LogEntry) (way : UnderWay) → BeginsWith script session way log → Climbs log
log_rises script session log way begins = by_way way begins.2
  where
    whole_rises : Climbs begins.0
    whole_rises = counts_rise 1 begins.0 (syncs_front 1 begins.0 begins.1 begins.3.1.syncs)

    by_way : (w : UnderWay) → IsWith w log begins.0 → Climbs log
    by_way (Awaiting sends) h = merged_rises log h.answered begins.0 (filled_merges sends log begins.0 h) whole_rises
    by_way (Drawing name floor) h = rises_front log _ (subst Climbs h.1 whole_rises)

rises_kept : (q : LogEntry → Bool) (x : LogEntry) (xs : List LogEntry) (b : Bool) → q x ≡ b → Climbs (x ∷ filter q xs) → Climbs (filter q xs) → Climbs (filter q (x ∷ xs))
rises_kept q x xs true e with_it rest = rw e with_it
rises_kept q x xs false e with_it rest = rw e rest

rises_filter : (q : LogEntry → Bool) (xs : List LogEntry) → Climbs xs → Climbs (filter q xs)
rises_filter q [] h = tt
rises_filter q (Asked p s r l w ∷ xs) h = let rest = rises_filter q xs h.1 in rises_kept q (Asked p s r l w) xs (q (Asked p s r l w)) refl (all-filter (IsOver s) q xs h.0, rest) rest
rises_filter q (Drew x f w ∷ xs) h = let rest = rises_filter q xs h in rises_kept q (Drew x f w) xs (q (Drew x f w)) refl rest rest

-- each request was asked before this sync
abbrev IsUpTo : ℕ → LogEntry → Type 0
IsUpTo sync (Asked p s q l w) = s < sync
IsUpTo sync (Drew n f w) = Unit {0}

rises_more : (xs : List LogEntry) (s : Sending) → Climbs xs → AllByRecursion (IsUpTo s.sync) xs → Climbs (xs ++ open_entry s ∷ [])
rises_more [] s h all = (tt, tt)
rises_more (Asked p x q l w ∷ xs) s h all = (all_joined (IsOver x) xs (open_entry s ∷ []) h.0 (all.0, tt), rises_more xs s h.1 all.1)
rises_more (Drew n f w ∷ xs) s h all = rises_more xs s h all.1

-- so the syncs of all that a session asked of a partition rise
pub asked_rises : (script : Script) (session : ℕ) (log : List LogEntry) (way : UnderWay) (part : ℕ) → Asks script session log way → Climbs (filter (is_for part) (log ++ unanswered way))
asked_rises script session log way part h = subst Climbs (sym (filter-append (is_for part) log (unanswered way))) (by_way way h.0)
  where
    here : Climbs (filter (is_for part) log)
    here = rises_filter (is_for part) log (log_rises script session log way h.1)

    up_to : (s : Sending) (e : LogEntry) → s.part ≡ part → IsAbove e s → is_for part e ≡ true → IsUpTo s.sync e
    up_to s (Asked p x q l w) is a for_it = let lt = a (eqb-true p part for_it ∙ sym is) in omega (arith, lt)
    up_to s (Drew n f w) is a for_it = tt

    nothing_more : (w : UnderWay) → open_for part w ≡ [] → Climbs (filter (is_for part) log ++ open_for part w)
    nothing_more w none = subst (λ (es : List LogEntry). Climbs (filter (is_for part) log ++ es)) (sym none) (subst Climbs (sym (append-nil (filter (is_for part) log))) here)

    by_way : (w : UnderWay) → AreAbove log w → Climbs (filter (is_for part) log ++ open_for part w)
    by_way (Drawing name floor) above = nothing_more (Drawing name floor) refl
    by_way (Awaiting sends) above = by_open (none_or_one part sends)
      where
        by_open : (open_for part (Awaiting sends) ≡ []) ⊎ ((x : Sending) × Contains sends x × (x.part ≡ part)) → Climbs (filter (is_for part) log ++ open_for part (Awaiting sends))
        by_open (inl none) = nothing_more (Awaiting sends) none
        by_open (inr one) =
            let s = one.0 in
            let alone : open_for part (Awaiting sends) ≡ open_entry s ∷ [] = subst (λ n. open_for n (Awaiting sends) ≡ open_entry s ∷ []) one.2 (the_open log (Awaiting sends) s above one.1) in
            let below = all_in (λ (x : Sending). AllByRecursion (λ e. IsAbove e x) log) s sends one.1 above.0 in
            let low = all_through (is_for part) (IsUpTo s.sync) log (all-weaker (λ e. IsAbove e s) (λ e. is_for part e ≡ true → IsUpTo s.sync e) (λ e a t. up_to s e one.2 a t) log below) in
            subst (λ (es : List LogEntry). Climbs (filter (is_for part) log ++ es)) (sym alone) (rises_more (filter (is_for part) log) s here low)

-- the place of a request among what was asked
module _ (part sync : ℕ) (request : Request) (losses : ℕ) (answer : Answer) where
  abbrev PlaceOf : List LogEntry → Type 0
  PlaceOf zs = (xs : List LogEntry) × (ys : List LogEntry) × (zs ≡ xs ++ Asked part sync request losses answer ∷ ys) × AllByRecursion (IsOver sync) ys

  place_of : (zs : List LogEntry) (k : ℕ) → k < length zs → get_or zs k (Asked part sync request losses answer) ≡ Asked part sync request losses answer → Climbs zs → PlaceOf zs
  place_of [] k lt is h = absurd (omega (arith, lt))
  place_of (z ∷ zs) zero lt is h = ([], zs, ap (λ (y : LogEntry). y ∷ zs) is, (subst (λ (y : LogEntry). Climbs (y ∷ zs)) is h).0)
  place_of (Asked p s q l w ∷ zs) (suc k) lt is h = let r = place_of zs k (omega (arith, lt)) is h.1 in (Asked p s q l w ∷ r.0, r.1, ap (λ (es : List LogEntry). Asked p s q l w ∷ es) r.2, r.3)
  place_of (Drew n f w ∷ zs) (suc k) lt is h = let r = place_of zs k (omega (arith, lt)) is h in (Drew n f w ∷ r.0, r.1, ap (λ (es : List LogEntry). Drew n f w ∷ es) r.2, r.3)

  -- a message that is new is of a request without a reply, and its entry stands in the order of the log
  pub serves_new : (zs : List LogEntry) (es : List Entry) (e : Entry) → Contains zs (Asked part sync request losses answer) → Climbs zs → AllByRecursion (IsEarlier sync) es → IsServed e sync request → AreServed zs es → AreServed zs (es ++ e ∷ [])
  serves_new zs es e is_in rises earlier is h =
      let r = place_of zs is_in.0 is_in.1 is_in.2 rises in
      subst (λ (xs : List LogEntry). AreServed xs (es ++ e ∷ [])) (sym r.2)
      (served_new part sync request losses answer r.0 r.1 es e (all-weaker (IsOver sync) (NotBelow sync) (over_not_below sync) r.1 r.3) earlier is (subst (λ (xs : List LogEntry). AreServed xs es) r.2 h))

at_front : {X : Type 0} (xs ys : List X) (i : ℕ) (x : X) → slice_get xs i ≡ Some x → (i < length xs) × (slice_get (xs ++ ys) i ≡ Some x)
at_front [] ys i x is = absurd (cc is)
at_front (y ∷ xs) ys zero x is = (omega arith, is)
at_front (y ∷ xs) ys (suc i) x is = let r = at_front xs ys i x is in (omega (arith, r.0), r.1)

-- what is new is later than all that the opener had served before
pub new_later : (p : State) (history : List Entry) (e : Entry) → Keeps p → IsLegal p (history ++ e ∷ []) → AllByRecursion (λ f. f.opener ≡ e.opener → f.sync < e.sync) history
new_later p history e keeps legal =
    all_places (λ (f : Entry). f.opener ≡ e.opener → f.sync < e.sync) history
    (λ i f at same. let r = at_front history (e ∷ []) i f at in syncs_rise p (history ++ e ∷ []) i (length history) f e keeps legal r.1 (slice_get-last history e) r.0 same)
