-- By partitions, a part is read in one way before what may come behind it: anything where it is whole, an End where it failed.
use Rattle.std.proofs.Common.{◌≡◌, ℕ, List, [], ◌∷◌, ◌++◌, cond, Option, Some, None, Bool, true, false, refl, ap, sym, ◌∙◌, subst, inl, inr}
use Rattle.std.specs.Prelude.{◌⊎◌, ◌||◌, IsSome}
use Rattle.std.specs.List.{AllByRecursion, list_any}
use Rattle.std.proofs.lemmas.Bool.{false≢true}
use Rattle.std.proofs.lemmas.List.{append-nil, append_cancel_left}
use Rattle.std.proofs.lemmas.List.Elements.{filter-append}
use Rattle.sql_base.specs.declared.outcomes.Abort.{Abort}
use Rattle.session_grammar.specs.declared.logs.LogEntry.{LogEntry}
use Rattle.session_grammar.specs.declared.logs.LogEntry.TheVariants.{Asked, Drew}
use Rattle.session_grammar.specs.Follows.{IsList, projection}
use Rattle.session_grammar.specs.Plans.{Asker}
use Rattle.session_grammar.specs.declared.plans.Sent.{Sent}
use Rattle.session_grammar.specs.Rows.{is_end, is_for}
use Rattle.session_laws.proofs.Loose.{AreFronts, IsFront, IsLoose, IsWork, Loosely, list_work}
use Rattle.session_laws.proofs.Plans.{Suits}
use Rattle.session_laws.proofs.Rows.{Same, list_same}
use Rattle.sql_base.proofs.ListFacts.{all_left, all_right}

-- the log goes on with an End
abbrev pub EndsNext : List LogEntry → Type 0
EndsNext (Asked part sync request losses answer ∷ us) = is_end request.ask ≡ true
EndsNext other = ⊥

-- behind a part that failed comes an End
abbrev pub Then : Option Abort → List LogEntry → Type 0
Then None us = Unit {0}
Then (Some abort) us = EndsNext us

-- one of two fronts of a log is a front of the other
fronts_of : (xs ys us vs : List LogEntry) → xs ++ us ≡ ys ++ vs → ((zs : List LogEntry) × (ys ≡ xs ++ zs) × (us ≡ zs ++ vs)) ⊎ ((zs : List LogEntry) × (xs ≡ ys ++ zs) × (vs ≡ zs ++ us))
fronts_of [] ys us vs is = inl (ys, refl, is)
fronts_of (x ∷ xs) [] us vs is = inr (x ∷ xs, refl, sym is)
fronts_of (x ∷ xs) (y ∷ ys) us vs is =
    let first : x ≡ y = cc is in
    let rest : xs ++ us ≡ ys ++ vs = cc is in
    elim (fronts_of xs ys us vs rest) [
      | inl h ↦ inl (h.0, ap (λ z. z ∷ ys) (sym first) ∙ ap (λ z. x ∷ z) h.1, h.2)
      | inr h ↦ inr (h.0, ap (λ z. z ∷ xs) first ∙ ap (λ z. y ∷ z) h.1, h.2)
    ]

none_some : {A : Type 0} (end : Option Abort) → None ≡ end → IsSome end → A
none_some None is some = absurd (cc some)
none_some (Some abort) is some = absurd (cc is)

module _ (r : Asker) (ordinal : ℕ) where
  -- the ends of one list are the same
  end_same : (sent : Sent) (list : List LogEntry) (e f : Option Abort) → IsList r ordinal sent list e → IsList r ordinal sent list f → e ≡ f
  end_same sent list e f h k = (list_same r ordinal sent list list [] [] e f h k refl).end

  loosely_end : (sents : List Sent) (entries : List LogEntry) (e f : Option Abort) → Loosely r ordinal sents entries e → Loosely r ordinal sents entries f → e ≡ f
  loosely_end [] entries e f h k = h ∙ sym k
  loosely_end (sent ∷ sents) entries e f (inl h) (inl k) = loosely_end sents entries e f h.1 k.1
  loosely_end (sent ∷ sents) entries e f (inl h) (inr k) = none_some f (end_same sent (projection entries sent) None f h.0 k.0) k.1
  loosely_end (sent ∷ sents) entries e f (inr h) (inl k) = none_some e (sym (end_same sent (projection entries sent) e None h.0 k.0)) h.1
  loosely_end (sent ∷ sents) entries e f (inr h) (inr k) = end_same sent (projection entries sent) e f h.0 k.0

  -- behind a whole list nothing more of it comes
  none_behind : (sent : Sent) (xs zs : List LogEntry) (f : Option Abort) → IsList r ordinal sent (projection xs sent) None → IsList r ordinal sent (projection (xs ++ zs) sent) f
      → (projection zs sent ≡ []) × (None ≡ f)
  none_behind sent xs zs f h k =
      let more : projection xs sent ++ projection zs sent ≡ projection (xs ++ zs) sent ++ [] = sym (filter-append (is_for sent.part) xs zs) ∙ sym (append-nil (projection (xs ++ zs) sent)) in
      let same = list_same r ordinal sent (projection xs sent) (projection (xs ++ zs) sent) (projection zs sent) [] None f h k more in
      let all : projection xs sent ++ projection zs sent ≡ projection xs sent ++ [] = sym (filter-append (is_for sent.part) xs zs) ∙ sym same.front ∙ sym (append-nil (projection xs sent)) in
      (append_cancel_left (projection xs sent) (projection zs sent) [] all, same.end)

  whole_stays : (sents : List Sent) (xs zs : List LogEntry) (e f : Option Abort) → None ≡ e → Loosely r ordinal sents xs e → Loosely r ordinal sents (xs ++ zs) f → AllByRecursion (λ sent. projection zs sent ≡ []) sents
  whole_stays [] xs zs e f none h k = tt
  whole_stays (sent ∷ sents) xs zs e f none (inr h) k = none_some e none h.1
  whole_stays (sent ∷ sents) xs zs e f none (inl h) (inl k) = ((none_behind sent xs zs None h.0 k.0).0, whole_stays sents xs zs e f none h.1 k.1)
  whole_stays (sent ∷ sents) xs zs e f none (inl h) (inr k) = none_some f (none_behind sent xs zs f h.0 k.0).1 k.1

  -- an entry that is for none of the partitions isn't theirs
  for_none : (sents : List Sent) (z : LogEntry) (zs : List LogEntry) → AllByRecursion (λ sent. projection (z ∷ zs) sent ≡ []) sents → list_any (λ sent. is_for sent.part z) sents ≡ false
  for_none [] z zs h = refl
  for_none (sent ∷ sents) z zs h = by_test (is_for sent.part z) (for_none sents z zs h.1) h.0
    where
      by_test : (b : Bool) → list_any (λ x. is_for x.part z) sents ≡ false → cond b (z ∷ projection zs sent) (projection zs sent) ≡ [] → (b || list_any (λ x. is_for x.part z) sents) ≡ false
      by_test true rest none = absurd (cc none)
      by_test false rest none = rest

  -- what is asked of each partition is no End
  abbrev AreWork : List Sent → List LogEntry → Type 0
  AreWork sents entries = AllByRecursion (λ sent. AllByRecursion (IsWork sent.part) (projection entries sent)) sents

  front_work : (sent : Sent) (list : List LogEntry) → Suits true sent → IsFront r ordinal sent list → AllByRecursion (IsWork sent.part) list
  front_work sent list suits (inl h) = subst (AllByRecursion (IsWork sent.part)) (sym h) tt
  front_work sent list suits (inr h) = all_left (IsWork sent.part) list h.0 (list_work r ordinal sent (list ++ h.0) h.1 suits h.2).0

  fronts_work : (sents : List Sent) (entries : List LogEntry) → AllByRecursion (Suits true) sents → AreFronts r ordinal sents entries → AreWork sents entries
  fronts_work [] entries suits h = tt
  fronts_work (sent ∷ sents) entries suits h = (front_work sent (projection entries sent) suits.0 h.0, fronts_work sents entries suits.1 h.1)

  loosely_work : (sents : List Sent) (entries : List LogEntry) (end : Option Abort) → AllByRecursion (Suits true) sents → Loosely r ordinal sents entries end → AreWork sents entries
  loosely_work [] entries end suits h = tt
  loosely_work (sent ∷ sents) entries end suits (inl h) = ((list_work r ordinal sent (projection entries sent) None suits.0 h.0).0, loosely_work sents entries end suits.1 h.1)
  loosely_work (sent ∷ sents) entries end suits (inr h) = ((list_work r ordinal sent (projection entries sent) end suits.0 h.0).0, fronts_work sents entries suits.1 h.2)

  -- so an entry that is theirs is no End
  theirs_no_end : (sents : List Sent) (xs zs : List LogEntry) (z : LogEntry) (us : List LogEntry) → AreWork sents (xs ++ z ∷ zs) → list_any (λ sent. is_for sent.part z) sents ≡ true → EndsNext (z ∷ us) → ⊥
  theirs_no_end [] xs zs z us work any ends = absurd (false≢true any)
  theirs_no_end (sent ∷ sents) xs zs z us work any ends = by_test (is_for sent.part z) refl any (λ a. theirs_no_end sents xs zs z us work.1 a ends)
    where
      no_end : (e : LogEntry) → IsWork sent.part e → EndsNext (e ∷ us) → ⊥
      no_end (Asked p s q l a) w h = false≢true (sym w.1 ∙ h)
      no_end (Drew n f a) w h = absurd h

      by_test : (b : Bool) → is_for sent.part z ≡ b → (b || list_any (λ x. is_for x.part z) sents) ≡ true → (list_any (λ x. is_for x.part z) sents ≡ true → ⊥) → ⊥
      by_test false is a more = more a
      by_test true is a more =
          let split : projection (xs ++ z ∷ zs) sent ≡ projection xs sent ++ z ∷ projection zs sent =
          filter-append (is_for sent.part) xs (z ∷ zs) ∙ ap (λ b. projection xs sent ++ cond b (z ∷ projection zs sent) (projection zs sent)) is in
          let behind = all_right (IsWork sent.part) (projection xs sent) (z ∷ projection zs sent) (subst (AllByRecursion (IsWork sent.part)) split work.0) in
          no_end z behind.0 ends

  -- no reading goes on behind another
  none_longer : (sents : List Sent) (xs zs us vs : List LogEntry) (e f : Option Abort) → AllByRecursion (Suits true) sents → IsLoose r ordinal sents xs e → IsLoose r ordinal sents (xs ++ zs) f
      → Then e us → us ≡ zs ++ vs → zs ≡ []
  none_longer sents xs [] us vs e f suits h k t is = refl
  none_longer sents xs (z ∷ zs) us vs None f suits h k t is =
      let none = for_none sents z zs (whole_stays sents xs (z ∷ zs) None f refl h.loosely k.loosely) in
      let theirs = (all_right (λ x. list_any (λ sent. is_for sent.part x) sents ≡ true) xs (z ∷ zs) k.theirs).0 in
      absurd (false≢true (sym none ∙ theirs))
  none_longer sents xs (z ∷ zs) us vs (Some abort) f suits h k t is =
      let theirs = (all_right (λ x. list_any (λ sent. is_for sent.part x) sents ≡ true) xs (z ∷ zs) k.theirs).0 in
      absurd (theirs_no_end sents xs zs z (zs ++ vs) (loosely_work sents (xs ++ z ∷ zs) f suits k.loosely) theirs (subst EndsNext is t))

  same_by : (sents : List Sent) (xs ys zs : List LogEntry) (e f : Option Abort) → ys ≡ xs ++ zs → zs ≡ [] → IsLoose r ordinal sents xs e → IsLoose r ordinal sents ys f → Same xs ys e f
  same_by sents xs ys zs e f is none h k =
      let same : ys ≡ xs = is ∙ ap (λ z. xs ++ z) none ∙ append-nil xs in
      record { front = sym same; end = loosely_end sents xs e f h.loosely (subst (λ (x : List LogEntry). Loosely r ordinal sents x f) same k.loosely) }

  pub loose_same : (sents : List Sent) (xs ys us vs : List LogEntry) (e f : Option Abort) → AllByRecursion (Suits true) sents → IsLoose r ordinal sents xs e → IsLoose r ordinal sents ys f → Then e us → Then f vs
      → xs ++ us ≡ ys ++ vs → Same xs ys e f
  loose_same sents xs ys us vs e f suits h k t u is = elim (fronts_of xs ys us vs is) [
    | inl c ↦ same_by sents xs ys c.0 e f c.1 (none_longer sents xs c.0 us vs e f suits h (subst (λ (x : List LogEntry). IsLoose r ordinal sents x f) c.1 k) t c.2) h k
    | inr c ↦
        let other = same_by sents ys xs c.0 f e c.1 (none_longer sents ys c.0 vs us f e suits k (subst (λ (x : List LogEntry). IsLoose r ordinal sents x e) c.1 h) u c.2) k h in
        record { front = sym other.front; end = sym other.end }
  ]
