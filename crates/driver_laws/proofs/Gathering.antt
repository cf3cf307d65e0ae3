-- A history by what stands in it: what was served of a log is that each entry was asked and each reply has its entry.
use Rattle.std.proofs.lemmas.Bool.{eqb-true}
use Rattle.std.proofs.Common.{subst, true, ◌≡◌, ◌≤◌, ◌<◌, ℕ, zero, List, [], ◌∷◌, refl, ap, sym, ◌∙◌, inl, inr, arith}
use Rattle.std.specs.Prelude.{◌⊎◌, Contains}
use Rattle.std.specs.List.{AllByRecursion}
use Rattle.dp_messages.specs.declared.replies.Reply.{Reply as PartitionReply}
use Rattle.dp_messages.specs.declared.requests.Request.{Request}
use Rattle.partition_state.specs.declared.entries.Entry.{Entry}
use Rattle.session_grammar.specs.Rows.{is_for}
use Rattle.session_grammar.specs.declared.logs.Answer.{Answer}
use Rattle.session_grammar.specs.declared.logs.Answer.TheVariants.{Reply, PathFailed, Stamp}
use Rattle.session_grammar.specs.declared.logs.LogEntry.{LogEntry}
use Rattle.session_grammar.specs.declared.logs.LogEntry.TheVariants.{Asked, Drew}
use Rattle.run_record.specs.Legal.{AreServed, IsServed}
use Rattle.record_laws.proofs.Served.{served_all}
use Rattle.driver_laws.specs.Gathering.{Climbs, HasEntry, IsAskedIn, IsOver, ServedBySentences, SyncsClimb}
use Rattle.sql_base.proofs.ListFacts.{Contains-further, all-weaker, all_in, all_of_both, first_or_behind}
use Rattle.driver_laws.proofs.Serving.{over_weaker}

module _ (part : ℕ) where
  -- the entries behind the first are later than it
  abbrev IsBehind : ℕ → Entry → Type 0
  IsBehind sync e = sync < e.sync

  -- where the entry is of a request behind the first, it is later
  later_behind : (sync : ℕ) (zs : List LogEntry) (e : Entry) → AllByRecursion (IsOver sync) zs → IsAskedIn part zs e → sync < e.sync
  later_behind sync zs e over h = all_in (IsOver sync) (Asked part e.sync e.request h.0 h.1) zs h.2 over

  -- an entry later than the first request was asked behind it
  asked_behind : (p s l : ℕ) (q : Request) (w : Answer) (zs : List LogEntry) (e : Entry) → s < e.sync → IsAskedIn part (Asked p s q l w ∷ zs) e → IsAskedIn part zs e
  asked_behind p s l q w zs e lt h = elim (first_or_behind (Asked p s q l w) (Asked part e.sync e.request h.0 h.1) zs h.2) [ inl same ↦ of_first same | inr behind ↦ (h.0, h.1, behind) ]
    where
      of_first : Asked p s q l w ≡ Asked part e.sync e.request h.0 h.1 → IsAskedIn part zs e
      of_first same = let sync : s ≡ e.sync = cc same in absurd (omega (arith, sync, lt))

  -- a request later than the first entry has its entry behind it
  entry_behind : (e : Entry) (es : List Entry) (z : LogEntry) → IsOver e.sync z → HasEntry (e ∷ es) z → HasEntry es z
  entry_behind e es (Asked p s q l (Reply r)) over h = elim (first_or_behind e h.0 es h.1) [ inl same ↦ of_first same | inr behind ↦ (h.0, behind, h.2, h.3) ]
    where
      of_first : e ≡ h.0 → HasEntry es (Asked p s q l (Reply r))
      of_first same = let sync = ap (λ (x : Entry). x.sync) same in absurd (omega (arith, sync, h.2, over))
  entry_behind e es (Asked p s q l PathFailed) over h = tt
  entry_behind e es (Asked p s q l (Stamp stamp)) over h = absurd h
  entry_behind e es (Drew n f w) over h = tt

  -- none of some later entries is that of the first request
  no_entry : (p s l : ℕ) (q : Request) (r : PartitionReply) (es : List Entry) → AllByRecursion (IsBehind s) es → HasEntry es (Asked p s q l (Reply r)) → ⊥
  no_entry p s l q r es behind h = let lt = all_in (IsBehind s) h.0 es h.1 behind in omega (arith, lt, h.2)

  module _ (p s l : ℕ) (q : Request) (w : Answer) (zs : List LogEntry) (e : Entry) (es : List Entry) (zc : Climbs (Asked p s q l w ∷ zs)) (ec : SyncsClimb (e ∷ es))
      (asked : AllByRecursion (IsAskedIn part (Asked p s q l w ∷ zs)) (e ∷ es)) (has : AllByRecursion (HasEntry (e ∷ es)) (Asked p s q l w ∷ zs)) where
    -- the first entry is that of the first request
    at_first : Asked p s q l w ≡ Asked part e.sync e.request asked.0.0 asked.0.1 → (AllByRecursion (IsAskedIn part zs) es → AllByRecursion (HasEntry es) zs → AreServed zs es) → AreServed (Asked p s q l w ∷ zs) (e ∷ es)
    at_first same rest = by_answer w has.0 (rest those theirs)
      where
        sync : s ≡ e.sync
        sync = cc same

        request : q ≡ e.request
        request = cc same

        those : AllByRecursion (IsAskedIn part zs) es
        those = all_of_both (IsBehind e.sync) (IsAskedIn part (Asked p s q l w ∷ zs)) (IsAskedIn part zs) (λ f lt h. asked_behind p s l q w zs f (omega (arith, lt, sync)) h) es ec.0 asked.1

        theirs : AllByRecursion (HasEntry es) zs
        theirs = all_of_both (IsOver s) (HasEntry (e ∷ es)) (HasEntry es) (λ z over h. entry_behind e es z (over_weaker s e.sync (omega (arith, sync)) z over) h) zs zc.0 has.1

        by_answer : (v : Answer) → HasEntry (e ∷ es) (Asked p s q l v) → AreServed zs es → AreServed (Asked p s q l v ∷ zs) (e ∷ es)
        by_answer (Reply r) h served = elim (first_or_behind e h.0 es h.1) [ inl own ↦ ((sym sync, sym request), ap (λ (x : Entry). x.reply) own ∙ h.3, served) | inr behind ↦ too_late h behind ]
          where
            too_late : (h : HasEntry (e ∷ es) (Asked p s q l (Reply r))) → Contains es h.0 → AreServed (Asked p s q l (Reply r) ∷ zs) (e ∷ es)
            too_late h behind = let lt = all_in (IsBehind e.sync) h.0 es behind ec.0 in absurd (omega (arith, lt, h.2, sync))
        by_answer PathFailed h served = inr ((sym sync, sym request), served)
        by_answer (Stamp stamp) h served = absurd h

    -- the first entry is later: the first request has none
    at_later : s < e.sync → (AllByRecursion (IsAskedIn part zs) (e ∷ es) → AllByRecursion (HasEntry (e ∷ es)) zs → AreServed zs (e ∷ es)) → AreServed (Asked p s q l w ∷ zs) (e ∷ es)
    at_later lt rest = by_answer w has.0 (rest those has.1)
      where
        late : AllByRecursion (IsBehind s) (e ∷ es)
        late = (lt, all-weaker (IsBehind e.sync) (IsBehind s) (λ f more. omega (arith, lt, more)) es ec.0)

        those : AllByRecursion (IsAskedIn part zs) (e ∷ es)
        those = all_of_both (IsBehind s) (IsAskedIn part (Asked p s q l w ∷ zs)) (IsAskedIn part zs) (λ f more h. asked_behind p s l q w zs f more h) (e ∷ es) late asked

        by_answer : (v : Answer) → HasEntry (e ∷ es) (Asked p s q l v) → AreServed zs (e ∷ es) → AreServed (Asked p s q l v ∷ zs) (e ∷ es)
        by_answer (Reply r) h served = absurd (no_entry p s l q r (e ∷ es) late h)
        by_answer PathFailed h served = inl served
        by_answer (Stamp stamp) h served = absurd h

  pub gathered : (zs : List LogEntry) (es : List Entry) → Climbs zs → SyncsClimb es → AllByRecursion (IsAskedIn part zs) es → AllByRecursion (HasEntry es) zs → AreServed zs es
  gathered [] [] zc ec asked has = refl
  gathered [] (e ∷ es) zc ec asked has = absurd (omega (arith, asked.0.2.1))
  gathered (Drew n f w ∷ zs) es zc ec asked has = gathered zs es zc ec (all-weaker (IsAskedIn part (Drew n f w ∷ zs)) (IsAskedIn part zs) pass es asked) has.1
    where
      pass : (e : Entry) → IsAskedIn part (Drew n f w ∷ zs) e → IsAskedIn part zs e
      pass e h = elim (first_or_behind (Drew n f w) (Asked part e.sync e.request h.0 h.1) zs h.2) [ inl same ↦ absurd (cc same) | inr behind ↦ (h.0, h.1, behind) ]
  gathered (Asked p s q l w ∷ zs) [] zc ec asked has = none w has.0 (gathered zs [] zc.1 tt tt has.1)
    where
      none : (v : Answer) → HasEntry [] (Asked p s q l v) → AreServed zs [] → AreServed (Asked p s q l v ∷ zs) []
      none (Reply r) h rest = absurd (omega (arith, h.1.1))
      none PathFailed h rest = rest
      none (Stamp stamp) h rest = absurd h
  gathered (Asked p s q l w ∷ zs) (e ∷ es) zc ec asked has =
      elim (first_or_behind (Asked p s q l w) (Asked part e.sync e.request asked.0.0 asked.0.1) zs asked.0.2) [
        | inl same ↦ at_first p s l q w zs e es zc ec asked has same (λ a h. gathered zs es zc.1 ec.1 a h)
        | inr behind ↦ at_later p s l q w zs e es zc ec asked has (later_behind s zs e zc.0 (asked.0.0, asked.0.1, behind)) (λ a h. gathered zs (e ∷ es) zc.1 ec a h)
      ]

  -- and the other way round: what was served was asked, and what was replied stands there
  all_of_part : (zs : List LogEntry) → AllByRecursion (λ z. is_for part z ≡ true) zs → AllByRecursion (λ z. Contains zs z × (is_for part z ≡ true)) zs
  all_of_part [] h = tt
  all_of_part (z ∷ zs) h = (((zero, omega arith, refl), h.0), all-weaker (λ x. Contains zs x × (is_for part x ≡ true)) (λ x. Contains (z ∷ zs) x × (is_for part x ≡ true)) (λ x c. (Contains-further z x zs c.0, c.1)) zs (all_of_part zs h.1))

  pub was_asked : (zs : List LogEntry) (es : List Entry) → AllByRecursion (λ z. is_for part z ≡ true) zs → AreServed zs es → AllByRecursion (IsAskedIn part zs) es
  was_asked zs es here h = served_all (λ z. Contains zs z × (is_for part z ≡ true)) (IsAskedIn part zs) of zs es (all_of_part zs here) h
    where
      of : (p s : ℕ) (q : Request) (l : ℕ) (w : Answer) (e : Entry) → Contains zs (Asked p s q l w) × (is_for part (Asked p s q l w) ≡ true) → IsServed e s q → IsAskedIn part zs e
      of p s q l w e c is =
          let its : p ≡ part = eqb-true p part c.1 in
          let same : Asked p s q l w ≡ Asked part e.sync e.request l w = cc (its, is.0, is.1) in
          (l, w, subst (Contains zs) same c.0)

  has_more : (e : Entry) (es : List Entry) (z : LogEntry) → HasEntry es z → HasEntry (e ∷ es) z
  has_more e es (Asked p s q l (Reply r)) h = (h.0, Contains-further e h.0 es h.1, h.2, h.3)
  has_more e es (Asked p s q l PathFailed) h = tt
  has_more e es (Asked p s q l (Stamp stamp)) h = absurd h
  has_more e es (Drew n f w) h = tt

  pub has_entries : (zs : List LogEntry) (es : List Entry) → AreServed zs es → AllByRecursion (HasEntry es) zs
  has_entries [] es h = tt
  has_entries (Drew n f w ∷ zs) es h = (tt, has_entries zs es h)
  has_entries (Asked p s q l (Reply r) ∷ zs) [] h = absurd h
  has_entries (Asked p s q l (Reply r) ∷ zs) (e ∷ es) h = ((e, (zero, omega arith, refl), h.0.0, h.1), all-weaker (HasEntry es) (HasEntry (e ∷ es)) (has_more e es) zs (has_entries zs es h.2))
  has_entries (Asked p s q l PathFailed ∷ zs) [] h = (tt, has_entries zs [] h)
  has_entries (Asked p s q l PathFailed ∷ zs) (e ∷ es) (inl h) = (tt, has_entries zs (e ∷ es) h)
  has_entries (Asked p s q l PathFailed ∷ zs) (e ∷ es) (inr h) = (tt, all-weaker (HasEntry es) (HasEntry (e ∷ es)) (has_more e es) zs (has_entries zs es h.1))
  has_entries (Asked p s q l (Stamp stamp) ∷ zs) es h = absurd h

pub served_by_sentences : ServedBySentences
served_by_sentences part zs es here zc ec = (λ h. (was_asked part zs es here h, has_entries part zs es h), λ h. gathered part zs es zc ec h.0 h.1)
