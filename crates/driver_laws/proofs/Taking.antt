-- A requester takes an answer: what was served of its log, partition by partition.
use Rattle.std.proofs.Common.{◌≡◌, ◌≢◌, ℕ, List, [], ◌∷◌, ◌++◌, true, false, refl, ap, sym, ◌∙◌, subst, inl, inr, arith}
use Rattle.std.proofs.lemmas.Bool.{cases_eq, eq-eqb, eqb-true, ne_eqb}
use Rattle.std.proofs.lemmas.List.{append-nil}
use Rattle.std.proofs.lemmas.List.Elements.{filter-append}
use Rattle.std.specs.Prelude.{◌⊎◌, filter, Contains}
use Rattle.std.specs.List.{AllByRecursion}
use Rattle.dp_messages.specs.declared.requests.Request.{Request}
use Rattle.partition_state.specs.declared.entries.Entry.{Entry}
use Rattle.session_grammar.specs.Rows.{is_for}
use Rattle.session_grammar.specs.declared.logs.Answer.{Answer}
use Rattle.session_grammar.specs.declared.logs.Answer.TheVariants.{Reply, PathFailed, Stamp}
use Rattle.session_grammar.specs.declared.logs.LogEntry.{LogEntry}
use Rattle.session_grammar.specs.declared.logs.LogEntry.TheVariants.{Asked, Drew}
use Rattle.run_record.specs.Legal.{AreServed}
use Rattle.session_grammar.specs.UnderWay.{AreAbove, IsAbove, Sending, Awaiting, UnderWay, unanswered, IsOpen, IsPutIn}
use Rattle.record_laws.proofs.Completing.{open_entry}
use Rattle.record_laws.proofs.Driving.{NotOf, taken_now}
use Rattle.driver_laws.proofs.Openings.{none_or_one, open_for, still_served, the_open}
use Rattle.sql_base.proofs.ListFacts.{all-weaker, all_in, all_through}

-- the entries for the partition, where one is put in
pub put_here : (part : ℕ) (entry : LogEntry) (log after : List LogEntry) → is_for part entry ≡ true → IsPutIn part entry log after → filter (is_for part) after ≡ filter (is_for part) log ++ entry ∷ []
put_here part entry log after here h =
    let q = is_for part in
    let front = h.0 in
    let back = h.1 in
    let alone : filter q (entry ∷ back) ≡ entry ∷ [] = rw here (ap (λ (es : List LogEntry). entry ∷ es) h.4) in
    let new : filter q after ≡ filter q front ++ entry ∷ [] = ap (filter q) h.3 ∙ filter-append q front (entry ∷ back) ∙ ap (λ (es : List LogEntry). filter q front ++ es) alone in
    let old : filter q log ≡ filter q front = ap (filter q) h.2 ∙ filter-append q front back ∙ ap (λ (es : List LogEntry). filter q front ++ es) h.4 ∙ append-nil (filter q front) in
    new ∙ ap (λ (es : List LogEntry). es ++ entry ∷ []) (sym old)

-- and those for another
pub put_elsewhere : (q part : ℕ) (entry : LogEntry) (log after : List LogEntry) → is_for q entry ≡ false → IsPutIn part entry log after → filter (is_for q) after ≡ filter (is_for q) log
put_elsewhere q part entry log after there h =
    let p = is_for q in
    let front = h.0 in
    let back = h.1 in
    let passed : filter p (entry ∷ back) ≡ filter p back = rw there refl in
    ap (filter p) h.3 ∙ filter-append p front (entry ∷ back) ∙ ap (λ (es : List LogEntry). filter p front ++ es) passed ∙ sym (filter-append p front back) ∙ ap (filter p) (sym h.2)

-- the answer is that of an entry among some
abbrev pub IsAmong : List Entry → ℕ → ℕ → Answer → Type 0
IsAmong es sync losses (Reply r) = (e : Entry) × Contains es e × (e.sync ≡ sync) × (e.reply ≡ r)
IsAmong es sync losses PathFailed = losses ≡ 4
IsAmong es sync losses (Stamp stamp) = ⊥

answered_last : (part sync : ℕ) (request : Request) (xs : List LogEntry) (es : List Entry) (losses : ℕ) (answer : Answer) → AreServed (xs ++ Asked part sync request 4 PathFailed ∷ []) es → AllByRecursion (NotOf sync) xs
    → IsAmong es sync losses answer → AreServed (xs ++ Asked part sync request losses answer ∷ []) es
answered_last part sync request xs es losses (Reply r) h older a =
    subst (λ reply. AreServed (xs ++ Asked part sync request losses (Reply reply) ∷ []) es) a.3 (taken_now part sync request xs es h older a.0 losses a.1 a.2)
answered_last part sync request xs es losses PathFailed h older a = subst (λ n. AreServed (xs ++ Asked part sync request n PathFailed ∷ []) es) (sym a) h
answered_last part sync request xs es losses (Stamp stamp) h older a = absurd a

-- what was asked of the partition before has another sync
older_not : (part sync : ℕ) (s : Sending) (log : List LogEntry) → s.part ≡ part → s.sync ≡ sync → AllByRecursion (λ e. IsAbove e s) log → AllByRecursion (NotOf sync) (filter (is_for part) log)
older_not part sync s log here is above =
    all_through (is_for part) (NotOf sync) log (all-weaker (λ e. IsAbove e s) (λ e. is_for part e ≡ true → NotOf sync e) below log above)
  where
    below : (e : LogEntry) → IsAbove e s → is_for part e ≡ true → NotOf sync e
    below (Asked p x q l w) a for_it = λ same. let lt = a (eqb-true p part for_it ∙ sym here) in omega (arith, lt, same, is)
    below (Drew n f w) a for_it = tt

module _ (log after : List LogEntry) (sends : List Sending) (way : UnderWay) (s : Sending) (losses : ℕ) (answer : Answer)
    (is_in : Contains sends s) (above : AreAbove log (Awaiting sends)) (new_above : AreAbove after way)
    (put : IsPutIn s.part (Asked s.part s.sync s.request losses answer) log after)
    (stay : (other : Sending) → Contains sends other → other.part ≢ s.part → IsOpen way other) where
  -- its own partition
  taken_here : (es : List Entry) → AreServed (filter (is_for s.part) (log ++ unanswered (Awaiting sends))) es → IsAmong es s.sync losses answer → AreServed (filter (is_for s.part) (after ++ unanswered way)) es
  taken_here es h a =
      let q = is_for s.part in
      let was : filter q (log ++ unanswered (Awaiting sends)) ≡ filter q log ++ open_entry s ∷ [] =
      filter-append q log (unanswered (Awaiting sends)) ∙ ap (λ (xs : List LogEntry). filter q log ++ xs) (the_open log (Awaiting sends) s above is_in) in
      let older = older_not s.part s.sync s log refl refl (all_in (λ (x : Sending). AllByRecursion (λ e. IsAbove e x) log) s sends is_in above.0) in
      let served = answered_last s.part s.sync s.request (filter q log) es losses answer (subst (λ (xs : List LogEntry). AreServed xs es) was h) older a in
      let put_is = put_here s.part (Asked s.part s.sync s.request losses answer) log after (eq-eqb s.part s.part refl) put in
      let now = still_served s.part (filter q after) way es (subst (λ (xs : List LogEntry). AreServed xs es) (sym put_is) served) in
      subst (λ (xs : List LogEntry). AreServed xs es) (sym (filter-append q after (unanswered way))) now

  -- another partition
  taken_there : (part : ℕ) (es : List Entry) → s.part ≢ part → AreServed (filter (is_for part) (log ++ unanswered (Awaiting sends))) es → AreServed (filter (is_for part) (after ++ unanswered way)) es
  taken_there part es differ h =
      subst (λ (xs : List LogEntry). AreServed xs es) (sym (filter-append (is_for part) after (unanswered way)))
      (subst (λ (xs : List LogEntry). AreServed (xs ++ open_for part way) es) (sym same) (by_open (none_or_one part sends)))
    where
      same : filter (is_for part) after ≡ filter (is_for part) log
      same = put_elsewhere part s.part (Asked s.part s.sync s.request losses answer) log after (ne_eqb s.part part differ) put

      old : AreServed (filter (is_for part) log ++ open_for part (Awaiting sends)) es
      old = subst (λ (xs : List LogEntry). AreServed xs es) (filter-append (is_for part) log (unanswered (Awaiting sends))) h

      by_open : (open_for part (Awaiting sends) ≡ []) ⊎ ((x : Sending) × Contains sends x × (x.part ≡ part)) → AreServed (filter (is_for part) log ++ open_for part way) es
      by_open (inl none) =
          still_served part (filter (is_for part) log) way es
          (subst (λ (xs : List LogEntry). AreServed xs es) (append-nil (filter (is_for part) log)) (subst (λ (xs : List LogEntry). AreServed (filter (is_for part) log ++ xs) es) none old))
      by_open (inr one) =
          let x = one.0 in
          let before : open_for x.part (Awaiting sends) ≡ open_entry x ∷ [] = the_open log (Awaiting sends) x above one.1 in
          let now : open_for x.part way ≡ open_entry x ∷ [] = the_open after way x new_above (stay x one.1 (λ e. differ (sym e ∙ one.2))) in
          let both : open_for part (Awaiting sends) ≡ open_for part way = subst (λ n. open_for n (Awaiting sends) ≡ open_for n way) one.2 (before ∙ sym now) in
          subst (λ (xs : List LogEntry). AreServed (filter (is_for part) log ++ xs) es) both old

  -- each partition
  pub taken_served : (part : ℕ) (es : List Entry) → AreServed (filter (is_for part) (log ++ unanswered (Awaiting sends))) es → (s.part ≡ part → IsAmong es s.sync losses answer)
      → AreServed (filter (is_for part) (after ++ unanswered way)) es
  taken_served part es h a = elim (cases_eq s.part part) [ inl here ↦ at_own here | inr differ ↦ taken_there part es differ h ]
    where
      at_own : s.part ≡ part → AreServed (filter (is_for part) (after ++ unanswered way)) es
      at_own here =
          subst (λ n. AreServed (filter (is_for n) (after ++ unanswered way)) es) here
          (taken_here es (subst (λ n. AreServed (filter (is_for n) (log ++ unanswered (Awaiting sends))) es) (sym here) h) (a here))
