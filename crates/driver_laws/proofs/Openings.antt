-- The requests under way, partition by partition.
use Rattle.std.proofs.Common.{◌≡◌, ◌≢◌, ◌<◌, ℕ, zero, suc, List, [], ◌∷◌, ◌++◌, length, get_or, map, true, false, refl, ap, sym, ◌∙◌, subst, inl, inr, arith}
use Rattle.std.proofs.lemmas.Bool.{and_parts, cases_eq, eq-eqb, false≢true, ne_eqb, not-true, or_parts}
use Rattle.std.proofs.lemmas.List.{append-nil}
use Rattle.std.specs.Prelude.{◌⊎◌, filter, nat_eq, Contains}
use Rattle.std.specs.List.{AllByRecursion, list_any}
use Rattle.sql_base.specs.Tables.{all_differ}
use Rattle.partition_state.specs.declared.entries.Entry.{Entry}
use Rattle.session_grammar.specs.Rows.{is_for}
use Rattle.session_grammar.specs.declared.logs.Answer.TheVariants.{Reply, PathFailed, Stamp}
use Rattle.session_grammar.specs.declared.logs.LogEntry.{LogEntry}
use Rattle.session_grammar.specs.declared.logs.LogEntry.TheVariants.{Asked, Drew}
use Rattle.run_record.specs.Legal.{AreServed}
use Rattle.session_grammar.specs.UnderWay.{AreAbove, Sending, Awaiting, Drawing, UnderWay, unanswered, IsOpen}
use Rattle.record_laws.proofs.Completing.{open_entry}
use Rattle.record_laws.proofs.Driving.{served_join}
use Rattle.record_laws.proofs.Served.{unserved}
use Rattle.sql_base.proofs.ListFacts.{all-filter}

abbrev parts : List Sending → List ℕ
parts sends = map (λ (s : Sending). s.part) sends

-- those for one partition
abbrev pub open_for : ℕ → UnderWay → List LogEntry
open_for part way = filter (is_for part) (unanswered way)

none_for : (part : ℕ) (sends : List Sending) → list_any (nat_eq part) (parts sends) ≡ false → open_for part (Awaiting sends) ≡ []
none_for part [] h = refl
none_for part (s ∷ sends) h =
    let two = or_parts (nat_eq part s.part) (list_any (nat_eq part) (parts sends)) h in
    rw (ne_eqb s.part part (λ same. false≢true (sym two.0 ∙ eq-eqb part s.part (sym same)))) (none_for part sends two.1)

-- a request under way is the only one for its partition
one_open : (s : Sending) (sends : List Sending) (k : ℕ) → k < length sends → get_or sends k s ≡ s → all_differ nat_eq (parts sends) ≡ true → open_for s.part (Awaiting sends) ≡ open_entry s ∷ []
one_open s [] k lt is h = absurd (omega (arith, lt))
one_open s (x ∷ sends) zero lt is h =
    let two = and_parts _ _ h in
    let none : open_for s.part (Awaiting sends) ≡ [] = none_for s.part sends (subst (λ n. list_any (nat_eq n) (parts sends) ≡ false) (ap (λ (y : Sending). y.part) is) (not-true _ two.0)) in
    rw (eq-eqb x.part s.part (ap (λ (y : Sending). y.part) is)) (cc (is, none))
one_open s (x ∷ sends) (suc k) lt is h =
    let two = and_parts _ _ h in
    rw (ne_eqb x.part s.part (differs x.part sends k (omega (arith, lt)) is (not-true _ two.0))) (one_open s sends k (omega (arith, lt)) is two.1)
  where
    differs : (n : ℕ) (sends : List Sending) (k : ℕ) → k < length sends → get_or sends k s ≡ s → list_any (nat_eq n) (parts sends) ≡ false → n ≢ s.part
    differs n [] k lt is h same = absurd (omega (arith, lt))
    differs n (y ∷ sends) zero lt is h same =
        let two = or_parts (nat_eq n y.part) (list_any (nat_eq n) (parts sends)) h in
        false≢true (sym two.0 ∙ eq-eqb n y.part (same ∙ sym (ap (λ (z : Sending). z.part) is)))
    differs n (y ∷ sends) (suc k) lt is h same =
        let two = or_parts (nat_eq n y.part) (list_any (nat_eq n) (parts sends)) h in
        differs n sends k (omega (arith, lt)) is two.1 same

pub the_open : (log : List LogEntry) (way : UnderWay) (s : Sending) → AreAbove log way → IsOpen way s → open_for s.part way ≡ open_entry s ∷ []
the_open log (Awaiting sends) s above is_in = one_open s sends is_in.0 is_in.1 is_in.2 above.1
the_open log (Drawing name floor) s above is_in = absurd is_in

-- a partition has none of them, or one
pub none_or_one : (part : ℕ) (sends : List Sending) → (open_for part (Awaiting sends) ≡ []) ⊎ ((s : Sending) × Contains sends s × (s.part ≡ part))
none_or_one part [] = inl refl
none_or_one part (s ∷ sends) = elim (cases_eq s.part part) [ inl same ↦ inr (s, (zero, omega arith, refl), same) | inr differ ↦ later differ (none_or_one part sends) ]
  where
    later : s.part ≢ part → (open_for part (Awaiting sends) ≡ []) ⊎ ((x : Sending) × Contains sends x × (x.part ≡ part))
        → (open_for part (Awaiting (s ∷ sends)) ≡ []) ⊎ ((x : Sending) × Contains (s ∷ sends) x × (x.part ≡ part))
    later differ (inl none) = inl (rw (ne_eqb s.part part differ) none)
    later differ (inr h) = inr (h.0, (suc h.1.0, omega (arith, h.1.1), h.1.2), h.2)

-- where requests without a reply are put behind, what is served stays served
abbrev IsUnanswered : LogEntry → Type 0
IsUnanswered (Asked part sync request losses PathFailed) = Unit {0}
IsUnanswered other = ⊥

none_served : (xs : List LogEntry) → AllByRecursion IsUnanswered xs → AreServed xs []
none_served [] h = refl
none_served (Asked p s q l PathFailed ∷ xs) h = unserved p s q l xs [] (none_served xs h.1)
none_served (Asked p s q l (Reply r) ∷ xs) h = absurd h.0
none_served (Asked p s q l (Stamp stamp) ∷ xs) h = absurd h.0
none_served (Drew n f w ∷ xs) h = absurd h.0

all_unanswered : (way : UnderWay) → AllByRecursion IsUnanswered (unanswered way)
all_unanswered (Awaiting sends) = of sends
  where
    of : (sends : List Sending) → AllByRecursion IsUnanswered (map open_entry sends)
    of [] = tt
    of (s ∷ sends) = (tt, of sends)
all_unanswered (Drawing name floor) = tt

pub still_served : (part : ℕ) (log : List LogEntry) (way : UnderWay) (es : List Entry) → AreServed log es → AreServed (log ++ open_for part way) es
still_served part log way es h =
    subst (AreServed (log ++ open_for part way)) (append-nil es)
    (served_join log (open_for part way) es [] h (none_served (open_for part way) (all-filter IsUnanswered (is_for part) (unanswered way) (all_unanswered way))))
