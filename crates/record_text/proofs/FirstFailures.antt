-- The failure of the lowest partition that failed is that of the part of a statement.
use Rattle.std.proofs.Common.{◌≡◌, ◌≤◌, ◌<◌, ℕ, zero, suc, ◌+◌, List, [], ◌∷◌, ◌++◌, Option, Some, None, Bool, true, false, ◌||◌, map, refl, ap, sym, ◌∙◌, subst, inl, inr, arith}
use Rattle.std.specs.Prelude.{◌==◌, IsSome}
use Rattle.std.specs.List.{AllByRecursion, list_any, range_with_len}
use Rattle.std.proofs.lemmas.Bool.{eqb-true, eqb-false, ne_eqb, false≢true, or_parts, or_cases}
use Rattle.std.proofs.lemmas.List.{append-nil}
use Rattle.sql_base.specs.Scripts.{parts_of}
use Rattle.sql_base.specs.declared.outcomes.Abort.{Abort}
use Rattle.sql_base.specs.declared.statements.Statement.{Statement}
use Rattle.session_grammar.specs.declared.logs.LogEntry.{LogEntry}
use Rattle.session_grammar.specs.declared.logs.LogEntry.TheVariants.{Asked, Drew}
use Rattle.session_grammar.specs.Follows.{AreTheirs, InTurn, InLineBy, IsList, IsPart, IsSingle, Together, WideBy, joined, projection}
use Rattle.session_grammar.specs.Plans.{Asker, plan_of, sents_of}
use Rattle.session_grammar.specs.declared.plans.Plan.{Plan}
use Rattle.session_grammar.specs.declared.plans.Plan.TheVariants.{Singles, Subsets}
use Rattle.session_grammar.specs.declared.plans.Sent.{Sent}
use Rattle.session_grammar.specs.Rows.{is_for}
use Rattle.session_laws.proofs.Within.{Rise, plans_rise, rise_from}
use Rattle.record_text.specs.Scaffold.Reading.{first_failure, last_failure, most_parts, or_else}
use Rattle.record_text.proofs.Failures.{IsPartOf, IsWork, Tells, last-append, last-others, last-projected, list-tells, single-tells, works-other}

-- the failure of the first of these that failed
abbrev pub first_among : List Sent → List LogEntry → Option Abort
first_among [] es = None
first_among (sent ∷ sents) es = or_else (last_failure sent.part None es) (first_among sents es)

or-some : (a b : Option Abort) → IsSome a → or_else a b ≡ a
or-some None b h = absurd (false≢true h)
or-some (Some x) b h = refl

not_among : (j low high : ℕ) (sents : List Sent) → j < low → Rise low high sents → list_any (λ (sent : Sent). sent.part == j) sents ≡ false
not_among j low high [] lt rise = refl
not_among j low high (sent ∷ sents) lt rise =
    let le = rise.0 in
    ap (λ b. b || list_any (λ (s : Sent). s.part == j) sents) (ne_eqb sent.part j (λ same. omega (arith, same, lt, le))) ∙ not_among j (sent.part + 1) high sents (omega (arith, lt, le)) rise.2

-- of a partition that isn't asked nothing failed
abbrev pub IsElsewhere : List Sent → List LogEntry → Type 0
IsElsewhere sents es = (j : ℕ) → list_any (λ (sent : Sent). sent.part == j) sents ≡ false → AllByRecursion (λ e. is_for j e ≡ false) es

-- so of a range of partitions the first to fail is the first of those asked
first-range : (es : List LogEntry) (n low : ℕ) (sents : List Sent) → Rise low (low + n) sents → ((j : ℕ) → low ≤ j → list_any (λ (sent : Sent). sent.part == j) sents ≡ false → last_failure j None es ≡ None)
    → first_failure es (range_with_len low n) ≡ first_among sents es
first-range es zero low [] rise none = refl
first-range es zero low (sent ∷ sents) rise none = absurd (omega (arith, rise.0, rise.1))
first-range es (suc n) low [] rise none =
    ap (λ x. or_else x (first_failure es (range_with_len (low + 1) n))) (none low (omega arith) refl) ∙ first-range es n (low + 1) [] tt (λ j le is. none j (omega (arith, le)) is)
first-range es (suc n) low (sent ∷ sents) rise none = at (λ ss more no. first-range es n (low + 1) ss more no) (sent.part == low) refl
  where
    at : ((ss : List Sent) → Rise (low + 1) (low + 1 + n) ss → ((j : ℕ) → low + 1 ≤ j → list_any (λ (s : Sent). s.part == j) ss ≡ false → last_failure j None es ≡ None)
        → first_failure es (range_with_len (low + 1) n) ≡ first_among ss es) → (b : Bool) → (sent.part == low) ≡ b → or_else (last_failure low None es) (first_failure es (range_with_len (low + 1) n)) ≡ or_else (last_failure sent.part None es) (first_among sents es)
    at rest true e =
        let same : sent.part ≡ low = eqb-true sent.part low e in
        let more : Rise (low + 1) (low + 1 + n) sents = rise_from (sent.part + 1) (low + 1) (low + suc n) (low + 1 + n) sents (omega (arith, same)) (omega arith) rise.2 in
        ap (λ m. or_else (last_failure m None es) (first_failure es (range_with_len (low + 1) n))) (sym same)
        ∙ ap (or_else (last_failure sent.part None es)) (rest sents more
        (λ j le is. none j (omega (arith, le)) (ap (λ b. b || list_any (λ (s : Sent). s.part == j) sents) (ne_eqb sent.part j (λ is_j. omega (arith, is_j, same, le))) ∙ is)))
    at rest false e =
        let differs = eqb-false sent.part low e in
        let first = rise.0 in
        let above : low + 1 ≤ sent.part = omega (arith, first, λ (x : low ≡ sent.part). differs (sym x)) in
        let more : Rise (low + 1) (low + 1 + n) (sent ∷ sents) = (above, omega (arith, rise.1), rise_from (sent.part + 1) (sent.part + 1) (low + suc n) (low + 1 + n) sents (omega arith) (omega arith) rise.2) in
        ap (λ x. or_else x (first_failure es (range_with_len (low + 1) n))) (none low (omega arith) (not_among low (low + 1) (low + 1 + n) (sent ∷ sents) (omega arith) more))
        ∙ rest (sent ∷ sents) more (λ j le is. none j (omega (arith, le)) is)

module _ (R : Sent → List LogEntry → Option Abort → Type 0) (tells : Tells R) where
  -- a list put before changes nothing for later partitions
  among-before : (part low high : ℕ) (sents : List Sent) (list es : List LogEntry) → part < low → Rise low high sents → AllByRecursion (IsWork part) list → first_among sents (list ++ es) ≡ first_among sents es
  among-before part low high [] list es lt rise h = refl
  among-before part low high (sent ∷ sents) list es lt rise h =
      let le = rise.0 in
      let mine : last_failure sent.part None (list ++ es) ≡ last_failure sent.part None es =
      last-append sent.part None list es ∙ ap (λ x. last_failure sent.part x es) (last-others sent.part None list (works-other part sent.part list (λ same. omega (arith, same, lt, le)) h)) in
      ap (λ x. or_else x (first_among sents (list ++ es))) mine ∙ ap (or_else (last_failure sent.part None es)) (among-before part (sent.part + 1) high sents list es (omega (arith, lt, le)) rise.2 h)

  all_append : (j : ℕ) (xs ys : List LogEntry) → AllByRecursion (λ e. is_for j e ≡ false) xs → AllByRecursion (λ e. is_for j e ≡ false) ys → AllByRecursion (λ e. is_for j e ≡ false) (xs ++ ys)
  all_append j [] ys h k = k
  all_append j (x ∷ xs) ys h k = (h.0, all_append j xs ys h.1 k)

  -- what lists in turn ask of none but theirs
  lists-elsewhere : (sents : List Sent) (lists : List (List LogEntry)) (end : Option Abort) → AllByRecursion IsPartOf sents → InTurn R sents lists end → IsElsewhere sents (joined lists)
  lists-elsewhere [] [] end parts h j is = tt
  lists-elsewhere [] (list ∷ lists) end parts h j is = absurd h
  lists-elsewhere (sent ∷ sents) [] end parts h j is = absurd h
  lists-elsewhere (sent ∷ sents) (list ∷ lists) end parts (inl h) j is =
      let both = or_parts (sent.part == j) (list_any (λ (s : Sent). s.part == j) sents) is in
      all_append j list (joined lists) (works-other sent.part j list (eqb-false sent.part j both.0) (tells.work sent list None parts.0 h.0)) (lists-elsewhere sents lists end parts.1 h.1 j both.1)
  lists-elsewhere (sent ∷ sents) (list ∷ lists) end parts (inr h) j is =
      let both = or_parts (sent.part == j) (list_any (λ (s : Sent). s.part == j) sents) is in
      subst (λ (ls : List (List LogEntry)). AllByRecursion (λ e. is_for j e ≡ false) (list ++ joined ls)) (sym h.2)
      (all_append j list [] (works-other sent.part j list (eqb-false sent.part j both.0) (tells.work sent list end parts.0 h.0)) tt)

  -- lists in turn
  lists-among : (low high : ℕ) (sents : List Sent) (lists : List (List LogEntry)) (end : Option Abort) → AllByRecursion IsPartOf sents → Rise low high sents → InTurn R sents lists end → first_among sents (joined lists) ≡ end
  lists-among low high [] [] end parts rise h = sym h
  lists-among low high [] (list ∷ lists) end parts rise h = absurd h
  lists-among low high (sent ∷ sents) [] end parts rise h = absurd h
  lists-among low high (sent ∷ sents) (list ∷ lists) end parts rise (inl h) =
      let mine : last_failure sent.part None (list ++ joined lists) ≡ None =
      last-append sent.part None list (joined lists) ∙ ap (λ x. last_failure sent.part x (joined lists)) (tells.last sent list None None parts.0 h.0)
      ∙ last-others sent.part None (joined lists) (lists-elsewhere sents lists end parts.1 h.1 sent.part (not_among sent.part (sent.part + 1) high sents (omega arith) rise.2)) in
      ap (λ x. or_else x (first_among sents (list ++ joined lists))) mine
      ∙ among-before sent.part (sent.part + 1) high sents list (joined lists) (omega arith) rise.2 (tells.work sent list None parts.0 h.0)
      ∙ lists-among (sent.part + 1) high sents lists end parts.1 rise.2 h.1
  lists-among low high (sent ∷ sents) (list ∷ lists) end parts rise (inr h) =
      let mine : last_failure sent.part None (list ++ joined lists) ≡ end =
      ap (λ (ls : List (List LogEntry)). last_failure sent.part None (list ++ joined ls)) h.2 ∙ ap (last_failure sent.part None) (append-nil list) ∙ tells.last sent list end None parts.0 h.0 in
      ap (λ x. or_else x (first_among sents (list ++ joined lists))) mine ∙ or-some end (first_among sents (list ++ joined lists)) h.1

  -- lists side by side
  together-among : (sents : List Sent) (es : List LogEntry) (end : Option Abort) → AllByRecursion IsPartOf sents → Together R sents (map (projection es) sents) end → first_among sents es ≡ end
  together-among [] es end parts h = sym h
  together-among (sent ∷ sents) es end parts (inl h) =
      ap (λ x. or_else x (first_among sents es)) (sym (last-projected sent.part None es) ∙ tells.last sent (projection es sent) None None parts.0 h.0) ∙ together-among sents es end parts.1 h.1
  together-among (sent ∷ sents) es end parts (inr h) =
      ap (λ x. or_else x (first_among sents es)) (sym (last-projected sent.part None es) ∙ tells.last sent (projection es sent) end None parts.0 h.0) ∙ or-some end (first_among sents es) h.1

one_other : (sent : Sent) (j : ℕ) (e : LogEntry) → is_for sent.part e ≡ true → (sent.part == j) ≡ false → is_for j e ≡ false
one_other sent j (Asked p s q l a) f g = ne_eqb p j (λ same. eqb-false sent.part j g (sym (eqb-true p sent.part f) ∙ same))
one_other sent j (Drew n f a) g k = refl

not_for : (sents : List Sent) (e : LogEntry) (j : ℕ) → list_any (λ (sent : Sent). is_for sent.part e) sents ≡ true → list_any (λ (sent : Sent). sent.part == j) sents ≡ false → is_for j e ≡ false
not_for [] e j f g = absurd (false≢true f)
not_for (sent ∷ sents) e j f g =
    let both = or_parts (sent.part == j) (list_any (λ (s : Sent). s.part == j) sents) g in
    elim (or_cases (is_for sent.part e) (list_any (λ (s : Sent). is_for s.part e) sents) f) [ inl x ↦ one_other sent j e x both.0 | inr y ↦ not_for sents e j y both.1 ]

theirs-elsewhere : (sents : List Sent) (es : List LogEntry) → AreTheirs sents es → IsElsewhere sents es
theirs-elsewhere sents [] h j is = tt
theirs-elsewhere sents (e ∷ es) h j is = (not_for sents e j h.0 is, theirs-elsewhere sents es h.1 j is)

-- the part of a statement
module _ (r : Asker) (few : parts_of r.tables ≤ most_parts) (ordinal : ℕ) where
  told : (es : List LogEntry) (sents : List Sent) (end : Option Abort) → Rise 0 (parts_of r.tables) sents → first_among sents es ≡ end → IsElsewhere sents es → first_failure es (range_with_len 0 most_parts) ≡ end
  told es sents end rise among elsewhere =
      first-range es most_parts 0 sents (rise_from 0 0 (parts_of r.tables) most_parts sents (omega arith) few rise) (λ j le is. last-others j None es (elsewhere j is)) ∙ among

  lists-told : (R : Sent → List LogEntry → Option Abort → Type 0) → Tells R → (sents : List Sent) (es : List LogEntry) (lists : List (List LogEntry)) (end : Option Abort) → es ≡ joined lists → AllByRecursion IsPartOf sents → Rise 0 (parts_of r.tables) sents
      → InTurn R sents lists end → first_failure es (range_with_len 0 most_parts) ≡ end
  lists-told R tells sents es lists end is parts rise h =
      ap (λ (x : List LogEntry). first_failure x (range_with_len 0 most_parts)) is
      ∙ told (joined lists) sents end rise (lists-among R tells 0 (parts_of r.tables) sents lists end parts rise h) (lists-elsewhere R tells sents lists end parts h)

  in_line-told : (plan : Plan) (es : List LogEntry) (end : Option Abort) → AllByRecursion IsPartOf (sents_of plan) → Rise 0 (parts_of r.tables) (sents_of plan) → InLineBy r ordinal plan es end → first_failure es (range_with_len 0 most_parts) ≡ end
  in_line-told (Subsets sents) es end parts rise h = lists-told (IsList r ordinal) (list-tells r ordinal) sents es h.0 end h.1 parts rise h.2
  in_line-told (Singles sents) es end parts rise h = lists-told (IsSingle r ordinal) (single-tells r ordinal) sents es h.0 end h.1 parts rise h.2

  wide-told : (plan : Plan) (es : List LogEntry) (end : Option Abort) → AllByRecursion IsPartOf (sents_of plan) → Rise 0 (parts_of r.tables) (sents_of plan) → WideBy r ordinal plan es end → first_failure es (range_with_len 0 most_parts) ≡ end
  wide-told (Subsets sents) es end parts rise h = told es sents end rise (together-among (IsList r ordinal) (list-tells r ordinal) sents es end parts h.lists) (theirs-elsewhere sents es h.theirs)
  wide-told (Singles sents) es end parts rise h = absurd h

  pub part-told : (s : Statement) (es : List LogEntry) (end : Option Abort) → AllByRecursion IsPartOf (sents_of (plan_of r s)) → IsPart r ordinal s es end → first_failure es (range_with_len 0 most_parts) ≡ end
  part-told s es end parts (inl h) = in_line-told (plan_of r s) es end parts (plans_rise r s) h
  part-told s es end parts (inr h) = wide-told (plan_of r s) es end parts (plans_rise r s) h
