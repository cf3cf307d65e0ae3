-- The part of a statement that fails: the partitions below the one that failed it are whole.
use Rattle.std.proofs.Common.{◌≡◌, ◌<◌, ◌≤◌, ◌+◌, ℕ, List, [], ◌∷◌, ◌++◌, filter, map, Bool, true, false, cond, Option, Some, None, inl, inr, refl, ap, sym, ◌∙◌, subst, arith}
use Rattle.std.specs.Prelude.{◌==◌, find}
use Rattle.std.specs.List.{AllByRecursion}
use Rattle.std.proofs.lemmas.Bool.Decides.{nat_tests}
use Rattle.std.proofs.lemmas.List.{append-nil}
use Rattle.std.proofs.lemmas.List.Elements.{filter-append}
use Rattle.sql_base.specs.declared.outcomes.Abort.{Abort}
use Rattle.session_grammar.specs.Follows.{InTurn, IsList, IsSingle, Together, joined, projection}
use Rattle.session_grammar.specs.Plans.{Asker}
use Rattle.session_grammar.specs.Rows.{is_for}
use Rattle.session_grammar.specs.declared.logs.LogEntry.{LogEntry}
use Rattle.session_grammar.specs.declared.plans.Sent.{Sent}
use Rattle.serial_laws.proofs.InLine.{AllFor, PartsRise, none_for, row-for, rows-for}
use Rattle.sql_base.proofs.ListFacts.{filter-whole}

-- the lists of subsets and of single requests are of their partition, however they end
abbrev pub AreOwn : (Sent → List LogEntry → Option Abort → Type 0) → Type 0
AreOwn R = (sent : Sent) (entries : List LogEntry) (end : Option Abort) → R sent entries end → AllFor sent.part entries

pub lists_own : (r : Asker) (ordinal : ℕ) → AreOwn (IsList r ordinal)
lists_own r ordinal sent entries end h = subst (AllFor sent.part) (sym h.1) (rows-for r ordinal sent.part sent.ask h.0 end h.2)

pub singles_own : (r : Asker) (ordinal : ℕ) → AreOwn (IsSingle r ordinal)
singles_own r ordinal sent entries end h = row-for r.limits.patience sent.part (record { ordinal = ordinal; ask = sent.ask }) entries h.0 h.1

module _ (R : Sent → List LogEntry → Option Abort → Type 0) where
  -- the lowest that fails, below which all are whole
  pub record Breaks (low : ℕ) (sents : List Sent) (es : List LogEntry) (abort : Abort) : Type 0 where
    pub front : List Sent
    pub sent : Sent
    pub back : List Sent
    pub split : sents ≡ front ++ sent ∷ back
    pub above : low ≤ sent.part
    pub whole : AllByRecursion (λ s. (low ≤ s.part) × R s (projection es s) None) front
    pub fails : R sent (projection es sent) (Some abort)

  weaker : (low more : ℕ) (es : List LogEntry) (front : List Sent) → low ≤ more → AllByRecursion (λ s. (more ≤ s.part) × R s (projection es s) None) front → AllByRecursion (λ s. (low ≤ s.part) × R s (projection es s) None) front
  weaker low more es [] h all = tt
  weaker low more es (s ∷ front) h all = ((omega (arith, all.0.0), all.0.1), weaker low more es front h all.1)

  module _ (own : AreOwn R) where
    later_none : (n low : ℕ) (sents : List Sent) (lists : List (List LogEntry)) (end : Option Abort) → n < low → PartsRise low sents → InTurn R sents lists end → filter (is_for n) (joined lists) ≡ []
    later_none n low [] [] end lt rise h = refl
    later_none n low [] (list ∷ lists) end lt rise h = absurd h
    later_none n low (sent ∷ sents) [] end lt rise h = absurd h
    later_none n low (sent ∷ sents) (list ∷ lists) end lt rise (inl h) =
        filter-append (is_for n) list (joined lists)
        ∙ ap (λ l. l ++ filter (is_for n) (joined lists)) (none_for sent.part n list (λ same. absurd (omega (arith, rise.0))) (own sent list None h.0))
        ∙ later_none n (sent.part + 1) sents lists end (omega (arith, rise.0)) rise.1 h.1
    later_none n low (sent ∷ sents) (list ∷ lists) end lt rise (inr h) =
        filter-append (is_for n) list (joined lists)
        ∙ ap (λ l. l ++ filter (is_for n) (joined lists)) (none_for sent.part n list (λ same. absurd (omega (arith, rise.0))) (own sent list end h.0))
        ∙ ap (λ ls. filter (is_for n) (joined ls)) h.2

    -- what is asked of a partition above isn't of a list before
    behind_same : (list more : List LogEntry) (m : ℕ) (s : Sent) → AllFor m list → m + 1 ≤ s.part → projection (list ++ more) s ≡ projection more s
    behind_same list more m s all above =
        filter-append (is_for s.part) list more ∙ ap (λ l. l ++ filter (is_for s.part) more) (none_for m s.part list (λ same. absurd (omega arith)) all)

    behind_all : (list more : List LogEntry) (m : ℕ) (front : List Sent) → AllFor m list → AllByRecursion (λ s. (m + 1 ≤ s.part) × R s (projection more s) None) front
        → AllByRecursion (λ s. (m + 1 ≤ s.part) × R s (projection (list ++ more) s) None) front
    behind_all list more m [] all h = tt
    behind_all list more m (s ∷ front) all h = ((h.0.0, subst (λ l. R s l None) (sym (behind_same list more m s all h.0.0)) h.0.1), behind_all list more m front all h.1)

    pub turn_breaks : (low : ℕ) (sents : List Sent) (lists : List (List LogEntry)) (abort : Abort) → PartsRise low sents → InTurn R sents lists (Some abort) → Breaks low sents (joined lists) abort
    turn_breaks low [] [] abort rise h = absurd (cc)
    turn_breaks low [] (list ∷ lists) abort rise h = absurd h
    turn_breaks low (sent ∷ sents) [] abort rise h = absurd h
    turn_breaks low (sent ∷ sents) (list ∷ lists) abort rise (inl h) =
        let all = own sent list None h.0 in
        let same : projection (list ++ joined lists) sent ≡ list =
        filter-append (is_for sent.part) list (joined lists)
        ∙ ap (λ l. l ++ filter (is_for sent.part) (joined lists)) (filter-whole (is_for sent.part) list all)
        ∙ ap (λ l. list ++ l) (later_none sent.part (sent.part + 1) sents lists (Some abort) (omega arith) rise.1 h.1) ∙ append-nil list in
        let b = turn_breaks (sent.part + 1) sents lists abort rise.1 h.1 in
        record {
          front = sent ∷ b.front;
          sent = b.sent;
          back = b.back;
          split = ap (λ ss. sent ∷ ss) b.split;
          above = omega (arith, b.above, rise.0);
          whole = ((rise.0, subst (λ l. R sent l None) (sym same) h.0), weaker low (sent.part + 1) (list ++ joined lists) b.front (omega (arith, rise.0)) (behind_all list (joined lists) sent.part b.front all b.whole));
          fails = subst (λ l. R b.sent l (Some abort)) (sym (behind_same list (joined lists) sent.part b.sent all b.above)) b.fails;
        }
    turn_breaks low (sent ∷ sents) (list ∷ lists) abort rise (inr h) =
        let all = own sent list (Some abort) h.0 in
        let same : projection (list ++ joined lists) sent ≡ list =
        filter-append (is_for sent.part) list (joined lists)
        ∙ ap (λ l. l ++ filter (is_for sent.part) (joined lists)) (filter-whole (is_for sent.part) list all)
        ∙ ap (λ ls. list ++ filter (is_for sent.part) (joined ls)) h.2 ∙ append-nil list in
        record { front = []; sent = sent; back = sents; split = refl; above = rise.0; whole = tt; fails = subst (λ l. R sent l (Some abort)) (sym same) h.0 }

  pub together_breaks : (low : ℕ) (sents : List Sent) (es : List LogEntry) (abort : Abort) → PartsRise low sents → Together R sents (map (projection es) sents) (Some abort) → Breaks low sents es abort
  together_breaks low [] es abort rise h = absurd (cc)
  together_breaks low (sent ∷ sents) es abort rise (inl h) =
      let b = together_breaks (sent.part + 1) sents es abort rise.1 h.1 in
      record {
        front = sent ∷ b.front;
        sent = b.sent;
        back = b.back;
        split = ap (λ ss. sent ∷ ss) b.split;
        above = omega (arith, b.above, rise.0);
        whole = ((rise.0, h.0), weaker low (sent.part + 1) es b.front (omega (arith, rise.0)) b.whole);
        fails = b.fails;
      }
  together_breaks low (sent ∷ sents) es abort rise (inr h) = record { front = []; sent = sent; back = sents; split = refl; above = rise.0; whole = tt; fails = h.0 }

-- where a sent of a partition is found among rising ones
pub find_at : (low : ℕ) (front : List Sent) (sent : Sent) (back : List Sent) → PartsRise low (front ++ sent ∷ back) → (low ≤ sent.part) × (find (λ s. s.part == sent.part) (front ++ sent ∷ back) ≡ Some sent)
find_at low [] sent back rise = (rise.0, let own : (sent.part == sent.part) ≡ true = grind (arith, nat_tests) in rw own refl)
find_at low (s ∷ front) sent back rise =
    let rest = find_at (s.part + 1) front sent back rise.1 in
    let below : s.part + 1 ≤ sent.part = rest.0 in
    let other : (s.part == sent.part) ≡ false = grind (arith, nat_tests) in
    (omega (arith, rise.0), rw other rest.1)

none_below : (n low : ℕ) (sents : List Sent) → n < low → PartsRise low sents → find (λ s. s.part == n) sents ≡ None
none_below n low [] lt rise = refl
none_below n low (s ∷ sents) lt rise =
    let from : low ≤ s.part = rise.0 in
    let other : (s.part == n) ≡ false = grind (arith, nat_tests) in
    rw other (none_below n (s.part + 1) sents (omega arith) rise.1)

pub find_front : (n low : ℕ) (front : List Sent) (sent : Sent) (back : List Sent) → PartsRise low (front ++ sent ∷ back) → n < sent.part → find (λ s. s.part == n) (front ++ sent ∷ back) ≡ find (λ s. s.part == n) front
find_front n low [] sent back rise lt =
    let other : (sent.part == n) ≡ false = grind (arith, nat_tests) in
    rw other (none_below n (sent.part + 1) back (omega arith) rise.1)
find_front n low (s ∷ front) sent back rise lt = by_test (s.part == n) (find_front n (s.part + 1) front sent back rise.1 lt)
  where
    by_test : (b : Bool) → find (λ s. s.part == n) (front ++ sent ∷ back) ≡ find (λ s. s.part == n) front → cond b (Some s) (find (λ s. s.part == n) (front ++ sent ∷ back)) ≡ cond b (Some s) (find (λ s. s.part == n) front)
    by_test true rest = refl
    by_test false rest = rest
