-- What a collector keeps while entries are shown to it, and what a list of them keeps.
use Rattle.std.proofs.Common.{◌≡◌, ℕ, zero, suc, ◌+◌, ◌<◌, List, [], ◌∷◌, ◌++◌, length, map, take, drop, get_or, refl, ap, sym, ◌∙◌, subst, arith, append_assoc, append-nil, Some}
use Rattle.std.specs.Prelude.{slice_get, slice_set}
use Rattle.std.specs.List.{AllZip}
use Rattle.sql_base.proofs.ListFacts.{drop-within, map_set}
use Rattle.outside.specs.Collecting.{Collecting, behind}
use Rattle.outside.specs.declared.collector.Seen.{Seen}
use Rattle.trace_report.specs.Reports.{SawFront, behind_all}
use Rattle.run_record.specs.Seen.{seen_entry, seen_from, seen_parts}
use Rattle.partition_state.specs.declared.entries.Entry.{Entry}

-- of the entries it has seen all but the rest
pub record HasSeen (entries rest : List Seen) (before after : Collecting) : Type 0 where
  pub front : List Seen
  pub joined : front ++ rest ≡ entries
  pub is : after ≡ behind_all front before

behind-append : (front more : List Seen) (c : Collecting) → behind_all (front ++ more) c ≡ behind_all more (behind_all front c)
behind-append [] more c = refl
behind-append (e ∷ front) more c = behind-append front more (behind e c)

pub seen_none : (entries : List Seen) (c : Collecting) → HasSeen entries entries c c
seen_none entries c = record { front = []; joined = refl; is = refl }

-- it saw a group of those that were left
pub seen_group : (entries group rest : List Seen) (before between after : Collecting) → HasSeen entries (group ++ rest) before between → after ≡ behind_all group between
    → HasSeen entries rest before after
seen_group entries group rest before between after h more = record {
  front = h.front ++ group;
  joined = append_assoc h.front group rest ∙ h.joined;
  is = more ∙ ap (behind_all group) h.is ∙ sym (behind-append h.front group before);
}

pub seen_whole : (entries : List Seen) (before after : Collecting) → HasSeen entries [] before after → after ≡ behind_all entries before
seen_whole entries before after h = subst (λ front. after ≡ behind_all front before) (sym (append-nil h.front) ∙ h.joined) h.is

pub seen_cut : (entries rest : List Seen) (before after : Collecting) → HasSeen entries rest before after → SawFront entries before after
seen_cut entries rest before after h = (h.front, rest, h.joined, h.is)

-- it saw a front of a group of those that were left
pub group_cut : (entries group rest : List Seen) (before between after : Collecting) → HasSeen entries (group ++ rest) before between → SawFront group between after
    → SawFront entries before after
group_cut entries group rest before between after h part =
    let front = part.0 in
    let left = part.1 in
    let joined : front ++ (left ++ rest) ≡ group ++ rest = sym (append_assoc front left rest) ∙ ap (λ xs. xs ++ rest) part.2 in
    let more = seen_group entries front (left ++ rest) before between after (subst (λ xs. HasSeen entries xs before between) (sym joined) h) part.3 in
    seen_cut entries (left ++ rest) before after more

-- it saw the entry at a place
pub entry_more : (part : ℕ) (history : List Entry) (entries : List Seen) (before between after : Collecting) (n place : ℕ) (e : Entry) (s : Seen) → n < length history → e ≡ get_or history n e → place ≡ n
    → s ≡ seen_entry part place e → HasSeen entries (seen_from part n (drop n history)) before between → after ≡ behind s between → HasSeen entries (seen_from part (n + 1) (drop (n + 1) history)) before after
entry_more part history entries before between after n place e s within is at shows h more =
    let rest = seen_from part (n + 1) (drop (n + 1) history) in
    let here : s ≡ seen_entry part n e = shows ∙ ap (λ k. seen_entry part k e) at in
    let left = subst (λ es. HasSeen entries (seen_from part n es) before between) (drop-within history n e within is) h in
    seen_group entries (seen_entry part n e ∷ []) rest before between after left (more ∙ ap (λ x. behind x between) here)

module _ (histories : List (List Entry)) (entries : List Seen) (before between after : Collecting) (n part : ℕ) (history : List Entry) (given : List Entry) (within : n < length histories)
    (is : history ≡ get_or histories n history) (at : part ≡ n) (same : given ≡ history) (h : HasSeen entries (seen_parts n (drop n histories)) before between) where
  left : HasSeen entries (seen_from part 0 history ++ seen_parts (n + 1) (drop (n + 1) histories)) before between
  left =
      let here = subst (λ hs. HasSeen entries (seen_parts n hs) before between) (drop-within histories n history within is) h in
      subst (λ k. HasSeen entries (seen_from k 0 history ++ seen_parts (n + 1) (drop (n + 1) histories)) before between) (sym at) here

  -- it saw the history at a place
  pub history_more : after ≡ behind_all (seen_from part 0 given) between → HasSeen entries (seen_parts (n + 1) (drop (n + 1) histories)) before after
  history_more more = seen_group entries (seen_from part 0 history) (seen_parts (n + 1) (drop (n + 1) histories)) before between after left (more ∙ ap (λ es. behind_all (seen_from part 0 es) between) same)

  -- it saw a front of that history
  pub history_cut : SawFront (seen_from part 0 given) between after → SawFront entries before after
  history_cut part_of = group_cut entries (seen_from part 0 history) (seen_parts (n + 1) (drop (n + 1) histories)) before between after left (subst (λ es. SawFront (seen_from part 0 es) between after) same part_of)

-- ---- lists

module _ (entries : List Seen) where
  -- the first of them have seen all, and the others nothing
  abbrev pub shown_to : ℕ → List Collecting → List Collecting
  shown_to at old = map (behind_all entries) (take at old) ++ drop at old

  pub shown_more : (at : ℕ) (old now : List Collecting) (c : Collecting) → now ≡ shown_to at old → slice_get now at ≡ Some c → slice_set now at (behind_all entries c) ≡ shown_to (suc at) old
  shown_more at old now c is found = subst (λ xs. slice_set xs at (behind_all entries c) ≡ shown_to (suc at) old) (sym is) (set_more at old (subst (λ xs. slice_get xs at ≡ Some c) is found))
    where
      set_more : (at : ℕ) (old : List Collecting) → slice_get (shown_to at old) at ≡ Some c → slice_set (shown_to at old) at (behind_all entries c) ≡ shown_to (suc at) old
      set_more zero [] found = absurd (cc)
      set_more (suc at) [] found = absurd (cc)
      set_more zero (x ∷ old) found = let same : x ≡ c = cc in ap (λ y. behind_all entries y ∷ old) (sym same)
      set_more (suc at) (x ∷ old) found = ap (λ xs. behind_all entries x ∷ xs) (set_more at old found)

  all_saw : (old : List Collecting) → AllZip (SawFront entries) old (map (behind_all entries) old)
  all_saw [] = tt
  all_saw (x ∷ old) = ((entries, [], append-nil entries, refl), all_saw old)

  none_saw : (old : List Collecting) → AllZip (SawFront entries) old old
  none_saw [] = tt
  none_saw (x ∷ old) = (([], entries, refl, refl), none_saw old)

  -- where all have seen all
  pub whole_is_front : (old new : List Collecting) → new ≡ map (behind_all entries) old → AllZip (SawFront entries) old new
  whole_is_front old new is = subst (AllZip (SawFront entries) old) (sym is) (all_saw old)

  -- the first have seen all, the next one a front, and the others nothing
  pub cut_at : (at : ℕ) (old now : List Collecting) (c d : Collecting) → now ≡ shown_to at old → slice_get now at ≡ Some c → SawFront entries c d → AllZip (SawFront entries) old (slice_set now at d)
  cut_at at old now c d is found part =
      subst (λ xs. AllZip (SawFront entries) old (slice_set xs at d)) (sym is) (cut at old (subst (λ xs. slice_get xs at ≡ Some c) is found))
    where
      cut : (at : ℕ) (old : List Collecting) → slice_get (shown_to at old) at ≡ Some c → AllZip (SawFront entries) old (slice_set (shown_to at old) at d)
      cut zero [] found = absurd (cc)
      cut (suc at) [] found = absurd (cc)
      cut zero (x ∷ old) found = let same : c ≡ x = cc in (subst (λ y. SawFront entries y d) same part, none_saw old)
      cut (suc at) (x ∷ old) found = ((entries, [], append-nil entries, refl), cut at old found)

-- what is seen of a list of collectors
module _ {C : Type 0} (f : C → Collecting) (entries : List Seen) where
  get_map : (xs : List C) (i : ℕ) (x : C) → i < length xs → x ≡ get_or xs i x → slice_get (map f xs) i ≡ Some (f x)
  get_map [] i x within is = absurd (omega (arith, within))
  get_map (y ∷ xs) zero x within is = ap (λ z. Some (f z)) (sym is)
  get_map (y ∷ xs) (suc i) x within is = get_map xs i x (omega (arith, within)) is

  pub collector_more : (old : List Collecting) (xs : List C) (i : ℕ) (x y : C) (given : List Seen) → map f xs ≡ shown_to entries i old → i < length xs → x ≡ get_or xs i x → given ≡ entries
      → f y ≡ behind_all given (f x) → map f (slice_set xs i y) ≡ shown_to entries (i + 1) old
  collector_more old xs i x y given are within is same more =
      let place : suc i ≡ i + 1 = omega arith in
      map_set f xs i y ∙ ap (slice_set (map f xs) i) (more ∙ ap (λ es. behind_all es (f x)) same) ∙ shown_more entries i old (map f xs) (f x) are (get_map xs i x within is) ∙ ap (λ k. shown_to entries k old) place

  pub collector_cut : (old : List Collecting) (xs : List C) (i : ℕ) (x y : C) (given : List Seen) → map f xs ≡ shown_to entries i old → i < length xs → x ≡ get_or xs i x → given ≡ entries
      → SawFront given (f x) (f y) → AllZip (SawFront entries) old (map f (slice_set xs i y))
  collector_cut old xs i x y given are within is same part =
      let here = subst (λ es. SawFront es (f x) (f y)) same part in
      subst (AllZip (SawFront entries) old) (sym (map_set f xs i y)) (cut_at entries i old (map f xs) (f x) (f y) are (get_map xs i x within is) here)
