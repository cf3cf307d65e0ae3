-- A number is free, since there are more numbers than blocks.
use Rattle.std.proofs.Common.{◌≡◌, ℕ, zero, suc, ◌+◌, ◌-◌, ◌<◌, ◌≤◌, List, [], ◌∷◌, length, Bool, true, false, not, ◌||◌, cond, eqb, Option, Some, None, refl, ap, sym, ◌∙◌, arith}
use Rattle.std.specs.Prelude.{find, filter, unwrap_or}
use Rattle.std.specs.List.{list_any, range_with_len}
use Rattle.std.proofs.lemmas.Bool.{eq-eqb, false≢true}
use Rattle.std.proofs.lemmas.Bool.Decides.{nat_tests}
use Rattle.std.proofs.lemmas.List.Filters.{length-filter_both}
use Rattle.subset_blocks.specs.Blocks.{free_number}
use Rattle.subset_blocks.specs.declared.Numbered.{Numbered}
use Rattle.sql_base.proofs.Truths.{not-false, not-true}
use Rattle.sql_base.proofs.ListFacts.{found_passes}

-- the number is that of a block
abbrev has : {W : Type 0} → List (Numbered W) → ℕ → Bool
has blocks n = list_any (λ b. eqb b.number n) blocks

abbrev pub is_free : {W : Type 0} → List (Numbered W) → ℕ → Bool
is_free blocks n = not (has blocks n)

-- without the blocks of the number
abbrev without : {W : Type 0} → ℕ → List (Numbered W) → List (Numbered W)
without n blocks = filter (λ b. not (eqb b.number n)) blocks

some_pass_at : {X : Type 0} (p : X → Bool) (x : X) (xs : List X) (b : Bool) → (b || list_any p xs) ≡ true → (list_any p xs ≡ true → 0 < length (filter p xs)) → 0 < length (cond b (x ∷ filter p xs) (filter p xs))
some_pass_at p x xs true h rest = omega arith
some_pass_at p x xs false h rest = rest h

some_pass : {X : Type 0} (p : X → Bool) (xs : List X) → list_any p xs ≡ true → 0 < length (filter p xs)
some_pass p [] h = absurd (false≢true h)
some_pass p (x ∷ xs) h = some_pass_at p x xs (p x) h (λ e. some_pass p xs e)

without-shorter : {W : Type 0} (n : ℕ) (blocks : List (Numbered W)) → has blocks n ≡ true → length (without n blocks) < length blocks
without-shorter n blocks h =
    let both = length-filter_both (λ b. eqb b.number n) (λ b. not (eqb b.number n)) (λ _. refl) blocks in
    let some = some_pass (λ b. eqb b.number n) blocks h in
    omega arith

-- another number is still there
without-keeps_at : {W : Type 0} (n k : ℕ) (b : Numbered W) (blocks : List (Numbered W)) (is_n is_k : Bool) → eqb b.number n ≡ is_n → eqb b.number k ≡ is_k → (n ≡ k → ⊥) → (is_k || has blocks k) ≡ true → (has blocks k ≡ true → has (without n blocks) k ≡ true) → has (cond (not is_n) (b ∷ without n blocks) (without n blocks)) k ≡ true
without-keeps_at n k b blocks true true en ek differ h rest = absurd (grind (arith, nat_tests))
without-keeps_at n k b blocks true false en ek differ h rest = rest h
without-keeps_at n k b blocks false true en ek differ h rest = rw ek refl
without-keeps_at n k b blocks false false en ek differ h rest = rw ek (rest h)

without-keeps : {W : Type 0} (n k : ℕ) (blocks : List (Numbered W)) → (n ≡ k → ⊥) → has blocks k ≡ true → has (without n blocks) k ≡ true
without-keeps n k [] differ h = h
without-keeps n k (b ∷ blocks) differ h = without-keeps_at n k b blocks (eqb b.number n) (eqb b.number k) refl refl differ h (λ e. without-keeps n k blocks differ e)

-- as many blocks as numbers that they have
all_taken : {W : Type 0} (m : ℕ) (blocks : List (Numbered W)) → ((k : ℕ) → 1 ≤ k → k ≤ m → has blocks k ≡ true) → m ≤ length blocks
all_taken zero blocks h = omega arith
all_taken (suc m) blocks h =
    let shorter = without-shorter (suc m) blocks (h (suc m) (omega arith) (omega arith)) in
    let rest = all_taken m (without (suc m) blocks) (λ k low high. without-keeps (suc m) k blocks (λ e. absurd (omega arith)) (h k low (omega arith))) in
    omega arith

find-passes_at : (p : ℕ → Bool) (x : ℕ) (xs : List ℕ) (n : ℕ) (b : Bool) → p x ≡ b → cond b (Some x) (find p xs) ≡ Some n → (find p xs ≡ Some n → p n ≡ true) → p n ≡ true
find-passes_at p x xs n true e h rest = let same : x ≡ n = cc in ap p (sym same) ∙ e
find-passes_at p x xs n false e h rest = rest h

at_or_above : (p : ℕ → Bool) (a k : ℕ) (b : Bool) → eqb k a ≡ b → p a ≡ false → ((k ≡ a → ⊥) → p k ≡ false) → p k ≡ false
at_or_above p a k true same e rest = let equal : k ≡ a = grind (arith, nat_tests) in ap p equal ∙ e
at_or_above p a k false same e rest = rest (λ equal. false≢true (sym same ∙ eq-eqb k a equal))

none_passes_at : (p : ℕ → Bool) (a count k : ℕ) → a ≤ k → k < a + suc count → (b : Bool) → p a ≡ b → cond b (Some a) (find p (range_with_len (a + 1) count)) ≡ None → (find p (range_with_len (a + 1) count) ≡ None → a + 1 ≤ k → p k ≡ false) → p k ≡ false
none_passes_at p a count k low high true e h rest = absurd (cc)
none_passes_at p a count k low high false e h rest = at_or_above p a k (eqb k a) refl e (λ differ. rest h (omega arith))

-- where none is found, none passes
none_passes : (p : ℕ → Bool) (a count : ℕ) → find p (range_with_len a count) ≡ None → (k : ℕ) → a ≤ k → k < a + count → p k ≡ false
none_passes p a zero h k low high = absurd (omega arith)
none_passes p a (suc count) h k low high = none_passes_at p a count k low high (p a) refl h (λ e lower. none_passes p (a + 1) count e k lower (omega arith))

free_at : {W : Type 0} (blocks : List (Numbered W)) (found : Option ℕ) → find (is_free blocks) (range_with_len 1 (length blocks + 1)) ≡ found → has blocks (unwrap_or found 0) ≡ false
free_at blocks (Some n) e = not-true (has blocks n) (found_passes (is_free blocks) (range_with_len 1 (length blocks + 1)) n e)
free_at blocks None e =
    let taken = all_taken (length blocks + 1) blocks (λ k low high. not-false (has blocks k) (none_passes (is_free blocks) 1 (length blocks + 1) e k low (omega arith))) in
    absurd (omega arith)

-- no block has the free number
pub free_number-is_free : {W : Type 0} (blocks : List (Numbered W)) → list_any (λ b. eqb b.number (free_number blocks)) blocks ≡ false
free_number-is_free blocks = free_at blocks (find (is_free blocks) (range_with_len 1 (length blocks + 1))) refl

-- the search for a free number, one number on
range-step : (a count : ℕ) → 0 < count → range_with_len a count ≡ a ∷ range_with_len (a + 1) (count - 1)
range-step a zero h = absurd (omega arith)
range-step a (suc count) h = let e : suc count - 1 ≡ count = omega arith in rw e refl

search_step : {W : Type 0} (blocks : List (Numbered W)) (a count : ℕ) → 0 < count → find (is_free blocks) (range_with_len a count) ≡ cond (is_free blocks a) (Some a) (find (is_free blocks) (range_with_len (a + 1) (count - 1)))
search_step blocks a count h = ap (find (is_free blocks)) (range-step a count h)

pub search-found : {W : Type 0} (blocks : List (Numbered W)) (below : ℕ) → below < length blocks + 1 → find (is_free blocks) (range_with_len 1 (length blocks + 1)) ≡ find (is_free blocks) (range_with_len (below + 1) (length blocks + 1 - below)) → list_any (λ b. eqb b.number (below + 1)) blocks ≡ false → below + 1 ≡ free_number blocks
search-found blocks below lt so_far free =
    sym (ap (λ o. unwrap_or o 0) (so_far ∙ search_step blocks (below + 1) (length blocks + 1 - below) (omega arith)
    ∙ ap (λ b. cond (not b) (Some (below + 1)) (find (is_free blocks) (range_with_len (below + 1 + 1) (length blocks + 1 - below - 1)))) free))

pub search-more : {W : Type 0} (blocks : List (Numbered W)) (below : ℕ) → below < length blocks + 1 → find (is_free blocks) (range_with_len 1 (length blocks + 1)) ≡ find (is_free blocks) (range_with_len (below + 1) (length blocks + 1 - below)) → list_any (λ b. eqb b.number (below + 1)) blocks ≡ true → find (is_free blocks) (range_with_len 1 (length blocks + 1)) ≡ find (is_free blocks) (range_with_len (below + 1 + 1) (length blocks + 1 - (below + 1)))
search-more blocks below lt so_far taken =
    let shorter : length blocks + 1 - below - 1 ≡ length blocks + 1 - (below + 1) = omega arith in
    so_far ∙ search_step blocks (below + 1) (length blocks + 1 - below) (omega arith)
    ∙ ap (λ b. cond (not b) (Some (below + 1)) (find (is_free blocks) (range_with_len (below + 1 + 1) (length blocks + 1 - below - 1)))) taken
    ∙ ap (λ count. find (is_free blocks) (range_with_len (below + 1 + 1) count)) shorter
