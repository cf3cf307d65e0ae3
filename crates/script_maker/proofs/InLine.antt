-- Draws one after the other, and the parts that they make.
use Rattle.std.proofs.Common.{◌≡◌, ◌<◌, ℕ, zero, suc, ◌+◌, ◌*◌, List, [], ◌∷◌, ◌++◌, length, map, refl, sym, ap, ◌∙◌, zero-add, arith}
use Rattle.std.proofs.lemmas.List.FromFn.{length-map-range_with_len, map-range_with_len_more}
use Rattle.std.specs.List.{AllByRecursion, range_with_len}
use Rattle.script_maker.specs.Making.{after, in_line, next_state}

-- draws behind draws
pub after_both : (m n s : ℕ) → after (m + n) s ≡ after n (after m s)
unfolding after
after_both m zero s =
    let none : m + 0 ≡ m = omega arith in
    ap (λ (k : ℕ). after k s) none
after_both m (suc n) s =
    let more : m + suc n ≡ suc (m + n) = omega arith in
    ap (λ (k : ℕ). after k s) more ∙ ap next_state (after_both m n s)

-- the draws of one part more
pub after_more : (draws i s : ℕ) → after (draws * (i + 1)) s ≡ after draws (after (draws * i) s)
after_more draws i s =
    let more : draws * (i + 1) ≡ draws * i + draws = omega arith in
    ap (λ (n : ℕ). after n s) more ∙ after_both (draws * i) draws s

module _ {A : Type 0} (draws : ℕ) (part : ℕ → ℕ → A) where
  -- one part more
  pub in_line_more : (i s : ℕ) → in_line draws part (i + 1) s ≡ in_line draws part i s ++ part i (after (draws * i) s) ∷ []
  unfolding in_line
  in_line_more i s = map-range_with_len_more (λ (i : ℕ). part i (after (draws * i) s)) 0 i i (zero-add i)

  -- none yet
  pub in_line_none : (s : ℕ) → in_line draws part 0 s ≡ []
  unfolding in_line
  in_line_none s = refl

  pub length-in_line : (count s : ℕ) → length (in_line draws part count s) ≡ count
  unfolding in_line
  length-in_line count s = length-map-range_with_len (λ (i : ℕ). part i (after (draws * i) s)) 0 count

-- no draw leaves the state
pub after_none : (s : ℕ) → after 0 s ≡ s
unfolding after
after_none s = refl

-- what holds of each
module _ {A : Type 0} (P : A → Type 0) where
  each_from : (f : ℕ → A) (first count : ℕ) → ((i : ℕ) → i < first + count → P (f i)) → AllByRecursion P (map f (range_with_len first count))
  each_from f first zero each = tt
  each_from f first (suc count) each = (each first (omega arith), each_from f (first + 1) count (λ i lt. each i (omega (arith, lt))))

  pub each_in_line : (draws : ℕ) (part : ℕ → ℕ → A) (count s : ℕ) → ((i t : ℕ) → i < count → P (part i t)) → AllByRecursion P (in_line draws part count s)
  unfolding in_line
  each_in_line draws part count s each = each_from (λ (i : ℕ). part i (after (draws * i) s)) 0 count (λ i lt. each i (after (draws * i) s) (omega (arith, lt)))

-- one part more, where the state stands behind those before it
pub grown : {A : Type 0} (draws : ℕ) (part : ℕ → ℕ → A) (i s now : ℕ) (xs ys : List A) (x : A)
    → xs ≡ in_line draws part i s → now ≡ after (draws * i) s → x ≡ part i now → ys ≡ xs ++ x ∷ [] → ys ≡ in_line draws part (i + 1) s
grown draws part i s now xs ys x before stands is pushed = pushed ∙ rw (before, is, stands) (sym (in_line_more draws part i s))

-- and the state behind it
pub moved : (draws i s now next : ℕ) → now ≡ after (draws * i) s → next ≡ after draws now → next ≡ after (draws * (i + 1)) s
moved draws i s now next stands is = is ∙ rw stands (sym (after_more draws i s))
