-- Facts of any state that meets the rule.
use Rattle.std.proofs.Common.{◌≡◌, ◌≢◌, ℕ, zero, suc, ◌+◌, ◌<◌, ◌≤◌, List, [], ◌∷◌, ◌++◌, length, get_or, set, Option, Bool, true, false, true≢false, refl, sym, ap, ◌∙◌, subst, ⊎_elim, arith}
use Rattle.std.specs.Prelude.{if◌then◌else◌, nat_le}
use Rattle.std.specs.List.{AllByRecursion, flat_map}
use mathlib.Core.Logic.{dite}
use mathlib.Core.List.{IsPrefix}
use mathlib.Core.Option.{some, some-ne-none, some-injective}
use native.Mathlib.Decide.{ℕ_discrete, dec_le}
use lib.ListN.{get_elem?}
use lib.Seq.{set-get_or}
use Rattle.std.proofs.Common.{append_assoc}
use Rattle.atomic_table.specs.Table.{State, Me, keeps, stepped}
use Rattle.atomic_table.proofs.Lists.{at_set, set_else, set_again}
use Rattle.turn_lock.specs.declared.view.Start.{Start}
use Rattle.turn_lock.specs.declared.view.View.{View}
use Rattle.turn_lock.specs.Pass.{StandIn}
use Rattle.turn_lock.specs.View.{own, longer, carried_if, IsSeatOf}
use Rattle.turn_lock.specs.Rule.{Fits, Kept}
use Rattle.turn_lock.proofs.Counts.{total, times, term_le, terms_le, times-first, times-flat_map, times-IsPermutation, times-range_above, times-range_le}

-- plain lists, options and tests

pub off : false ≡ true → ⊥
off e = true≢false (sym e)

pub no_cons : {A : Type 0} (x : A) (xs : List A) → x ∷ xs ≡ [] → ⊥
no_cons x xs e = cc

pub in_range : {A : Type 0} (l : List A) (i : ℕ) (a : A) → get_elem? l i ≡ some a → i < length l
in_range [] i a e = absurd (some-ne-none a (sym e))
in_range (x ∷ xs) zero a e = omega arith
in_range (x ∷ xs) (suc i) a e = omega (arith, in_range xs i a e)

pub both_none : (xs ys : List ℕ) → xs ++ ys ≡ [] → (xs ≡ []) × (ys ≡ [])
both_none [] ys e = (refl, e)
both_none (x ∷ xs) ys e = absurd (no_cons x (xs ++ ys) e)

pub times-own : (xs : List ℕ) → xs ≢ [] → 1 ≤ times (own xs) xs
times-own [] n = absurd (n refl)
times-own (x ∷ xs) n = times-first x xs

module _ {E : Type 0} where
  pub IsPrefix-refl : (xs : List E) → IsPrefix xs xs
  IsPrefix-refl [] = ([], refl)
  IsPrefix-refl (x ∷ xs) = let r = IsPrefix-refl xs in (r.0, ap (λ l. x ∷ l) r.1)

  pub IsPrefix-nil : (xs : List E) → IsPrefix [] xs
  IsPrefix-nil xs = (xs, refl)

  pub IsPrefix-append : (xs log more : List E) → IsPrefix xs log → IsPrefix xs (log ++ more)
  IsPrefix-append xs log more p = (p.0 ++ more, sym (append_assoc xs p.0 more) ∙ ap (λ l. l ++ more) p.1)

  pub IsPrefix-longer : (log xs ys : List E) → IsPrefix xs log → IsPrefix ys log → IsPrefix (longer xs ys) log
  IsPrefix-longer log xs ys p q = by_test (nat_le (length ys) (length xs))
    where
      by_test : (b : Bool) → IsPrefix (if b then xs else ys) log
      by_test true = p
      by_test false = q

module _ {A : Type 0} (P : A → Type 0) where
  pub AllByRecursion-append : (xs ys : List A) → AllByRecursion P xs → AllByRecursion P ys → AllByRecursion P (xs ++ ys)
  AllByRecursion-append [] ys h h' = h'
  AllByRecursion-append (x ∷ xs) ys h h' = (h.0, AllByRecursion-append xs ys h.1 h')

  pub AllByRecursion-parts : (xs ys : List A) → AllByRecursion P (xs ++ ys) → AllByRecursion P xs × AllByRecursion P ys
  AllByRecursion-parts [] ys h = (tt, h)
  AllByRecursion-parts (x ∷ xs) ys h = let r = AllByRecursion-parts xs ys h.1 in ((h.0, r.0), r.1)

  pub AllByRecursion-weaker : (Q : A → Type 0) → ((x : A) → P x → Q x) → (xs : List A) → AllByRecursion P xs → AllByRecursion Q xs
  AllByRecursion-weaker Q w [] h = tt
  AllByRecursion-weaker Q w (x ∷ xs) h = (w x h.0, AllByRecursion-weaker Q w xs h.1)

-- the seat of a pass, after its view and what it has out have changed
pub IsSeatOf-after : {V E R : Type 0} (number passes : ℕ) (m n : Me (Option V) (View E R)) (w : View E R) (c : List (ℕ × Option V)) → IsSeatOf number passes m
    → n ≡ (w, c) → w.numbers ≡ m.0.numbers → w.starts ≡ m.0.starts → c ≡ carried_if w.holds → StandIn w.mine w.seen → IsSeatOf number passes n
IsSeatOf-after number passes m n w c its now numbers starts carries own = subst (IsSeatOf number passes) (sym now)
    record { numbered = numbers ∙ its.numbered; start = its.start; started = starts ∙ its.started; counted = its.counted; carries = carries; own = own }

module _ {V E R : Type 0} (history : V → List E) (root_of : V → R) (start : Start R) where
  abbrev pub Table : Type 0
  Table = State (Option V) (View E R)

  abbrev pub Rule : Table → Type 0
  Rule = Kept history root_of start

  pub word0 : (s : Table) (k : Rule s) → get_or s.words 0 0 ≡ k.turn
  word0 s k = ap (λ ws. get_or ws 0 0) k.words

  pub word1 : (s : Table) (k : Rule s) → get_or s.words 1 0 ≡ length k.log
  word1 s k = ap (λ ws. get_or ws 1 0) k.words

  pub word2 : (s : Table) (k : Rule s) → get_or s.words 2 0 ≡ k.drawn
  word2 s k = ap (λ ws. get_or ws 2 0) k.words

  number_counts : (s : Table) (k : Rule s) (x : ℕ) → total (λ (v : View E R). times x v.numbers) s.views ≡ times x (Rattle.std.specs.List.range_with_len 0 k.drawn)
  number_counts s k x = sym (times-flat_map (λ (v : View E R). v.numbers) x s.views) ∙ times-IsPermutation x _ _ k.numbers

  -- two seats do not have one number
  pub apart : (s : Table) (k : Rule s) (i j : ℕ) (v w : View E R) (x : ℕ) → get_elem? s.views i ≡ some v → get_elem? s.views j ≡ some w → 1 ≤ times x v.numbers → 1 ≤ times x w.numbers → i ≡ j
  apart s k i j v w x at at' has has' = dite (ℕ_discrete i j) (λ e. e)
      (λ ne. absurd (omega (arith, terms_le (λ (u : View E R). times x u.numbers) s.views j i w v ne at' at, number_counts s k x, times-range_le x 0 k.drawn)))

  -- a number that a seat has was drawn
  pub is_drawn : (s : Table) (k : Rule s) (j : ℕ) (v : View E R) (x : ℕ) → get_elem? s.views j ≡ some v → 1 ≤ times x v.numbers → x < k.drawn
  is_drawn s k j v x at has = dite (dec_le k.drawn x)
      (λ high. absurd (omega (arith, term_le (λ (u : View E R). times x u.numbers) s.views j v at, number_counts s k x, times-range_above x 0 k.drawn (omega arith))))
      (λ low. omega arith)

  -- a holder has its own number
  pub holder_has : (s : Table) (k : Rule s) (j : ℕ) (v : View E R) → get_elem? s.views j ≡ some v → v.holds ≡ true → 1 ≤ times (own v.numbers) v.numbers
  holder_has s k j v at holds = times-own v.numbers (λ e. off (sym ((k.fits j v at).no_number e).1 ∙ holds))

  -- at most one seat holds
  pub alone : (s : Table) (k : Rule s) (i j : ℕ) (v w : View E R) → get_elem? s.views i ≡ some v → get_elem? s.views j ≡ some w → v.holds ≡ true → w.holds ≡ true → i ≡ j
  alone s k i j v w at at' h h' =
      let a : own v.numbers + 1 ≡ own w.numbers + 1 = sym ((k.fits i v at).turn_is h) ∙ (k.fits j w at').turn_is h' in
      let same : own v.numbers ≡ own w.numbers = omega arith in
      apart s k i j v w (own w.numbers) at at' (subst (λ (x : ℕ). 1 ≤ times x v.numbers) same (holder_has s k i v at h)) (holder_has s k j w at' h')

  -- what holds of the other views and of the new one holds of all
  pub fits_set : (views : List (View E R)) (id : ℕ) (w : View E R) (log : List E) (turn : ℕ)
      → ((j : ℕ) (u : View E R) → j ≢ id → get_elem? views j ≡ some u → Fits start log turn u) → Fits start log turn w
      → (j : ℕ) (u : View E R) → get_elem? (set views id w) j ≡ some u → Fits start log turn u
  fits_set views id w log turn others mine j u e = ⊎_elim (λ t. subst (Fits start log turn) t.1 mine) (λ t. others j u t.0 t.1) (at_set views id j w u e)

  -- a seat that does not hold is not the one that holds
  pub not_holder : (s : Table) (id j : ℕ) (v w : View E R) → get_elem? s.views id ≡ some v → get_elem? s.views j ≡ some w → v.holds ≡ false → w.holds ≡ true → j ≢ id
  not_holder s id j v w at at' idle holds e = off (sym idle ∙ ap (λ (u : View E R). u.holds) (some-injective v w (sym at ∙ ap (get_elem? s.views) (sym e) ∙ at')) ∙ holds)

  -- the holder, after a seat that does not hold has changed
  pub still_taken : (s : Table) (k : Rule s) (id : ℕ) (v w : View E R) → get_elem? s.views id ≡ some v → v.holds ≡ false → k.turn ≢ 0
      → (j : ℕ) × (u : View E R) × (get_elem? (set s.views id w) j ≡ some u) × (u.holds ≡ true)
  still_taken s k id v w at idle busy =
      let t = k.taken busy in
      (t.0, t.1, set_else s.views id t.0 w (not_holder s id t.0 v t.1 at t.2 idle t.3) ∙ t.2, t.3)

  -- a step that changes nothing
  pub still : (s : Table) → Rule s → (i id : ℕ) (v : View E R) (c : List (ℕ × Option V)) → get_elem? s.views id ≡ some v → Rule (stepped s i (get_or s.words i 0) id c v keeps)
  still s k i id v c at = subst Rule (λ x. record { words = sym (set-get_or s.words i 0) x; homes = s.homes; views = sym (set_again s.views id v at) x }) k
