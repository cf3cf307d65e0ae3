-- The passes of a new lock, in the order of their numbers.
use Rattle.std.proofs.Common.{◌≡◌, ℕ, ◌+◌, ◌-◌, ◌≤◌, List, [], ◌∷◌, ◌++◌, map, ap, sym, ◌∙◌, suc, arith}
use Rattle.std.specs.List.{range_with_len}
use Rattle.atomic_table.specs.Seated.{TableId}
use Rattle.turn_lock.specs.Pass.{PassState, lock_id, new_pass}
use Rattle.std.proofs.lemmas.List.FromFn.{map-range_with_len_more}

pub new_pass-same : {E R : Type 0} (table table' : TableId) (passes passes' : ℕ) (root root' : R) → table ≡ table' → passes ≡ passes' → root ≡ root'
    → ◌≡◌ {A = ℕ → PassState E R} (new_pass (lock_id table passes) root) (new_pass (lock_id table' passes') root')
new_pass-same table table' passes passes' root root' t p r = λ i. new_pass (lock_id (t i) (p i)) (r i)

module _ {A : Type 0} (f : ℕ → A) where
  -- one more, whose number comes next
  pub one_more : (number : ℕ) (xs : List A) (x : A) → 1 ≤ number → xs ≡ map f (range_with_len 1 (number - 1)) → x ≡ f number → xs ++ x ∷ [] ≡ map f (range_with_len 1 (number + 1 - 1))
  one_more number xs x some e e' =
      let next : 1 + (number - 1) ≡ number = omega arith in
      let count : (number - 1) + 1 ≡ number + 1 - 1 = omega arith in
      ap (λ l. l ++ x ∷ []) e ∙ ap (λ y. map f (range_with_len 1 (number - 1)) ++ y ∷ []) e' ∙ sym (map-range_with_len_more f 1 (number - 1) number next) ∙ ap (λ n. map f (range_with_len 1 n)) count

  -- the first, before the others
  pub all_of : (count : ℕ) (rest : List A) (x : A) → 1 ≤ count → x ≡ f 0 → rest ≡ map f (range_with_len 1 (count - 1)) → x ∷ rest ≡ map f (range_with_len 0 count)
  all_of count rest x some e e' =
      let count_is : suc (count - 1) ≡ count = omega arith in
      ap (λ y. y ∷ rest) e ∙ ap (λ l. f 0 ∷ l) e' ∙ ap (λ n. map f (range_with_len 0 n)) count_is
