-- Lists of blocks, and lists at all, through each change.
use Rattle.std.proofs.Common.{◌≡◌, ℕ, List, [], ◌∷◌, ◌++◌, Bool, true, false, ◌||◌, cond, eqb, refl, ap, ◌∙◌, subst}
use Rattle.std.specs.Prelude.{filter, find, Option, Some}
use Rattle.std.specs.List.{AllByRecursion, list_any}
use Rattle.sql_base.specs.declared.key_ranges.Start.TheVariants.{After}
use Rattle.subset_blocks.specs.Blocks.{gone_on, advanced, NumbersDiffer}
use Rattle.subset_blocks.specs.declared.Numbered.{Numbered}
use Rattle.sql_base.proofs.Truths.{eqb-swapped, or_left, or_right}

found_at : {X : Type 0} (P : X → Type 0) (x y : X) (rest : Option X) (b : Bool) → P y → (rest ≡ Some x → P x) → cond b (Some y) rest ≡ Some x → P x
found_at P x y rest true h later e = let same : y ≡ x = cc in subst P same h
found_at P x y rest false h later e = later e

pub found_has : {X : Type 0} (P : X → Type 0) (p : X → Bool) (xs : List X) (x : X) → AllByRecursion P xs → find p xs ≡ Some x → P x
found_has P p [] x h e = absurd (cc)
found_has P p (y ∷ xs) x h e = found_at P x y (find p xs) (p y) h.0 (λ later. found_has P p xs x h.1 later) e

pub none-filter : {X : Type 0} (test p : X → Bool) (xs : List X) → list_any test xs ≡ false → list_any test (filter p xs) ≡ false
none-filter test p [] h = refl
none-filter test p (x ∷ xs) h =
    let rest = none-filter test p xs (or_right (test x) _ h) in
    elim (p x) as (λ b. list_any test (cond b (x ∷ filter p xs) (filter p xs)) ≡ false) [ true ↦ rw (or_left (test x) _ h) rest | false ↦ rest ]

pub NumbersDiffer-filter : {W : Type 0} (p : Numbered W → Bool) (blocks : List (Numbered W)) → NumbersDiffer blocks → NumbersDiffer (filter p blocks)
NumbersDiffer-filter p [] h = tt
NumbersDiffer-filter p (b ∷ blocks) h =
    elim (p b) as (λ v. NumbersDiffer (cond v (b ∷ filter p blocks) (filter p blocks)))
    [ true ↦ (none-filter (λ c. eqb c.number b.number) p blocks h.0, NumbersDiffer-filter p blocks h.1) | false ↦ NumbersDiffer-filter p blocks h.1 ]

none-push : {W : Type 0} (n : ℕ) (blocks : List (Numbered W)) (b : Numbered W) → list_any (λ c. eqb c.number n) blocks ≡ false → eqb b.number n ≡ false → list_any (λ c. eqb c.number n) (blocks ++ b ∷ []) ≡ false
none-push n [] b h e = rw e refl
none-push n (x ∷ blocks) b h e = rw (or_left (eqb x.number n) _ h) (none-push n blocks b (or_right (eqb x.number n) _ h) e)

pub NumbersDiffer-push : {W : Type 0} (blocks : List (Numbered W)) (b : Numbered W) → NumbersDiffer blocks → list_any (λ c. eqb c.number b.number) blocks ≡ false → NumbersDiffer (blocks ++ b ∷ [])
NumbersDiffer-push [] b h free = (refl, tt)
NumbersDiffer-push (x ∷ blocks) b h free =
    (none-push x.number blocks b h.0 (eqb-swapped x.number b.number (or_left (eqb x.number b.number) _ free)), NumbersDiffer-push blocks b h.1 (or_right (eqb x.number b.number) _ free))

abbrev restarted : {W : Type 0} → List ℕ → Numbered W → Numbered W
restarted last b = record b { block = record b.block { start = After last } }

gone_on-number : {W : Type 0} (n : ℕ) (last : List ℕ) (b : Numbered W) → (gone_on n last b).number ≡ b.number
gone_on-number n last b = elim (eqb b.number n) as (λ v. (cond v (restarted last b) b).number ≡ b.number) [ true ↦ refl | false ↦ refl ]

pub gone_on-work : {W : Type 0} (n : ℕ) (last : List ℕ) (b : Numbered W) → (gone_on n last b).block.work ≡ b.block.work
gone_on-work n last b = elim (eqb b.number n) as (λ v. (cond v (restarted last b) b).block.work ≡ b.block.work) [ true ↦ refl | false ↦ refl ]

any-advanced : {W : Type 0} (m n : ℕ) (last : List ℕ) (blocks : List (Numbered W)) → list_any (λ c. eqb c.number m) (advanced n last blocks) ≡ list_any (λ c. eqb c.number m) blocks
any-advanced m n last [] = refl
any-advanced m n last (b ∷ blocks) =
    ap (λ k. eqb k m || list_any (λ c. eqb c.number m) (advanced n last blocks)) (gone_on-number n last b)
    ∙ ap (λ v. eqb b.number m || v) (any-advanced m n last blocks)

pub NumbersDiffer-advanced : {W : Type 0} (n : ℕ) (last : List ℕ) (blocks : List (Numbered W)) → NumbersDiffer blocks → NumbersDiffer (advanced n last blocks)
NumbersDiffer-advanced n last [] h = tt
NumbersDiffer-advanced n last (b ∷ blocks) h =
    (any-advanced (gone_on n last b).number n last blocks ∙ ap (λ k. list_any (λ c. eqb c.number k) blocks) (gone_on-number n last b) ∙ h.0, NumbersDiffer-advanced n last blocks h.1)
