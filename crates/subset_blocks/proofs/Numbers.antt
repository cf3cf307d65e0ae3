-- The block of a number, where numbers differ.
use Rattle.std.proofs.Common.{◌≡◌, ℕ, zero, suc, ◌<◌, List, [], ◌∷◌, length, get_or, set, map, Bool, true, false, ◌||◌, eqb, refl, ap, sym, ◌∙◌, arith}
use Rattle.std.proofs.lemmas.Bool.{eq-eqb, false≢true}
use Rattle.std.proofs.lemmas.Bool.Decides.{nat_tests}
use Rattle.std.proofs.lemmas.List.Folds.{list_any_at}
use Rattle.std.specs.List.{list_any}
use Rattle.sql_base.specs.declared.key_ranges.Start.TheVariants.{After}
use Rattle.subset_blocks.specs.Blocks.{gone_on, advanced, NumbersDiffer}
use Rattle.subset_blocks.specs.declared.Numbered.{Numbered}
use Rattle.sql_base.proofs.Truths.{or_left, or_right}

gone_on-same : {W : Type 0} (n : ℕ) (last : List ℕ) (b : Numbered W) → b.number ≡ n → gone_on n last b ≡ record b { block = record b.block { start = After last } }
gone_on-same n last b e = rw (eq-eqb b.number n e) refl

pub gone_on-other : {W : Type 0} (n : ℕ) (last : List ℕ) (b : Numbered W) → eqb b.number n ≡ false → gone_on n last b ≡ b
gone_on-other n last b e = rw e refl

-- where no block has the number, nothing goes on
pub advanced-none : {W : Type 0} (n : ℕ) (last : List ℕ) (blocks : List (Numbered W)) → list_any (λ b. eqb b.number n) blocks ≡ false → advanced n last blocks ≡ blocks
advanced-none n last [] h = refl
advanced-none n last (b ∷ blocks) h =
    ap (λ c. c ∷ map (gone_on n last) blocks) (gone_on-other n last b (or_left (eqb b.number n) _ h))
    ∙ ap (λ bs. b ∷ bs) (advanced-none n last blocks (or_right (eqb b.number n) _ h))

-- a block before one of the number has another number
before_it : {W : Type 0} (n : ℕ) (x : Numbered W) (blocks : List (Numbered W)) (i : ℕ) (b : Numbered W) (t : Bool) → eqb x.number n ≡ t → list_any (λ c. eqb c.number x.number) blocks ≡ false → i < length blocks → b ≡ get_or blocks i b → b.number ≡ n → t ≡ false
before_it {W = W} n x blocks i b false e differ lt is same = refl
before_it {W = W} n x blocks i b true e differ lt is same =
    let equal : x.number ≡ n = grind (arith, nat_tests) in
    let found : eqb (get_or blocks i b).number x.number ≡ true = eq-eqb (get_or blocks i b).number x.number (ap (λ (c : Numbered W). c.number) (sym is) ∙ same ∙ sym equal) in
    absurd (false≢true (sym differ ∙ list_any_at (λ c. eqb c.number x.number) blocks i b lt found))

-- the block of the number goes on, and no other
pub advanced-at : {W : Type 0} (n : ℕ) (last : List ℕ) (blocks : List (Numbered W)) (i : ℕ) (b : Numbered W) → NumbersDiffer blocks → i < length blocks → b ≡ get_or blocks i b → b.number ≡ n → set blocks i (record b { block = record b.block { start = After last } }) ≡ advanced n last blocks
advanced-at n last [] i b differ lt is same = absurd (omega arith)
advanced-at {W = W} n last (x ∷ blocks) zero b differ lt is same =
    ap (λ c. c ∷ blocks) (sym (gone_on-same n last b same) ∙ ap (gone_on n last) is)
    ∙ ap (λ bs. gone_on n last x ∷ bs) (sym (advanced-none n last blocks (ap (λ m. list_any (λ c. eqb c.number m) blocks) (sym same ∙ ap (λ (c : Numbered W). c.number) is) ∙ differ.0)))
advanced-at {W = W} n last (x ∷ blocks) (suc i) b differ lt is same =
    let short : i < length blocks = omega arith in
    ap (λ bs. x ∷ bs) (advanced-at n last blocks i b differ.1 short is same)
    ∙ ap (λ c. c ∷ map (gone_on n last) blocks) (sym (gone_on-other n last x (before_it n x blocks i b (eqb x.number n) refl differ.0 short is same)))
