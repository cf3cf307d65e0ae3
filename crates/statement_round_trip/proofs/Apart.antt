-- Columns named together, one after the eq_turned, and none twice.
use Rattle.std.proofs.Common.{◌≡◌, ℕ, List, [], ◌∷◌, ◌++◌, true, false, refl}
use Rattle.std.specs.Prelude.{nat_eq, not}
use Rattle.std.specs.List.{list_any, AllByRecursion}
use Rattle.sql_base.specs.Tables.{all_differ}
use Rattle.sql_base.proofs.Truths.{both_hold, neither_holds, not-true}
use Rattle.statement_rules.proofs.Listing.{eq_turned}
use Rattle.sql_base.proofs.ListFacts.{any-none_more}

-- none of these is one of those
abbrev pub Apart : List ℕ → List ℕ → Type 0
Apart before cs = AllByRecursion (λ c. list_any (nat_eq c) before ≡ false) cs

pub apart_none : (cs : List ℕ) → Apart [] cs
apart_none [] = tt
apart_none (c ∷ cs) = (refl, apart_none cs)

pub apart_more : (c : ℕ) (before cs : List ℕ) → list_any (nat_eq c) cs ≡ false → Apart before cs → Apart (before ++ c ∷ []) cs
apart_more c before [] new apart = tt
apart_more c before (y ∷ cs) new apart =
    let e = neither_holds (nat_eq c y) (list_any (nat_eq c) cs) new in
    (any-none_more (nat_eq y) before c apart.0 (eq_turned c y e.0), apart_more c before cs e.1 apart.1)

-- the first is none of the others, which differ as well
pub differing : (c : ℕ) (cs : List ℕ) → all_differ nat_eq (c ∷ cs) ≡ true → (list_any (nat_eq c) cs ≡ false) × (all_differ nat_eq cs ≡ true)
differing c cs h = let both = both_hold (not (list_any (nat_eq c) cs)) (all_differ nat_eq cs) h in (not-true (list_any (nat_eq c) cs) both.0, both.1)
