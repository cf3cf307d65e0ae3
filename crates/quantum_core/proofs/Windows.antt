-- Cells whose keys rise: what holds behind a filter, of the first of them, and of the last key.
use Rattle.std.proofs.Common.{◌≡◌, ℕ, zero, suc, List, [], ◌∷◌, take, Bool, true, false, cond, Option, Some, None, filter, subst}
use Rattle.std.specs.List.{AllByRecursion}
use Rattle.sql_base.specs.Keys.{is_from, key_lt}
use Rattle.sql_base.specs.declared.key_ranges.Start.{Start}
use Rattle.sql_base.specs.declared.key_ranges.Start.TheVariants.{At, After}
use Rattle.key_sequenced.specs.Cells.{AreCells}
use Rattle.key_sequenced.specs.declared.Cell.{Cell}
use Rattle.sql_base.proofs.KeyOrders.{le_from_lt, key_le-trans, lt-trans}
use Rattle.sql_base.proofs.ListFacts.{all-filter, all-take}
use Rattle.key_sequenced.proofs.Belonging.{above-more}

-- each key is below those behind it
abbrev pub Ascends : List Cell → Type 0
Ascends [] = Unit {0}
Ascends (cell ∷ cells) = AllByRecursion (λ other. key_lt cell.key other.key ≡ true) cells × Ascends cells

-- all their keys are above a key
abbrev pub AreAbove : List ℕ → List Cell → Type 0
AreAbove key cells = AllByRecursion (λ cell. key_lt key cell.key ≡ true) cells

-- rising keys ascend
pub Ascends-from_rise : (cells : List Cell) → AreCells cells → Ascends cells
Ascends-from_rise [] h = tt
Ascends-from_rise (cell ∷ []) h = (tt, tt)
Ascends-from_rise (cell ∷ other ∷ cells) h =
    let rest : Ascends (other ∷ cells) = Ascends-from_rise (other ∷ cells) h.1 in
    ((h.0, above-more cell.key other.key cells h.0 rest.0), rest)

-- a filter keeps the order
pub Ascends-filter : (p : Cell → Bool) (cells : List Cell) → Ascends cells → Ascends (filter p cells)
Ascends-filter p [] h = tt
Ascends-filter p (cell ∷ cells) h =
    let above : AreAbove cell.key (filter p cells) = all-filter (λ other. key_lt cell.key other.key ≡ true) p cells h.0 in
    elim (p cell) as (λ b. Ascends (cond b (cell ∷ filter p cells) (filter p cells))) [ true ↦ (above, Ascends-filter p cells h.1) | false ↦ Ascends-filter p cells h.1 ]

-- a key above one from the start is from the start
pub is_from-above : (start : Start) (key other : List ℕ) → is_from start key ≡ true → key_lt key other ≡ true → is_from start other ≡ true
is_from-above (At low) key other h k = key_le-trans low key other h (le_from_lt key other k)
is_from-above (After last) key other h k = lt-trans last key other h k

-- the last key of a list of cells
abbrev pub end_key : List Cell → Option (List ℕ)
end_key [] = None
end_key (cell ∷ []) = Some cell.key
end_key (cell ∷ other ∷ cells) = end_key (other ∷ cells)

-- what holds of each key holds of the last
pub end_key-has : (P : List ℕ → Type 0) (cells : List Cell) (key : List ℕ) → AllByRecursion (λ cell. P cell.key) cells → end_key cells ≡ Some key → P key
end_key-has P [] key h e = absurd (cc)
end_key-has P (cell ∷ []) key h e = let same : cell.key ≡ key = cc in subst P same h.0
end_key-has P (cell ∷ other ∷ cells) key h e = end_key-has P (other ∷ cells) key h.1 e
