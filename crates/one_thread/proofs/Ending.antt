-- A transaction ends at the cells that it may have changed.
use Rattle.std.proofs.Common.{◌≡◌, ◌≤◌, ◌<◌, ◌+◌, ◌-◌, ℕ, zero, suc, List, [], ◌∷◌, ◌++◌, length, get_or, take, drop, map, Bool, true, false, refl, ap, sym, ◌∙◌, subst, arith, length-drop, length-append}
use Rattle.std.specs.Prelude.{min, max}
use Rattle.std.specs.List.{AllByRecursion}
use Rattle.std.proofs.lemmas.List.{get_or-append-add, get_or-drop, get_or-take, get_or_append_left, length-take, map-append, take-append-drop}
use Rattle.one_thread.specs.Scaffold.Cells.{ended, old_row}
use Rattle.one_thread.specs.Scaffold.Touched.{AreSame}
use Rattle.one_thread.specs.declared.cells.Before.{Before}
use Rattle.one_thread.specs.declared.cells.Before.TheVariants.{Same}
use Rattle.one_thread.specs.declared.cells.Cell.{Cell}
use Rattle.one_thread.proofs.Parts.{all_drop, all_take}

abbrev IsSame : Cell → Type 0
IsSame cell = cell.before ≡ Same

ended_same : (commit : Bool) (cell : Cell) → cell.before ≡ Same → ended commit cell ≡ cell
ended_same true cell e = ap {B = Cell} (λ (b : Before). record { key = cell.key; row = cell.row; before = b }) (sym e)
ended_same false cell e = ap {B = Cell} (λ (b : Before). record { key = cell.key; row = old_row cell.row b; before = Same }) e ∙ ap {B = Cell} (λ (b : Before). record { key = cell.key; row = cell.row; before = b }) (sym e)

still : (commit : Bool) (cells : List Cell) → AllByRecursion IsSame cells → map (ended commit) cells ≡ cells
still commit [] all = refl
still commit (c ∷ cells) all = ap (λ d. d ∷ map (ended commit) cells) (ended_same commit c all.0) ∙ ap (λ ds. c ∷ ds) (still commit cells all.1)

-- outside of the places from first to end nothing is to be done
pub ended_within : (commit : Bool) (cells new : List Cell) (first end : ℕ) → first ≤ end → end ≤ length cells → AllByRecursion IsSame (take first cells) → AllByRecursion IsSame (drop (end - first) (drop first cells))
    → new ≡ take first cells ++ (map (ended commit) (take (end - first) (drop first cells)) ++ drop (end - first) (drop first cells)) → new ≡ map (ended commit) cells
ended_within commit cells new first end le within below behind is =
    let f = ended commit in
    let from = drop first cells in
    let n = end - first in
    let inside = take n from in
    let rest = drop n from in
    let split : cells ≡ take first cells ++ (inside ++ rest) = sym (ap (λ cs. take first cells ++ cs) (take-append-drop n from) ∙ take-append-drop first cells) in
    is ∙ ap (λ cs. cs ++ (map f inside ++ rest)) (sym (still commit (take first cells) below)) ∙ ap (λ cs. map f (take first cells) ++ (map f inside ++ cs)) (sym (still commit rest behind))
    ∙ ap (λ cs. map f (take first cells) ++ cs) (sym (map-append f inside rest)) ∙ sym (map-append f (take first cells) (inside ++ rest)) ∙ ap (map f) (sym split)

pub same_below : (cells : List Cell) (first end low high : ℕ) → AreSame first end cells → high ≡ min end (length cells) → low ≡ min first high → AllByRecursion IsSame (take low cells)
same_below cells first end low high same h l = all_take IsSame cells low (omega arith) (λ k d lt. same.below k d (omega arith) (omega arith))

pub same_behind : (cells : List Cell) (first end low high : ℕ) → AreSame first end cells → high ≡ min end (length cells) → low ≡ min first high → AllByRecursion IsSame (drop (high - low) (drop low cells))
same_behind cells first end low high same h l =
    let long = length-drop low cells in
    all_drop IsSame (drop low cells) (high - low) (λ k d le lt. subst IsSame (sym (get_or-drop low cells k d)) (same.behind (low + k) d (omega (arith, long)) (omega (arith, long))))

-- a change of the cells of a window
pub same_widened : (old new middle : List Cell) (first end low high : ℕ) → AreSame first end old → low ≤ high → high ≤ length old → length middle ≡ high - low → new ≡ take low old ++ (middle ++ drop (high - low) (drop low old))
    → AreSame (min first low) (max end high) new
same_widened old new middle first end low high same le within long is =
    let rest = drop (high - low) (drop low old) in
    let l1 = length-take low old in
    let l2 = length-drop low old in
    let l3 = length-drop (high - low) (drop low old) in
    let l4 = length-append (take low old) (middle ++ rest) in
    let l5 = length-append middle rest in
    let count : length new ≡ length old = ap length is ∙ omega (arith, l1, l2, l3, l4, l5) in
    record {
      below = λ k d lt in_new.
          let here : get_or new k d ≡ get_or old k d = ap (λ cs. get_or cs k d) is ∙ get_or_append_left (take low old) (middle ++ rest) d k (omega (arith, l1)) ∙ get_or-take low old k d (omega arith) in
          subst IsSame (sym here) (same.below k d (omega arith) (omega (arith, count)));
      behind = λ k d over in_new.
          let j = k - high in
          let at1 : k ≡ length (take low old) + (length middle + j) = omega (arith, l1, long) in
          let at2 : k ≡ low + ((high - low) + j) = omega arith in
          let here : get_or new k d ≡ get_or old k d =
          ap (λ cs. get_or cs k d) is ∙ ap (λ n. get_or (take low old ++ (middle ++ rest)) n d) at1 ∙ get_or-append-add (take low old) (middle ++ rest) (length middle + j) d ∙ get_or-append-add middle rest j d
          ∙ get_or-drop (high - low) (drop low old) j d ∙ get_or-drop low old ((high - low) + j) d ∙ ap (λ n. get_or old n d) (sym at2) in
          subst IsSame (sym here) (same.behind k d (omega arith) (omega (arith, count)));
    }

ended_at : (commit : Bool) (cells : List Cell) (k : ℕ) (d : Cell) → k < length (map (ended commit) cells) → (get_or (map (ended commit) cells) k d).before ≡ Same
ended_at commit [] k d lt = absurd (omega arith)
ended_at true (c ∷ cells) zero d lt = refl
ended_at false (c ∷ cells) zero d lt = refl
ended_at commit (c ∷ cells) (suc k) d lt = ended_at commit cells k d (omega arith)

-- once it has ended, it has changed none
pub same_ended : (commit : Bool) (cells : List Cell) (first : ℕ) → AreSame first 0 (map (ended commit) cells)
same_ended commit cells first = record { below = λ k d lt in_cells. ended_at commit cells k d in_cells; behind = λ k d over in_cells. ended_at commit cells k d in_cells }

-- of all cells nothing is said
pub same_everywhere : (cells : List Cell) → AreSame 0 (length cells) cells
same_everywhere cells = record { below = λ k d lt in_cells. absurd (omega arith); behind = λ k d over in_cells. absurd (omega arith) }
