-- What is found by going through a list.
use Rattle.std.proofs.Common.{◌≡◌, ◌+◌, ◌<◌, ℕ, List, [], ◌∷◌, ◌++◌, length, drop, get_or, true, cond, Bool, Some, ap, sym, ◌∙◌}
use Rattle.std.specs.Prelude.{find, sum_by, slice_get, filter_map, option_to_list}
use Rattle.std.specs.List.{cons_option}
use Rattle.std.proofs.lemmas.List.{drop_more}
use Rattle.std.proofs.lemmas.List.Elements.{filter_map-append}
use Rattle.std.proofs.lemmas.List.Sums.{sum_by-cons}
use Rattle.sql_base.specs.Rows.{chosen, width}
use Rattle.sql_base.specs.declared.tables.ColumnKind.{ColumnKind}
use Rattle.sql_base.specs.declared.values.Value.{Value}
use Rattle.key_sequenced.specs.declared.Cell.{Cell}
use Rattle.sql_base.proofs.ListFacts.{option-as_list}

pub find_here : {X : Type 0} (p : X → Bool) (xs : List X) (i : ℕ) (d : X) → i < length xs → p (get_or xs i d) ≡ true → find p xs ≡ find p (drop i xs) → find p xs ≡ Some (get_or xs i d)
find_here p xs i d lt passes so_far =
    so_far ∙ ap (find p) (drop_more xs i d lt) ∙ ap (λ b. cond b (Some (get_or xs i d)) (find p (drop (i + 1) xs))) passes

-- the widths of the columns that are left, one column on
pub widths_left : (kinds : List ColumnKind) (places : List ℕ) (i place : ℕ) (kind : ColumnKind) → i < length places → place ≡ get_or places i 0 → slice_get kinds place ≡ Some kind → sum_by width (chosen (drop i places) kinds) ≡ width kind + sum_by width (chosen (drop (i + 1) places) kinds)
widths_left kinds places i place kind lt is found =
    ap (λ ps. sum_by width (chosen ps kinds)) (drop_more places i 0 lt ∙ ap (λ p. p ∷ drop (i + 1) places) (sym is))
    ∙ ap (λ o. sum_by width (cons_option o (chosen (drop (i + 1) places) kinds))) found
    ∙ sum_by-cons width kind (chosen (drop (i + 1) places) kinds)

-- the row of one more cell
pub rows_more : (cells : List Cell) (cell : Cell) (rows more : List (List Value)) → rows ≡ filter_map (λ c. c.now) cells → more ≡ rows ++ option_to_list cell.now → more ≡ filter_map (λ c. c.now) (cells ++ cell ∷ [])
rows_more cells cell rows more so_far one =
    one ∙ ap (λ rs. rs ++ option_to_list cell.now) so_far ∙ ap (λ os. filter_map (λ c. c.now) cells ++ os) (option-as_list cell.now)
    ∙ sym (filter_map-append (λ c. c.now) cells (cell ∷ []))
