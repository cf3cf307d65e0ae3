-- The rows that partitions have once they have served their histories.
use Rattle.std.proofs.Common.{◌≡◌, ℕ, suc, List, [], ◌∷◌, map, Option, Some, None, refl, ap, sym, ◌∙◌}
use Rattle.std.specs.List.{cons_option}
use Rattle.std.specs.Prelude.{filter_map, option_map, slice_get}
use Rattle.sql_base.specs.declared.values.Value.{Value}
use Rattle.key_sequenced.specs.Cells.{records}
use Rattle.key_sequenced.specs.declared.Cell.{Cell}
use Rattle.partition_core.specs.Kept.{IsReplayed, Kept, rows_in}
use Rattle.partition_state.specs.State.{State}
use Rattle.run_record.specs.Openings.{by_part, rows_left}

-- the rows of the cells are those of their records
rows_of_cells : (cells : List Cell) → filter_map (λ (cell : Cell). cell.now) cells ≡ map (λ k. k.row) (records cells)
rows_of_cells [] = refl
rows_of_cells (cell ∷ cells) = by_now cell.now (rows_of_cells cells)
  where
    by_now : (now : Option (List Value)) → filter_map (λ (c : Cell). c.now) cells ≡ map (λ k. k.row) (records cells)
        → cons_option now (filter_map (λ (c : Cell). c.now) cells) ≡ map (λ k. k.row) (cons_option (option_map (λ row. record { key = cell.key; row = row }) now) (records cells))
    by_now None h = h
    by_now (Some row) h = ap (λ (rows : List (List Value)). row ∷ rows) h

pub rows_by_part : (ps : List State) (ks : List Kept) → ((part : ℕ) (k : Kept) → slice_get ks part ≡ Some k → (slice_get ps part ≡ Some k.opening) × IsReplayed k)
    → map rows_in ks ≡ by_part rows_left ps (map (λ (k : Kept). k.history) ks)
rows_by_part [] [] each = refl
rows_by_part (p ∷ ps) [] each = refl
rows_by_part [] (k ∷ ks) each = let first = (each 0 k refl).0 in absurd (cc)
rows_by_part (p ∷ ps) (k ∷ ks) each =
    let first = each 0 k refl in
    let opened : p ≡ k.opening = (let is = first.0 in cc) in
    let now : rows_in k ≡ rows_left k.opening k.history = rows_of_cells k.now.cells ∙ ap (λ (q : State). map (λ r. r.row) (records q.cells)) first.1.replayed in
    let here : rows_in k ≡ rows_left p k.history = now ∙ ap (λ (q : State). rows_left q k.history) (sym opened) in
    let rest = rows_by_part ps ks (λ part e found. each (suc part) e found) in
    (λ i. here i ∷ rest i)
