-- Elements at chosen places.
use Rattle.std.proofs.Common.{◌≡◌, ℕ, ◌+◌, ◌<◌, List, [], ◌∷◌, ◌++◌, length, take, get_or, Some, ap, sym, ◌∙◌}
use Rattle.std.specs.Prelude.{slice_get, flat_map, filter_map}
use Rattle.std.specs.List.{cons_option}
use Rattle.std.proofs.lemmas.List.{take_more, append-nil}
use Rattle.std.proofs.lemmas.List.Elements.{filter_map-append}
use Rattle.std.proofs.lemmas.Grind.{flat_map-append}
use Rattle.sql_base.specs.Rows.{chosen, packed, packed_value}
use Rattle.sql_base.specs.declared.values.Value.{Value}

-- one more place gives one more element
pub chosen_more : {A : Type 0} (places : List ℕ) (xs : List A) (i place : ℕ) (x : A) → i < length places → place ≡ get_or places i 0 → slice_get xs place ≡ Some x → chosen (take (i + 1) places) xs ≡ chosen (take i places) xs ++ x ∷ []
chosen_more places xs i place x lt e found =
    ap (filter_map (slice_get xs)) (take_more places i 0 lt ∙ ap (λ p. take i places ++ p ∷ []) (sym e))
    ∙ filter_map-append (slice_get xs) (take i places) (place ∷ [])
    ∙ ap (λ o. filter_map (slice_get xs) (take i places) ++ cons_option o []) found

-- and one more packed value
pub packed_more : (columns : List ℕ) (row : List Value) (i column : ℕ) (v : Value) → i < length columns → column ≡ get_or columns i 0 → slice_get row column ≡ Some v → packed (take (i + 1) columns) row ≡ packed (take i columns) row ++ packed_value v
packed_more columns row i column v lt e found =
    ap (flat_map packed_value) (chosen_more columns row i column v lt e found)
    ∙ flat_map-append packed_value (chosen (take i columns) row) (v ∷ [])
    ∙ ap (λ bytes. packed (take i columns) row ++ bytes) (append-nil (packed_value v))
