-- A row has as many bytes as its columns.
use Rattle.std.proofs.Common.{◌≡◌, ◌≤◌, ℕ, List, [], ◌∷◌, length, drop, Some, None, Option, Bool, true, false, refl, ap, arith, length-drop}
use Rattle.std.specs.Prelude.{◌≢◌, option_map, option_and_then, sum_by, nat_lt}
use Rattle.std.proofs.lemmas.List.Sums.{sum_by-cons}
use Rattle.sql_base.specs.Rows.{width, unpacked}
use Rattle.sql_base.specs.declared.tables.ColumnKind.{ColumnKind}
use Rattle.sql_base.specs.declared.values.Value.{Value}
use Rattle.std.proofs.lemmas.Bool.{ltb-false}

none_then : (o : Option Value) (rest : Option (List Value)) → rest ≡ None → option_and_then (λ (v : Value). option_map (λ (vs : List Value). v ∷ vs) rest) o ≡ None
none_then None rest e = refl
none_then (Some v) rest e = ap (option_map (λ (vs : List Value). v ∷ vs)) e

step : (kind : ColumnKind) (kinds : List ColumnKind) (bytes : List ℕ) (short : Bool) → nat_lt (length bytes) (width kind) ≡ short
    → (width kind ≤ length bytes → unpacked kinds (drop (width kind) bytes) ≡ None) → unpacked (kind ∷ kinds) bytes ≡ None
step kind kinds bytes true e rest = rw e refl
step kind kinds bytes false e rest = rw e (none_then _ _ (rest (ltb-false _ _ e)))

-- bytes of another length are no row
pub unpacked-length : (kinds : List ColumnKind) (bytes : List ℕ) → length bytes ≢ sum_by width kinds → unpacked kinds bytes ≡ None
unpacked-length [] [] h = absurd (h refl)
unpacked-length [] (b ∷ bs) h = refl
unpacked-length (kind ∷ kinds) bytes h =
    step kind kinds bytes _ refl (λ room. unpacked-length kinds (drop (width kind) bytes) (λ same. h (omega (arith, sum_by-cons width kind kinds, length-drop (width kind) bytes))))
