-- First keys that rise or don't.
use Rattle.std.proofs.Common.{◌≡◌, ◌≤◌, ◌+◌, ℕ, zero, suc, List, [], ◌∷◌, length, drop, Bool, true, false, Some, None, refl, ap, ◌∙◌, arith}
use Rattle.std.specs.Prelude.{slice_get, option_map, if◌then◌else◌}
use Rattle.std.proofs.lemmas.Option.{slice_get-map}
use Rattle.std.proofs.lemmas.List.{length-map}
use Rattle.sql_base.specs.Keys.{Rise, key_lt}
use Rattle.sql_base.specs.Tables.{first_key, first_keys}
use Rattle.sql_base.specs.declared.tables.TableDef.{TableDef}
use Rattle.sql_base.specs.declared.values.Value.{Value}
use Rattle.partition_cuts.specs.Checks.{falls}
use Rattle.sql_base.proofs.ListFacts.{drop-past}

-- where nothing falls, all rise
pub rise_from : (place : ℕ) (before : List ℕ) (keys : List (List ℕ)) → falls place before keys ≡ None → Rise (before ∷ keys)
rise_from place before [] h = tt
rise_from place before (key ∷ keys) h = at (key_lt before key) refl h (λ e. rise_from (place + 1) key keys e)
  where
    at : (b : Bool) → key_lt before key ≡ b → (if b then falls (place + 1) key keys else Some place) ≡ None → (falls (place + 1) key keys ≡ None → Rise (key ∷ keys)) → (key_lt before key ≡ true) × Rise (key ∷ keys)
    at true e h rest = (e, rest h)
    at false e h rest = absurd (cc)

drop_step : (keys : List (List ℕ)) (i : ℕ) (key : List ℕ) → slice_get keys i ≡ Some key → drop i keys ≡ key ∷ drop (suc i) keys
drop_step [] i key e = absurd (cc)
drop_step (k ∷ keys) zero key e = let same : k ≡ key = cc in ap (λ x. x ∷ keys) same
drop_step (k ∷ keys) (suc i) key e = drop_step keys i key e

-- one first key more
pub falls_more : (table : TableDef) (i : ℕ) (before : List ℕ) (first : List Value) → slice_get table.firsts i ≡ Some first
    → falls i before (drop i (first_keys table)) ≡ (if key_lt before (first_key table first) then falls (i + 1) (first_key table first) (drop (i + 1) (first_keys table)) else Some i)
falls_more table i before first e =
    let there : slice_get (first_keys table) i ≡ Some (first_key table first) = slice_get-map (first_key table) table.firsts i ∙ ap (option_map (first_key table)) e in
    let more : suc i ≡ i + 1 = omega arith in
    ap (falls i before) (drop_step (first_keys table) i (first_key table first) there) ∙ ap (λ n. if key_lt before (first_key table first) then falls (i + 1) (first_key table first) (drop n (first_keys table)) else Some i) more

pub falls_done : (table : TableDef) (i : ℕ) (before : List ℕ) → length table.firsts ≤ i → falls i before (drop i (first_keys table)) ≡ None
falls_done table i before h = ap (falls i before) (drop-past (first_keys table) i (omega (arith, length-map table.firsts (first_key table))))
