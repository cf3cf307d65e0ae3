-- The code of a SET list, as it is written.
use Rattle.std.proofs.Common.{◌≡◌, ◌≤◌, ◌<◌, ◌++◌, ℕ, ◌+◌, List, [], ◌∷◌, length, take, get_or, map, true, ap, sym, ◌∙◌, arith}
use Rattle.std.specs.Prelude.{flat_map, nat_eq, ◌||◌}
use Rattle.std.specs.List.{AllByRecursion, list_any}
use Rattle.std.proofs.lemmas.Bool.{eqb-true}
use Rattle.std.proofs.lemmas.List.{append-nil, append_assoc, length-append, length-map, take_more}
use Rattle.std.proofs.lemmas.List.Concat.{flat_map-append}
use Rattle.std.proofs.lemmas.Option.{slice_get_within}
use Rattle.sql_base.specs.Codes.{code_of, counted}
use Rattle.sql_base.specs.Rows.{kinds}
use Rattle.sql_base.specs.Tables.{AreSets, IsAssign}
use Rattle.sql_base.specs.declared.statements.Assign.{Assign}
use Rattle.sql_base.specs.declared.tables.Column.{Column}
use Rattle.sql_base.specs.declared.tables.TableDef.{TableDef}
use Rattle.predicate_codes.proofs.ExactSets.{entry}
use Rattle.update_expressions.proofs.Differing.{few}
use Rattle.update_expressions.proofs.Refused.{column_of}
use Rattle.sql_base.proofs.Truths.{either}

module _ (table : TableDef) where
  column_within : (set : Assign) → IsAssign table set → set.column < length table.columns
  column_within set is = omega (arith, slice_get_within (kinds table) set.column is.0 is.2, length-map table.columns (λ (c : Column). c.kind))

  held_within : (sets : List Assign) → AllByRecursion (IsAssign table) sets → (c : ℕ) → list_any (nat_eq c) (map column_of sets) ≡ true → c < length table.columns
  held_within [] each c held = absurd (cc)
  held_within (set ∷ sets) each c held =
      either (nat_eq c set.column) (list_any (nat_eq c) (map column_of sets)) (λ e. omega (arith, eqb-true c set.column e, column_within set each.0)) (held_within sets each.1 c) held

  -- a SET list has no more assignments than the table has columns
  pub few_sets : (sets : List Assign) → AreSets table sets → length sets ≤ length table.columns
  few_sets sets are = omega (arith, length-map sets column_of, few (length table.columns) (map column_of sets) are.differ (held_within sets are.each))

-- one more assignment behind those that are written
pub writes_more : (sets : List Assign) (i : ℕ) (set : Assign) (old : List ℕ) → i < length sets → set ≡ get_or sets i set
    → old ++ flat_map entry (take (i + 1) sets) ≡ old ++ flat_map entry (take i sets) ++ set.column ∷ [] ++ counted (code_of set.value)
writes_more sets i set old within is =
    ap (λ (xs : List Assign). old ++ flat_map entry xs) (take_more sets i set within ∙ ap (λ (s : Assign). take i sets ++ s ∷ []) (sym is))
    ∙ ap (λ bytes. old ++ bytes) (flat_map-append entry (take i sets) (set ∷ []) ∙ ap (λ bytes. flat_map entry (take i sets) ++ bytes) (append-nil (entry set)))
    ∙ sym (append_assoc old (flat_map entry (take i sets)) (entry set))
    ∙ sym (append_assoc (old ++ flat_map entry (take i sets)) (set.column ∷ []) (counted (code_of set.value)))

-- a list is no longer than its code
pub some_bytes : (sets : List Assign) → length sets ≤ length (flat_map entry sets)
some_bytes [] = omega arith
some_bytes (set ∷ sets) = omega (arith, some_bytes sets, length-append (entry set) (flat_map entry sets))
