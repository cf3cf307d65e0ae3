-- A SET list without a fault is one of the table.
use Rattle.std.proofs.Common.{◌≡◌, ◌<◌, ◌++◌, ℕ, ◌+◌, List, [], ◌∷◌, length, take, drop, get_or, map, Some, None, Option, Bool, true, false, refl, ap, sym, ◌∙◌, arith}
use Rattle.std.specs.Prelude.{nat_eq, nat_lt, slice_get, if◌then◌else◌}
use Rattle.std.specs.List.{AllByRecursion, list_any}
use Rattle.std.specs.Option.{option_or}
use Rattle.std.proofs.lemmas.Bool.{ltb-false}
use Rattle.std.proofs.lemmas.List.{append-nil, append_assoc, drop_more, map-append, take_more}
use Rattle.sql_base.specs.Kinds.{Kind, OfNumber, OfText, OfTruth, IsExpr}
use Rattle.sql_base.specs.Rows.{kinds}
use Rattle.sql_base.specs.Tables.{AreSets, IsAssign, Stores, all_differ}
use Rattle.sql_base.specs.declared.statements.Assign.{Assign}
use Rattle.sql_base.specs.declared.tables.ColumnKind.{ColumnKind}
use Rattle.sql_base.specs.declared.tables.ColumnKind.TheVariants.{Int, Char}
use Rattle.sql_base.specs.declared.tables.TableDef.{TableDef}
use Rattle.update_expressions.specs.Refusing.{AreTyped, misfit, fault_in, set_fault, fault_behind, first_set_fault}
use Rattle.update_expressions.specs.declared.faults.SetFault.{SetFault}
use Rattle.update_expressions.specs.declared.faults.SetFault.TheVariants.{TextTooLong}
use Rattle.update_expressions.proofs.Differing.{any-map, differ-push}

if_none : (b : Bool) (x : SetFault) (rest : Option SetFault) → (if b then Some x else rest) ≡ None → (b ≡ false) × (rest ≡ None)
if_none true x rest e = absurd (cc)
if_none false x rest e = (refl, e)

or_none : (a b : Option SetFault) → option_or a b ≡ None → (a ≡ None) × (b ≡ None)
or_none None b e = (refl, e)
or_none (Some x) b e = absurd (cc)

fits : (place : ℕ) (column : ColumnKind) (kind : Kind) → misfit place column (Some kind) ≡ None → Stores column kind
fits place Int OfNumber e = tt
fits place Int (OfText w) e = absurd (cc)
fits place Int OfTruth e = absurd (cc)
fits place (Char room) (OfText w) e = omega (arith, ltb-false room w (if_none (nat_lt room w) (TextTooLong place) None e).0)
fits place (Char room) OfNumber e = absurd (cc)
fits place (Char room) OfTruth e = absurd (cc)

abbrev pub column_of : Assign → ℕ
column_of set = set.column

module _ (table : TableDef) where
  abbrev pub IsTyped : Assign → Type 0
  IsTyped set = (kind : Kind) × IsExpr table kind set.value

  unrefused : (before : List Assign) (set : Assign) → IsTyped set → set_fault table before set ≡ None → IsAssign table set × (list_any (λ (s : Assign). nat_eq s.column set.column) before ≡ false)
  unrefused before set is e = by (slice_get (kinds table) set.column) refl e
    where
      by : (o : Option ColumnKind) → slice_get (kinds table) set.column ≡ o → fault_in table before set o ≡ None → IsAssign table set × (list_any (λ (s : Assign). nat_eq s.column set.column) before ≡ false)
      by None at none = absurd (cc)
      by (Some column) at none =
          let key = if_none _ _ _ none in
          let twice = if_none _ _ _ key.1 in
          let kept : misfit (length before) column (Some is.0) ≡ None = ap (misfit (length before) column) (sym is.1.typed) ∙ twice.1 in
          ((column, is.0, at, key.0, fits (length before) column is.0 kept, is.1), twice.0)

  all_unrefused : (before sets : List Assign) → all_differ nat_eq (map column_of before) ≡ true → AllByRecursion IsTyped sets → fault_behind table before sets ≡ None
      → AllByRecursion (IsAssign table) sets × (all_differ nat_eq (map column_of (before ++ sets)) ≡ true)
  all_unrefused before [] differ typed none = (tt, ap (λ (sets : List Assign). all_differ nat_eq (map column_of sets)) (append-nil before) ∙ differ)
  all_unrefused before (set ∷ sets) differ typed none =
      let parts = or_none (set_fault table before set) (fault_behind table (before ++ set ∷ []) sets) none in
      let one = unrefused before set typed.0 parts.0 in
      let new : list_any (λ x. nat_eq x set.column) (map column_of before) ≡ false = sym (any-map column_of (λ x. nat_eq x set.column) before) ∙ one.1 in
      let more = all_unrefused (before ++ set ∷ []) sets
      (ap (all_differ nat_eq) (map-append column_of before (set ∷ [])) ∙ differ-push (map column_of before) set.column differ new)
      typed.1 parts.1 in
      ((one.0, more.0), ap (λ (xs : List Assign). all_differ nat_eq (map column_of xs)) (sym (append_assoc before (set ∷ []) sets)) ∙ more.1)

  pub are_sets : (sets : List Assign) → AreTyped table sets → first_set_fault table sets ≡ None → AreSets table sets
  are_sets sets typed none =
      let all = all_unrefused [] sets refl typed.each none in
      record { some = typed.some; each = all.0; differ = all.1; code = typed.code }

  -- the assignment at a place, and those behind it
  pub fault_at : (sets : List Assign) (i : ℕ) (set : Assign) → i < length sets → set ≡ get_or sets i set
      → fault_behind table (take i sets) (drop i sets) ≡ option_or (set_fault table (take i sets) set) (fault_behind table (take (i + 1) sets) (drop (i + 1) sets))
  fault_at sets i set within is =
      ap (fault_behind table (take i sets)) (drop_more sets i set within ∙ ap (λ (s : Assign). s ∷ drop (i + 1) sets) (sym is))
      ∙ ap (λ (before : List Assign). option_or (set_fault table (take i sets) set) (fault_behind table before (drop (i + 1) sets)))
      (ap (λ (s : Assign). take i sets ++ s ∷ []) is ∙ sym (take_more sets i set within))
