-- A SET list of its table has no fault.
use Rattle.std.proofs.Common.{◌≡◌, ◌≢◌, ℕ, List, [], ◌∷◌, ◌++◌, length, map, Some, None, true, false, refl, ap, ◌∙◌, append_assoc}
use Rattle.std.specs.Prelude.{nat_eq}
use Rattle.std.specs.List.{AllByRecursion, list_any}
use Rattle.std.specs.Option.{option_or}
use Rattle.std.proofs.lemmas.Bool.{and_parts, le-ltb, not-true, or_parts}
use Rattle.sql_base.specs.Kinds.{Kind, OfNumber, OfText, OfTruth}
use Rattle.sql_base.specs.Tables.{AreSets, IsAssign, Stores, all_differ}
use Rattle.sql_base.specs.declared.statements.Assign.{Assign}
use Rattle.sql_base.specs.declared.tables.ColumnKind.{ColumnKind}
use Rattle.sql_base.specs.declared.tables.ColumnKind.TheVariants.{Int, Char}
use Rattle.sql_base.specs.declared.tables.TableDef.{TableDef}
use Rattle.update_expressions.specs.Refusing.{fault_behind, fault_in, set_fault, first_set_fault, misfit}
use Rattle.update_expressions.specs.declared.faults.SetFault.{SetFault}
use Rattle.update_expressions.specs.declared.faults.SetFault.TheVariants.{KeyColumn, NoMemory, TextTooLong, Twice, UnknownColumn, WrongType}
use Rattle.update_expressions.proofs.Refused.{column_of}

-- the column is none of those before
not_before : (before rest : List Assign) (set : Assign) → all_differ nat_eq (map column_of (before ++ set ∷ rest)) ≡ true → list_any (λ (s : Assign). nat_eq s.column set.column) before ≡ false
not_before [] rest set h = refl
not_before (b ∷ before) rest set h =
    let parts = and_parts _ _ h in
    let other = differs b.column before (not-true _ parts.0) in
    rw other (not_before before rest set parts.1)
  where
    differs : (c : ℕ) (xs : List Assign) → list_any (nat_eq c) (map column_of (xs ++ set ∷ rest)) ≡ false → nat_eq c set.column ≡ false
    differs c [] g = (or_parts (nat_eq c set.column) (list_any (nat_eq c) (map column_of rest)) g).0
    differs c (x ∷ xs) g = differs c xs (or_parts (nat_eq c x.column) (list_any (nat_eq c) (map column_of (xs ++ set ∷ rest))) g).1

module _ (table : TableDef) where
  fits_there : (place : ℕ) (column : ColumnKind) (kind : Kind) → Stores column kind → misfit place column (Some kind) ≡ None
  fits_there place Int OfNumber h = refl
  fits_there place Int (OfText w) h = absurd h
  fits_there place Int OfTruth h = absurd h
  fits_there place (Char room) OfNumber h = absurd h
  fits_there place (Char room) OfTruth h = absurd h
  fits_there place (Char room) (OfText w) h = rw (le-ltb room w h) refl

  one_none : (before : List Assign) (set : Assign) → IsAssign table set → list_any (λ (s : Assign). nat_eq s.column set.column) before ≡ false → set_fault table before set ≡ None
  one_none before set is once =
      ap (fault_in table before set) is.2
      ∙ rw is.3 (rw once (ap (misfit (length before) is.0) is.5.typed ∙ fits_there (length before) is.0 is.1 is.4))

  none_behind : (before sets : List Assign) → AllByRecursion (IsAssign table) sets → all_differ nat_eq (map column_of (before ++ sets)) ≡ true → fault_behind table before sets ≡ None
  none_behind before [] each differ = refl
  none_behind before (set ∷ sets) each differ =
      let here = one_none before set each.0 (not_before before sets set differ) in
      let rest = none_behind (before ++ set ∷ []) sets each.1 (ap (λ (xs : List Assign). all_differ nat_eq (map column_of xs)) (append_assoc before (set ∷ []) sets) ∙ differ) in
      ap (λ o. option_or o (fault_behind table (before ++ set ∷ []) sets)) here ∙ rest

pub no_fault : (table : TableDef) (sets : List Assign) (fault : SetFault) → AreSets table sets → first_set_fault table sets ≢ Some fault
no_fault table sets fault are found = let none : first_set_fault table sets ≡ None = none_behind table [] sets are.each are.differ in absurd (cc (none, found))

-- a fault that isn't another is want of memory
pub memory_is : (fault : SetFault) → (fault ≢ NoMemory → ⊥) → fault ≡ NoMemory
memory_is NoMemory h = refl
memory_is (UnknownColumn place) h = absurd (h (λ same. absurd (cc same)))
memory_is (KeyColumn place) h = absurd (h (λ same. absurd (cc same)))
memory_is (Twice place) h = absurd (h (λ same. absurd (cc same)))
memory_is (WrongType place) h = absurd (h (λ same. absurd (cc same)))
memory_is (TextTooLong place) h = absurd (h (λ same. absurd (cc same)))
