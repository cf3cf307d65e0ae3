-- A SET list applied, one assignment after the other.
use Rattle.std.proofs.Common.{◌≡◌, ◌<◌, ℕ, ◌+◌, zero, suc, List, [], ◌∷◌, length, drop, get_or, map, Some, true, Ok, Err, refl, ap, sym, subst, ◌∙◌}
use Rattle.std.specs.Prelude.{slice_get, slice_set, option_map, unwrap_or, ◌==◌}
use Rattle.std.proofs.lemmas.Bool.{and_parts, eqb-true}
use Rattle.std.proofs.lemmas.Option.{same_Some, slice_get-map, slice_get_read}
use Rattle.sql_base.specs.Kinds.{Kind, OfNumber, OfText, OfTruth}
use Rattle.sql_base.specs.OnRows.{assigned, stored, then_with}
use Rattle.sql_base.specs.Rows.{is_of_kind, are_of_kinds, is_printable, kinds, padded, width, IsRow}
use Rattle.sql_base.specs.Tables.{IsAssign, Stores}
use Rattle.sql_base.specs.Val.{Item, IsNumber, IsText, IsTruth, IsNothing, val}
use Rattle.sql_base.specs.declared.faults.EvalFault.{EvalFault}
use Rattle.sql_base.specs.declared.statements.Assign.{Assign}
use Rattle.sql_base.specs.declared.tables.ColumnKind.{ColumnKind}
use Rattle.sql_base.specs.declared.tables.ColumnKind.TheVariants.{Int, Char}
use Rattle.sql_base.specs.declared.tables.TableDef.{TableDef}
use Rattle.sql_base.specs.declared.values.Value.{Value}
use Rattle.sql_base.specs.declared.values.Value.TheVariants as value
use Rattle.predicate_codes.proofs.Typed.{IsOf, val-typed}
use Rattle.update_expressions.specs.Entries.{set_in}
use Rattle.update_expressions.specs.Storing.{value_over}
use Rattle.update_expressions.specs.declared.verifying.VerifiedSet.{VerifiedSet}
use Rattle.sql_base.proofs.ListFacts.{drop-at}

-- the assignment of a verified one at a place
pub set_at : (sets : List VerifiedSet) (i : ℕ) (set : VerifiedSet) → i < length sets → set ≡ get_or sets i set → slice_get (map set_in sets) i ≡ Some (set_in set)
set_at sets i set within is = slice_get-map set_in sets i ∙ ap (option_map set_in) (slice_get_read sets (length sets) i set refl within is)

value_at : (ks : List ColumnKind) (row : List Value) (i : ℕ) (k : ColumnKind) (v : Value) → are_of_kinds ks row ≡ true → slice_get ks i ≡ Some k → slice_get row i ≡ Some v → is_of_kind k v ≡ true
value_at [] row i k v is at there = absurd (cc)
value_at (j ∷ ks) [] i k v is at there = absurd (cc)
value_at (j ∷ ks) (w ∷ row) zero k v is at there = subst (λ z. is_of_kind z v ≡ true) (same_Some j k at) (subst (λ z. is_of_kind j z ≡ true) (same_Some w v there) (and_parts (is_of_kind j w) (are_of_kinds ks row) is).0)
value_at (j ∷ ks) (w ∷ row) (suc i) k v is at there = value_at ks row i k v (and_parts (is_of_kind j w) (are_of_kinds ks row) is).1 at there

module _ (table : TableDef) (old : List Value) (is_old : IsRow table old) where
  -- what is stored over a value of the old row is what the definition stores in its column
  over : (c : ℕ) (column : ColumnKind) (kind : Kind) (item : Item) (before : Value) (new : List Value) → slice_get (kinds table) c ≡ Some column → is_of_kind column before ≡ true → Stores column kind → IsOf kind (Ok item)
      → slice_set new c (value_over before item) ≡ stored table c new item
  over c Int OfNumber (IsNumber n) before new at is stores of = refl
  over c (Char w) (OfText m) (IsText text) (value.Text blank) new at is stores of =
      let size : unwrap_or (option_map width (slice_get (kinds table) c)) 0 ≡ w = ap (λ o. unwrap_or (option_map width o) 0) at in
      let long : length blank ≡ w = eqb-true (length blank) w (and_parts (length blank == w) (is_printable blank) is).0 in
      ap (λ n. slice_set new c (value.Text (padded n text))) (long ∙ sym size)
  over c (Char w) (OfText m) (IsText text) (value.Int n) new at is stores of = absurd (cc)
  over c Int OfNumber (IsText text) before new at is stores of = absurd of
  over c Int OfNumber (IsTruth b) before new at is stores of = absurd of
  over c Int OfNumber IsNothing before new at is stores of = absurd of
  over c Int (OfText m) item before new at is stores of = absurd stores
  over c Int OfTruth item before new at is stores of = absurd stores
  over c (Char w) (OfText m) (IsNumber n) before new at is stores of = absurd of
  over c (Char w) (OfText m) (IsTruth b) before new at is stores of = absurd of
  over c (Char w) (OfText m) IsNothing before new at is stores of = absurd of
  over c (Char w) OfNumber item before new at is stores of = absurd stores
  over c (Char w) OfTruth item before new at is stores of = absurd stores

  -- one assignment with its value
  pub assigned-goes : (sets : List Assign) (i : ℕ) (set : Assign) (item : Item) (before : Value) (new : List Value) → slice_get sets i ≡ Some set → IsAssign table set
      → val set.value old ≡ Ok item → slice_get old set.column ≡ Some before
      → assigned table old (drop (i + 1) sets) (slice_set new set.column (value_over before item)) ≡ assigned table old (drop i sets) new
  assigned-goes sets i set item before new at assign value there =
      let of : IsOf assign.1 (Ok item) = subst (IsOf assign.1) value (val-typed table old is_old set.value assign.1 assign.5.typed) in
      let fits = value_at (kinds table) old set.column assign.0 before is_old assign.2 there in
      sym (ap (λ (xs : List Assign). assigned table old xs new) (drop-at sets i set at)
      ∙ ap (λ o. then_with o (λ it. assigned table old (drop (i + 1) sets) (stored table set.column new it))) value
      ∙ ap (assigned table old (drop (i + 1) sets)) (sym (over set.column assign.0 assign.1 item before new assign.2 fits assign.4 of)))

-- one that faults
pub assigned-faults : (table : TableDef) (old : List Value) (sets : List Assign) (i : ℕ) (set : Assign) (fault : EvalFault) (new : List Value) → slice_get sets i ≡ Some set
    → val set.value old ≡ Err fault → assigned table old (drop i sets) new ≡ Err fault
assigned-faults table old sets i set fault new at value =
    ap (λ (xs : List Assign). assigned table old xs new) (drop-at sets i set at)
    ∙ ap (λ o. then_with o (λ it. assigned table old (drop (i + 1) sets) (stored table set.column new it))) value
