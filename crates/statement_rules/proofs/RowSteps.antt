-- What the words of a row leave: values that fit the kinds that they are for.
use Rattle.std.proofs.Common.{◌≡◌, ◌≤◌, ◌<◌, ◌-◌, ℕ, zero, suc, pos, ◌^◌, min, ◌&&◌, ◌==◌, List, [], ◌∷◌, ◌++◌, length, Bool, true, false, Option, Some, None, refl, sym, ap, subst, ◌∙◌, arith}
use Rattle.std.specs.Prelude.{nat_lt, nat_le, slice_get, replicate, option_and_then, if◌then◌else◌}
use Rattle.std.specs.Int.{is_in_range}
use Rattle.std.proofs.lemmas.Bool.Decides.{nat_tests}
use Rattle.std.proofs.lemmas.List.{length-append}
use Rattle.std.proofs.lemmas.List.Folds.{list_all-append}
use Rattle.sql_base.specs.Rows.{in_i64, is_printable, is_of_kind, are_of_kinds, padded}
use Rattle.sql_base.specs.Tables.{is_literal_of, are_leading}
use Rattle.sql_base.specs.declared.tables.ColumnKind.{ColumnKind}
use Rattle.sql_base.specs.declared.tables.ColumnKind.TheVariants.{Int, Char}
use Rattle.sql_base.specs.declared.values.Value.{Value}
use Rattle.sql_base.specs.declared.values.Value.TheVariants as value
use Rattle.statement_draft.specs.Faults.{noted, noted_as}
use Rattle.statement_draft.specs.Names.{is_wide}
use Rattle.statement_draft.specs.RowEvents.{fitted, literal_fault, next_kind, wrong_with, literal_came, number_came, negative, negative_came}
use Rattle.statement_draft.specs.declared.faults.Fault.{Fault}
use Rattle.statement_draft.specs.declared.faults.Reason.{Reason}
use Rattle.statement_draft.specs.declared.faults.Reason.TheVariants.{NumberTooWide}
use Rattle.statement_draft.specs.declared.draft.Draft.{Draft}
use Rattle.statement_draft.specs.declared.draft.NewRow.{NewRow}
use Rattle.statement_draft.specs.declared.draft.RowOf.{RowOf}
use Rattle.statement_draft.specs.declared.draft.RowOf.TheVariants as row_of
use Rattle.statement_draft.proofs.Clean.{sooner-some}
use Rattle.statement_draft.proofs.Summaries.{negative_fits}
use Rattle.sql_base.proofs.Truths.{and_left, and_right, and_true}
use Rattle.sql_base.proofs.RowFacts.{blanks-printable, padded-length}

-- a value that a row may hold for a column: a literal of a key column, or what the column stores
abbrev pub fits_one : RowOf → ColumnKind → Value → Bool
fits_one row_of.FirstKey kind v = is_literal_of kind v
fits_one row_of.Load kind v = is_of_kind kind v
fits_one row_of.Insert kind v = is_of_kind kind v

-- values past the last kind are counted later, but for those of a first key
abbrev pub fits_past : RowOf → Bool
fits_past row_of.FirstKey = false
fits_past row_of.Load = true
fits_past row_of.Insert = true

abbrev pub fits_row : RowOf → List ColumnKind → List Value → Bool
fits_row of kinds [] = true
fits_row of (k ∷ kinds) (v ∷ values) = fits_one of k v && fits_row of kinds values
fits_row of [] (v ∷ values) = fits_past of

abbrev fits_at : RowOf → Option ColumnKind → Value → Bool
fits_at of (Some kind) v = fits_one of kind v
fits_at of None v = fits_past of

fits_more : (of : RowOf) (kinds : List ColumnKind) (values : List Value) (v : Value) → fits_row of kinds values ≡ true → fits_at of (slice_get kinds (length values)) v ≡ true
    → fits_row of kinds (values ++ v ∷ []) ≡ true
fits_more of (k ∷ kinds) [] v h e = and_true (fits_one of k v) true e refl
fits_more of [] [] v h e = e
fits_more of (k ∷ kinds) (x ∷ values) v h e =
    and_true (fits_one of k x) _ (and_left (fits_one of k x) _ h) (fits_more of kinds values v (and_right (fits_one of k x) _ h) e)
fits_more of [] (x ∷ values) v h e = h

-- a value as words give it
abbrev pub IsGiven : Value → Type 0
IsGiven (value.Int n) = in_i64 n ≡ true
IsGiven (value.Text text) = is_printable text ≡ true

printable_padded : (n : ℕ) (text : List ℕ) → is_printable text ≡ true → is_printable (padded n text) ≡ true
printable_padded n text h = list_all-append (is_in_range 32 126) text (replicate (n - length text) 32) ∙ and_true (is_printable text) _ h (blanks-printable (n - length text))

length_blanks : (n : ℕ) → length {A = ℕ} (replicate n 32) ≡ n
length_blanks zero = refl
length_blanks (suc n) = let later = length_blanks n in omega (arith, later)

pub no_reason : (b : Bool) (r : Reason) → (if b then Some r else None) ≡ None → b ≡ false
no_reason true r h = absurd (cc (h))
no_reason false r h = refl

stored_text : (n : ℕ) (text : List ℕ) → is_printable text ≡ true → nat_lt n (length text) ≡ false → is_of_kind (Char n) (value.Text (padded n text)) ≡ true
stored_text n text h short =
    let long = padded-length n text (grind (arith, nat_tests, short)) in
    and_true (length (padded n text) == n) _ (grind (arith, nat_tests, long)) (printable_padded n text h)

literal_fits : (of : RowOf) (kind : Option ColumnKind) (v : Value) → IsGiven v → literal_fault of kind v ≡ None → fits_at of kind (fitted of kind v) ≡ true
literal_fits row_of.FirstKey None v g h = absurd (cc (h))
literal_fits row_of.FirstKey (Some Int) (value.Int n) g h = g
literal_fits row_of.FirstKey (Some Int) (value.Text text) g h = absurd (cc (h))
literal_fits row_of.FirstKey (Some (Char n)) (value.Int m) g h = absurd (cc (h))
literal_fits row_of.FirstKey (Some (Char n)) (value.Text text) g h =
    let short = no_reason (nat_lt n (length text)) _ h in
    and_true (nat_le (length text) n) _ (grind (arith, nat_tests, short)) g
literal_fits row_of.Load None (value.Int n) g h = refl
literal_fits row_of.Load None (value.Text text) g h = refl
literal_fits row_of.Load (Some Int) (value.Int n) g h = g
literal_fits row_of.Load (Some Int) (value.Text text) g h = absurd (cc (h))
literal_fits row_of.Load (Some (Char n)) (value.Int m) g h = absurd (cc (h))
literal_fits row_of.Load (Some (Char n)) (value.Text text) g h = stored_text n text g (no_reason (nat_lt n (length text)) _ h)
literal_fits row_of.Insert None (value.Int n) g h = refl
literal_fits row_of.Insert None (value.Text text) g h = refl
literal_fits row_of.Insert (Some Int) (value.Int n) g h = g
literal_fits row_of.Insert (Some Int) (value.Text text) g h = absurd (cc (h))
literal_fits row_of.Insert (Some (Char n)) (value.Int m) g h = absurd (cc (h))
literal_fits row_of.Insert (Some (Char n)) (value.Text text) g h = stored_text n text g (no_reason (nat_lt n (length text)) _ h)

-- a row of all its kinds is one of them
pub row_of_kinds : (kinds : List ColumnKind) (values : List Value) → fits_row row_of.Load kinds values ≡ true → length values ≡ length kinds → are_of_kinds kinds values ≡ true
row_of_kinds [] [] h e = refl
row_of_kinds (k ∷ kinds) [] h e = absurd (omega (arith, e))
row_of_kinds [] (v ∷ values) h e = absurd (omega (arith, e))
row_of_kinds (k ∷ kinds) (v ∷ values) h e =
    and_true (is_of_kind k v) _ (and_left (is_of_kind k v) _ h) (row_of_kinds kinds values (and_right (is_of_kind k v) _ h) (omega (arith, e)))

pub row_for_insert : (kinds : List ColumnKind) (values : List Value) → fits_row row_of.Insert kinds values ≡ true → fits_row row_of.Load kinds values ≡ true
row_for_insert kinds [] h = refl
row_for_insert [] (v ∷ values) h = refl
row_for_insert (k ∷ kinds) (v ∷ values) h =
    and_true (is_of_kind k v) _ (and_left (is_of_kind k v) _ h) (row_for_insert kinds values (and_right (is_of_kind k v) _ h))

pub row_of_literals : (kinds : List ColumnKind) (values : List Value) → fits_row row_of.FirstKey kinds values ≡ true → are_leading kinds values ≡ true
row_of_literals kinds [] h = refl
row_of_literals [] (v ∷ values) h = h
row_of_literals (k ∷ kinds) (v ∷ values) h =
    and_true (is_literal_of k v) _ (and_left (is_literal_of k v) _ h) (row_of_literals kinds values (and_right (is_literal_of k v) _ h))

-- values more in the row, and nothing else but faults
pub record RowStep (d e : Draft) : Type 0 where
  pub row : NewRow
  pub first : Option Fault
  pub same : e ≡ record d { row = row; first = first }
  pub of : row.of ≡ d.row.of
  pub kinds : row.kinds ≡ d.row.kinds
  pub more : length d.row.values ≤ length row.values
  pub fits : (kinds : List ColumnKind) → d.row.kinds ≡ Some kinds → fits_row d.row.of kinds d.row.values ≡ true → fits_row d.row.of kinds row.values ≡ true

-- a row was read anew
pub record RowRead (d e : Draft) : Type 0 where
  pub row : NewRow
  pub first : Option Fault
  pub same : e ≡ record d { row = row; first = first }
  pub of : row.of ≡ d.row.of
  pub kinds : row.kinds ≡ d.row.kinds
  pub some : 0 < length row.values
  pub fits : (kinds : List ColumnKind) → d.row.kinds ≡ Some kinds → fits_row d.row.of kinds row.values ≡ true

pub no_step : (d : Draft) → RowStep d d
no_step d = record { row = d.row; first = d.first; same = refl; of = refl; kinds = refl; more = omega arith; fits = λ kinds h f. f }

abbrev pub steps : (d e g : Draft) → RowStep d e → RowStep e g → RowStep d g
steps d e g s t =
    let row_is : e.row ≡ s.row = ap (λ (x : Draft). x.row) s.same in
    let of_is : e.row.of ≡ d.row.of = ap (λ (r : NewRow). r.of) row_is ∙ s.of in
    let kinds_are : e.row.kinds ≡ d.row.kinds = ap (λ (r : NewRow). r.kinds) row_is ∙ s.kinds in
    let one = s.more in
    let two = t.more in
    let long : length e.row.values ≡ length s.row.values = ap (λ (r : NewRow). length r.values) row_is in
    record {
      row = t.row;
      first = t.first;
      same = t.same ∙ ap (λ (x : Draft). record x { row = t.row; first = t.first }) s.same;
      of = t.of ∙ of_is;
      kinds = t.kinds ∙ kinds_are;
      more = omega (arith, one, two, long);
      fits = λ kinds h f. subst (λ (o : RowOf). fits_row o kinds t.row.values ≡ true) of_is
          (t.fits kinds (kinds_are ∙ h) (subst (λ (o : RowOf). fits_row o kinds e.row.values ≡ true) (sym of_is)
          (subst (λ (r : NewRow). fits_row d.row.of kinds r.values ≡ true) (sym row_is) (s.fits kinds h f))));
    }

pub as_none : (r : Option Reason) (at : ℕ) (f : Option Fault) → noted_as r at f ≡ None → r ≡ None
as_none None at f h = refl
as_none (Some r) at f h = absurd (sooner-some f _ h)

-- one literal more
pub record Longer (d e : Draft) : Type 0 where
  pub step : RowStep d e
  pub one : length d.row.values < length step.row.values

known_kind : (row : NewRow) (kinds : List ColumnKind) → row.kinds ≡ Some kinds → next_kind row ≡ slice_get kinds (length row.values)
known_kind row kinds h = ap (option_and_then (λ ks. slice_get ks (length row.values))) h

known_fault : (row : NewRow) (kinds : List ColumnKind) (v : Value) → row.kinds ≡ Some kinds → wrong_with row v ≡ literal_fault row.of (slice_get kinds (length row.values)) v
known_fault row kinds v h = ap (option_and_then (λ ks. literal_fault row.of (slice_get ks (length row.values)) v)) h

pub literal_step : (v : Value) (at : ℕ) (d : Draft) → IsGiven v → (literal_came v at d).first ≡ None → Longer d (literal_came v at d)
literal_step v at d given h =
    let right = as_none (wrong_with d.row v) at d.first h in
    let longer = length-append d.row.values (fitted d.row.of (next_kind d.row) v ∷ []) in
    record {
      step = record {
        row = record d.row { values = d.row.values ++ fitted d.row.of (next_kind d.row) v ∷ [] };
        first = noted_as (wrong_with d.row v) at d.first;
        same = refl;
        of = refl;
        kinds = refl;
        more = omega (arith, longer);
        fits = λ kinds k f. fits_more d.row.of kinds d.row.values (fitted d.row.of (next_kind d.row) v) f
            (subst (λ (o : Option ColumnKind). fits_at d.row.of (slice_get kinds (length d.row.values)) (fitted d.row.of o v) ≡ true) (sym (known_kind d.row kinds k))
            (literal_fits d.row.of (slice_get kinds (length d.row.values)) v given (sym (known_fault d.row kinds v k) ∙ right)));
      };
      one = omega (arith, longer);
    }

narrow_given : (n : ℕ) → in_i64 (pos (min n (2 ^ 63 - 1))) ≡ true
narrow_given n = grind (arith, nat_tests)

-- behind a fault that isn't noted
pub behind_first : (d : Draft) (f : Option Fault) (e : Draft) → Longer (record d { first = f }) e → Longer d e
behind_first d f e l = record {
  step = record {
    row = l.step.row;
    first = l.step.first;
    same = l.step.same;
    of = l.step.of;
    kinds = l.step.kinds;
    more = l.step.more;
    fits = l.step.fits;
  };
  one = l.one;
}

pub number_step : (n at : ℕ) (d : Draft) → (number_came n at d).first ≡ None → Longer d (number_came n at d)
number_step n at d h =
    behind_first d _ (number_came n at d)
    (literal_step (value.Int (pos (min n (2 ^ 63 - 1)))) at (record d { first = noted (is_wide n) NumberTooWide at d.first }) (narrow_given n) h)

pub negative_step : (n : ℕ) (d : Draft) → (negative_came n d).first ≡ None → Longer d (negative_came n d)
negative_step n d h = literal_step (value.Int (negative n)) d.row.minus d (negative_fits n) h

-- a place is kept before
pub behind_minus : (d : Draft) (at : ℕ) (e : Draft) → Longer (record d { row = record d.row { minus = at } }) e → Longer d e
behind_minus d at e l = record {
  step = record {
    row = l.step.row;
    first = l.step.first;
    same = l.step.same;
    of = l.step.of;
    kinds = l.step.kinds;
    more = l.step.more;
    fits = l.step.fits;
  };
  one = l.one;
}
