-- The values of a row fit its columns as they are printed.
use Rattle.std.proofs.Common.{◌≡◌, ◌≤◌, ◌<◌, ℕ, zero, suc, List, [], ◌∷◌, ◌++◌, length, take, map, Bool, true, false, Some, None, cond, refl, sym, ap, subst, ◌∙◌, append_assoc, arith}
use Rattle.std.proofs.lemmas.Bool.Decides.{nat_tests}
use Rattle.std.specs.Prelude.{nat_eq, nat_lt, not, slice_get, ◌==◌, ◌&&◌}
use Rattle.std.specs.List.{AllByRecursion}
use Rattle.sql_base.specs.Rows.{are_of_kinds, is_of_kind, is_printable, kinds, padded}
use Rattle.sql_base.specs.Tables.{AreColumns}
use Rattle.sql_base.specs.declared.tables.Column.{Column}
use Rattle.sql_base.specs.declared.tables.ColumnKind.{ColumnKind}
use Rattle.sql_base.specs.declared.tables.ColumnKind.TheVariants.{Int, Char}
use Rattle.sql_base.specs.declared.tables.TableDef.{TableDef}
use Rattle.sql_base.specs.declared.values.Value.{Value}
use Rattle.sql_base.specs.declared.values.Value.TheVariants as value
use Rattle.statement_draft.specs.declared.draft.RowOf.{RowOf}
use Rattle.statement_draft.specs.declared.draft.RowOf.TheVariants as row_of
use Rattle.statement_draft.specs.declared.faults.Reason.TheVariants.{TextTooLong}
use Rattle.statement_printer.specs.Printing.{length_unblanked, value_words}
use Rattle.statement_round_trip.proofs.Padding.{padded_back}
use Rattle.statement_round_trip.proofs.RowsRead.{AllFit, Fits, IsShort, PrintsAs}
use Rattle.sql_base.proofs.Truths.{both_hold}

-- a value as a record's literal: a text without its last blanks
abbrev pub unpadded : Value → Value
unpadded (value.Int n) = value.Int n
unpadded (value.Text text) = value.Text (take (length_unblanked text) text)

pub prints_unpadded : PrintsAs value_words unpadded
prints_unpadded (value.Int n) = refl
prints_unpadded (value.Text text) = refl

pub take_short : (n : ℕ) (text : List ℕ) → length (take n text) ≤ length text
take_short zero text = omega arith
take_short (suc n) [] = omega arith
take_short (suc n) (b ∷ bs) = let h = take_short n bs in omega (arith, h)

no_longer : (n : ℕ) (text : List ℕ) → length text ≡ n → cond (nat_lt n (length (take (length_unblanked text) text))) (Some TextTooLong) None ≡ None
no_longer n text h =
    let short = take_short (length_unblanked text) text in
    let test : nat_lt n (length (take (length_unblanked text) text)) ≡ false = grind (arith, nat_tests, h, short) in
    ap (λ (b : Bool). cond b (Some TextTooLong) None) test

fills_up : (n : ℕ) (text : List ℕ) → length text ≡ n → value.Text (padded n (take (length_unblanked text) text)) ≡ value.Text text
fills_up n text h = ap (λ (k : ℕ). value.Text (padded k (take (length_unblanked text) text))) (sym h) ∙ ap (λ (t : List ℕ). value.Text t) (padded_back text)

pub as_long : (n : ℕ) (text : List ℕ) → ((length text == n) && is_printable text) ≡ true → length text ≡ n
as_long n text h = let both = both_hold (length text == n) (is_printable text) h in grind (arith, nat_tests, both.0)

-- rows whose texts are filled up
abbrev pub FillsUp : RowOf → Type 0
FillsUp of = (k : ColumnKind) (v : Value) → is_of_kind k v ≡ true → Fits of k (unpadded v) v × IsShort (unpadded v)

pub load_fills : FillsUp row_of.Load
load_fills Int (value.Int n) h = (record { fault = refl; fills = refl }, h)
load_fills Int (value.Text text) h = absurd (cc (h))
load_fills (Char n) (value.Int m) h = absurd (cc (h))
load_fills (Char n) (value.Text text) h = let e = as_long n text h in (record { fault = no_longer n text e; fills = fills_up n text e }, tt)

pub insert_fills : FillsUp row_of.Insert
insert_fills Int (value.Int n) h = (record { fault = refl; fills = refl }, h)
insert_fills Int (value.Text text) h = absurd (cc (h))
insert_fills (Char n) (value.Int m) h = absurd (cc (h))
insert_fills (Char n) (value.Text text) h = let e = as_long n text h in (record { fault = no_longer n text e; fills = fills_up n text e }, tt)

pub at_front : (front : List ColumnKind) (k : ColumnKind) (rest : List ColumnKind) → slice_get (front ++ k ∷ rest) (length front) ≡ Some k
at_front [] k rest = refl
at_front (x ∷ front) k rest = at_front front k rest

pub one_longer : {A : Type 0} → (xs : List A) (x : A) → length (xs ++ x ∷ []) ≡ suc (length xs)
one_longer [] x = refl
one_longer (y ∷ xs) x = ap suc (one_longer xs x)

fit_behind : (of : RowOf) → FillsUp of → (front rest : List ColumnKind) (before vs : List Value) → length front ≡ length before → are_of_kinds rest vs ≡ true
    → AllFit of unpadded (front ++ rest) before vs
fit_behind of fills front rest before [] same h = tt
fit_behind of fills front [] before (v ∷ vs) same h = absurd (cc (h))
fit_behind of fills front (k ∷ rest) before (v ∷ vs) same h =
    let both = both_hold (is_of_kind k v) (are_of_kinds rest vs) h in
    let f = fills k v both.0 in
    let long : length (front ++ k ∷ []) ≡ length (before ++ v ∷ []) = one_longer front k ∙ ap suc same ∙ sym (one_longer before v) in
    let more = fit_behind of fills (front ++ k ∷ []) rest (before ++ v ∷ []) vs long both.1 in (
      (k, subst (λ (n : ℕ). slice_get (front ++ k ∷ rest) n ≡ Some k) same (at_front front k rest), f.0, f.1),
      subst (λ (ks : List ColumnKind). AllFit of unpadded ks (before ++ v ∷ []) vs) (append_assoc front (k ∷ []) rest) more,
    )

pub all_fit : (of : RowOf) → FillsUp of → (ks : List ColumnKind) (vs : List Value) → are_of_kinds ks vs ≡ true → AllFit of unpadded ks [] vs
all_fit of fills ks vs h = fit_behind of fills [] ks [] vs refl h

as_many : (ks : List ColumnKind) (vs : List Value) → are_of_kinds ks vs ≡ true → length vs ≡ length ks
as_many [] [] h = refl
as_many [] (v ∷ vs) h = absurd (cc (h))
as_many (k ∷ ks) [] h = absurd (cc (h))
as_many (k ∷ ks) (v ∷ vs) h = ap suc (as_many ks vs (both_hold (is_of_kind k v) (are_of_kinds ks vs) h).1)

-- a row has as many values as its table has columns
pub counts : (ks : List ColumnKind) (vs : List Value) → are_of_kinds ks vs ≡ true → not (nat_eq (length vs) (length ks)) ≡ false
counts ks vs h = let e = as_many ks vs h in grind (arith, nat_tests, e)

no_column : (columns : List Column) (key : List ℕ) → are_of_kinds (map (λ column. column.kind) columns) [] ≡ true → 0 < length key → AllByRecursion (λ c. c < length columns) key → ⊥
no_column columns [] h some within = absurd (omega (arith, some))
no_column [] (c ∷ key) h some within = absurd (omega (arith, within.0))
no_column (column ∷ columns) (c ∷ key) h some within = absurd (cc (h))

-- and it has one
pub some_value : (table : TableDef) → AreColumns table table.key → are_of_kinds (kinds table) [] ≡ true → ⊥
some_value table key h = no_column table.columns table.key h key.some key.within
