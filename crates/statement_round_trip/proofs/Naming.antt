-- The columns of a table are found by their names.
use Rattle.std.proofs.Common.{◌≡◌, ◌≤◌, ℕ, zero, suc, ◌+◌, List, [], ◌∷◌, length, map, Bool, true, false, Option, Some, None, cond, sym, ap, subst, ◌∙◌, arith}
use Rattle.std.proofs.lemmas.Bool.Decides.{nat_tests}
use Rattle.std.proofs.lemmas.Slice.Eq.{bytes_eq-Decides}
use Rattle.std.specs.Prelude.{slice_get, nat_le, not}
use Rattle.std.specs.List.{list_any, AllByRecursion}
use Rattle.std.specs.Str.{bytes_eq}
use Rattle.sql_base.specs.Tables.{all_differ}
use Rattle.sql_base.specs.declared.tables.Column.{Column}
use Rattle.sql_base.specs.Names.{IsName, IsShortName}
use Rattle.statement_draft.specs.Names.{is_long, column_from}
use Rattle.statement_round_trip.specs.Rereading.{ColumnsNamed}
use Rattle.sql_base.proofs.Truths.{both_hold, neither_holds, not-true, some-same}

no_column : (c : ℕ) (column : Column) → slice_get [] c ≡ Some column → ⊥
no_column zero column h = absurd cc
no_column (suc c) column h = absurd cc

abbrev names : List Column → List (List ℕ)
names columns = map (λ column. column.name) columns

other_name : (test : List ℕ → Bool) (xs : List Column) (c : ℕ) (column : Column) → list_any test (names xs) ≡ false → slice_get xs c ≡ Some column → test column.name ≡ false
other_name test [] c column none h = absurd (no_column c column h)
other_name test (x ∷ xs) zero column none h = ap (λ (y : Column). test y.name) (sym (some-same x column h)) ∙ (neither_holds (test x.name) (list_any test (names xs)) none).0
other_name test (x ∷ xs) (suc c) column none h = other_name test xs c column (neither_holds (test x.name) (list_any test (names xs)) none).1 h

few : (n k : ℕ) → n + suc k ≤ 32 → nat_le 32 n ≡ false
few n k h = grind (arith, nat_tests)

abbrev choice : Bool → Bool → ℕ → Option ℕ → Option ℕ
choice many same n later = cond many None (cond same (Some n) later)

here : (n : ℕ) (x : Column) (xs : List Column) (name : List ℕ) → nat_le 32 n ≡ false → column_from n (x ∷ xs) name ≡ choice false (bytes_eq x.name name) n (column_from (n + 1) xs name)
unfolding column_from
here n x xs name h = ap (λ (b : Bool). choice b (bytes_eq x.name name) n (column_from (n + 1) xs name)) h

named_from : (n c : ℕ) (xs : List Column) (column : Column) → n + length xs ≤ 32 → all_differ bytes_eq (names xs) ≡ true → slice_get xs c ≡ Some column
    → column_from n xs column.name ≡ Some (n + c)
named_from n c [] column most differ h = absurd (no_column c column h)
named_from n zero (x ∷ xs) column most differ h =
    let same : bytes_eq x.name column.name ≡ true = (bytes_eq-Decides x.name column.name).1 (ap (λ (y : Column). y.name) (some-same x column h)) in
    let up : n ≡ n + 0 = omega arith in
    here n x xs column.name (few n (length xs) most) ∙ ap (λ (b : Bool). choice false b n (column_from (n + 1) xs column.name)) same ∙ ap (λ (k : ℕ). Some k) up
named_from n (suc c) (x ∷ xs) column most differ h =
    let both = both_hold (not (list_any (bytes_eq x.name) (names xs))) (all_differ bytes_eq (names xs)) differ in
    let other = other_name (bytes_eq x.name) xs c column (not-true (list_any (bytes_eq x.name) (names xs)) both.0) h in
    let up : n + 1 + c ≡ n + suc c = omega arith in
    here n x xs column.name (few n (length xs) most) ∙ ap (λ (b : Bool). choice false b n (column_from (n + 1) xs column.name)) other
    ∙ named_from (n + 1) c xs column (omega arith) both.1 h ∙ ap (λ (k : ℕ). Some k) up

short_name : (xs : List Column) (c : ℕ) (column : Column) → AllByRecursion (λ y. length y.name ≤ 30) xs → slice_get xs c ≡ Some column → length column.name ≤ 30
short_name [] c column all h = absurd (no_column c column h)
short_name (x ∷ xs) zero column all h = subst (λ (y : Column). length y.name ≤ 30) (some-same x column h) all.0
short_name (x ∷ xs) (suc c) column all h = short_name xs c column all.1 h

all_short : (xs : List Column) → AllByRecursion (λ y. IsShortName y.name) xs → AllByRecursion (λ y. length y.name ≤ 30) xs
all_short [] h = tt
all_short (x ∷ xs) h = (h.0.short, all_short xs h.1)

pub not_long : (name : List ℕ) → length name ≤ 30 → is_long name ≡ false
not_long name h = grind (arith, nat_tests)

-- a name that a column has
pub name_at : (xs : List Column) (c : ℕ) (column : Column) → AllByRecursion (λ y. IsShortName y.name) xs → slice_get xs c ≡ Some column → IsName column.name
name_at [] c column all h = absurd (no_column c column h)
name_at (x ∷ xs) zero column all h = subst (λ (y : Column). IsName y.name) (some-same x column h) all.0.name
name_at (x ∷ xs) (suc c) column all h = name_at xs c column all.1 h

pub columns_named : ColumnsNamed
columns_named table t c column h = (named_from 0 c table.columns column (omega (arith, t.columns)) t.names_differ h ∙ zero_on c, not_long column.name (short_name table.columns c column (all_short table.columns t.column_names) h))
  where
    zero_on : (c : ℕ) → Some (0 + c) ≡ Some c
    zero_on c = let e : 0 + c ≡ c = omega arith in ap (λ (k : ℕ). Some k) e
