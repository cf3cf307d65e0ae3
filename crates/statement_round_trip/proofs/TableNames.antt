-- The tables of a script are found by their names.
use Rattle.std.proofs.Common.{◌≡◌, ◌≤◌, ℕ, zero, suc, ◌+◌, List, [], ◌∷◌, length, map, Bool, true, false, Option, Some, None, cond, sym, ap, ◌∙◌, arith}
use Rattle.std.proofs.lemmas.Bool.Decides.{nat_tests}
use Rattle.std.proofs.lemmas.Slice.Eq.{bytes_eq-Decides}
use Rattle.std.specs.Prelude.{slice_get, nat_le, not}
use Rattle.std.specs.List.{list_any, AllByRecursion}
use Rattle.std.specs.Str.{bytes_eq}
use Rattle.sql_base.specs.Tables.{all_differ, IsTable}
use Rattle.sql_base.specs.declared.tables.TableDef.{TableDef}
use Rattle.statement_draft.specs.Names.{is_long, table_from, table_named}
use Rattle.statement_round_trip.proofs.Naming.{not_long}
use Rattle.sql_base.proofs.Truths.{both_hold, neither_holds, not-true, some-same}
use Rattle.statement_rules.proofs.StatementSteps.{table_sound}

-- each table is declared so that it may be, and is found by its name
pub record Declared (tables : List TableDef) (t : ℕ) (table : TableDef) : Type 0 where
  pub named : table_named tables table.name ≡ Some t
  pub short : is_long table.name ≡ false
  pub is : IsTable table

abbrev pub AreDeclared : List TableDef → Type 0
AreDeclared tables = (t : ℕ) (table : TableDef) → slice_get tables t ≡ Some table → Declared tables t table

no_table : (t : ℕ) (table : TableDef) → slice_get [] t ≡ Some table → ⊥
no_table zero table h = absurd cc
no_table (suc t) table h = absurd cc

abbrev names : List TableDef → List (List ℕ)
names tables = map (λ table. table.name) tables

other_name : (test : List ℕ → Bool) (xs : List TableDef) (t : ℕ) (table : TableDef) → list_any test (names xs) ≡ false → slice_get xs t ≡ Some table → test table.name ≡ false
other_name test [] t table none h = absurd (no_table t table h)
other_name test (x ∷ xs) zero table none h = ap (λ (y : TableDef). test y.name) (sym (some-same x table h)) ∙ (neither_holds (test x.name) (list_any test (names xs)) none).0
other_name test (x ∷ xs) (suc t) table none h = other_name test xs t table (neither_holds (test x.name) (list_any test (names xs)) none).1 h

few : (n k : ℕ) → n + suc k ≤ 4 → nat_le 4 n ≡ false
few n k h = grind (arith, nat_tests)

abbrev choice : Bool → Bool → ℕ → Option ℕ → Option ℕ
choice many same n later = cond many None (cond same (Some n) later)

here : (n : ℕ) (x : TableDef) (xs : List TableDef) (name : List ℕ) → nat_le 4 n ≡ false → table_from n (x ∷ xs) name ≡ choice false (bytes_eq x.name name) n (table_from (n + 1) xs name)
unfolding table_from
here n x xs name h = ap (λ (b : Bool). choice b (bytes_eq x.name name) n (table_from (n + 1) xs name)) h

named_from : (n t : ℕ) (xs : List TableDef) (table : TableDef) → n + length xs ≤ 4 → all_differ bytes_eq (names xs) ≡ true → slice_get xs t ≡ Some table
    → table_from n xs table.name ≡ Some (n + t)
named_from n t [] table most differ h = absurd (no_table t table h)
named_from n zero (x ∷ xs) table most differ h =
    let same : bytes_eq x.name table.name ≡ true = (bytes_eq-Decides x.name table.name).1 (ap (λ (y : TableDef). y.name) (some-same x table h)) in
    let up : n ≡ n + 0 = omega arith in
    here n x xs table.name (few n (length xs) most) ∙ ap (λ (b : Bool). choice false b n (table_from (n + 1) xs table.name)) same ∙ ap (λ (k : ℕ). Some k) up
named_from n (suc t) (x ∷ xs) table most differ h =
    let both = both_hold (not (list_any (bytes_eq x.name) (names xs))) (all_differ bytes_eq (names xs)) differ in
    let other = other_name (bytes_eq x.name) xs t table (not-true (list_any (bytes_eq x.name) (names xs)) both.0) h in
    let up : n + 1 + t ≡ n + suc t = omega arith in
    here n x xs table.name (few n (length xs) most) ∙ ap (λ (b : Bool). choice false b n (table_from (n + 1) xs table.name)) other
    ∙ named_from (n + 1) t xs table (omega arith) both.1 h ∙ ap (λ (k : ℕ). Some k) up

zero_on : (t : ℕ) → Some (0 + t) ≡ Some t
zero_on t = let e : 0 + t ≡ t = omega arith in ap (λ (k : ℕ). Some k) e

pub are_declared : (tables : List TableDef) → length tables ≤ 4 → AllByRecursion IsTable tables → all_differ bytes_eq (map (λ table. table.name) tables) ≡ true → AreDeclared tables
are_declared tables most all differ t table h = let is = table_sound tables t table all h in record {
  named = named_from 0 t tables table (omega (arith, most)) differ h ∙ zero_on t;
  short = not_long table.name is.name.short;
  is = is;
}
