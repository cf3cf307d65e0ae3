-- Lists of places and names, and one more in them.
use Rattle.std.proofs.Common.{◌≡◌, ℕ, ◌+◌, ◌<◌, ◌≤◌, ◌&&◌, ◌||◌, not, List, [], ◌∷◌, ◌++◌, length, map, Bool, true, false, Option, Some, None, refl, ap, ◌∙◌, arith}
use Rattle.std.specs.Prelude.{nat_le, nat_eq, sum_by, slice_get, option_map, if◌then◌else◌}
use Rattle.std.specs.List.{list_any, AllByRecursion, cons_option}
use Rattle.std.specs.Str.{bytes_eq}
use Rattle.std.proofs.lemmas.Bool.Decides.{nat_tests}
use Rattle.std.proofs.lemmas.List.Elements.{filter_map-append}
use Rattle.std.proofs.lemmas.List.Sums.{sum_by-append}
use Rattle.std.proofs.lemmas.Option.{slice_get-map}
use Rattle.sql_base.specs.Rows.{width, chosen}
use Rattle.sql_base.specs.Tables.{all_differ}
use Rattle.sql_base.specs.declared.tables.Column.{Column}
use Rattle.sql_base.specs.declared.tables.ColumnKind.{ColumnKind}
use Rattle.sql_base.specs.declared.tables.TableDef.{TableDef}
use Rattle.statement_draft.specs.Names.{column_from, column_named, table_from}
use Rattle.statement_draft.specs.StatementEvents.{Selected, places_from, select_found, selected, selected_from}
use Rattle.statement_draft.specs.TableEvents.{column_bytes}
use Rattle.statement_draft.specs.declared.draft.NameAt.{NameAt}
use Rattle.statement_draft.specs.declared.faults.Fault.{Fault}
use Rattle.sql_base.proofs.Truths.{and_left, and_right, and_true, neither, not-is, not-true, or_left, or_right}
use Rattle.sql_base.proofs.ListFacts.{all-push, any-none_more}

pub eq_turned : (m n : ℕ) → nat_eq m n ≡ false → nat_eq n m ≡ false
eq_turned m n h = grind (arith, nat_tests, h)

-- one more that is none of them
pub differ_more : (xs : List ℕ) (c : ℕ) → all_differ nat_eq xs ≡ true → list_any (nat_eq c) xs ≡ false → all_differ nat_eq (xs ++ c ∷ []) ≡ true
differ_more [] c h e = refl
differ_more (x ∷ xs) c h e =
    and_true (not (list_any (nat_eq x) (xs ++ c ∷ []))) _
    (not-is (list_any (nat_eq x) (xs ++ c ∷ []))
    (any-none_more (nat_eq x) xs c (not-true (list_any (nat_eq x) xs) (and_left (not (list_any (nat_eq x) xs)) _ h)) (eq_turned c x (or_left (nat_eq c x) _ e))))
    (differ_more xs c (and_right (not (list_any (nat_eq x) xs)) _ h) (or_right (nat_eq c x) _ e))

chosen_place : (b : Bool) (n c : ℕ) (later : Option ℕ) → (if b then Some n else later) ≡ Some c → (later ≡ Some c → n ≤ c) → n ≤ c
chosen_place true n c later h go = omega (arith, same n c h)
  where
    same : (m n : ℕ) → Some m ≡ Some n → m ≡ n
    same m n e = cc
chosen_place false n c later h go = go h

pub place_within : (n : ℕ) (cs : List Column) (name : List ℕ) (c : ℕ) → column_from n cs name ≡ Some c → c < n + length cs
unfolding column_from
place_within n [] name c h = absurd (cc (h))
place_within n (column ∷ cs) name c h = cases (nat_le 32 n) (bytes_eq column.name name) (λ e. place_within (n + 1) cs name c e) h
  where
    same : (m n : ℕ) → Some m ≡ Some n → m ≡ n
    same m n e = cc

    cases : (full is : Bool) → (column_from (n + 1) cs name ≡ Some c → c < n + 1 + length cs) → (if full then None else (if is then Some n else column_from (n + 1) cs name)) ≡ Some c → c < n + length (column ∷ cs)
    cases true is go e = absurd (cc (e))
    cases false true go e = let at = same n c e in omega (arith, at)
    cases false false go e = let later = go e in omega (arith, later)

pub below : (c n : ℕ) → c < 0 + n → c < n
below c n h = omega (arith, h)

pub key_more : (again : Bool) (n c : ℕ) (key : List ℕ) → again ≡ false → c < n → AllByRecursion (λ c. c < n) key → AllByRecursion (λ c. c < n) (if again then key else key ++ c ∷ [])
key_more true n c key e l h = h
key_more false n c key e l h = all-push (λ c. c < n) key c h l

pub key_differs : (again : Bool) (c : ℕ) (key : List ℕ) → list_any (nat_eq c) key ≡ again → all_differ nat_eq key ≡ true → all_differ nat_eq (if again then key else key ++ c ∷ []) ≡ true
key_differs true c key e h = h
key_differs false c key e h = differ_more key c h e

pub table_within : (n : ℕ) (ts : List TableDef) (name : List ℕ) (t : ℕ) → table_from n ts name ≡ Some t → t < n + length ts
unfolding table_from
table_within n [] name t h = absurd (cc (h))
table_within n (x ∷ ts) name t h = cases (nat_le 4 n) (bytes_eq x.name name) (λ e. table_within (n + 1) ts name t e) h
  where
    same : (m n : ℕ) → Some m ≡ Some n → m ≡ n
    same m n e = cc

    cases : (full is : Bool) → (table_from (n + 1) ts name ≡ Some t → t < n + 1 + length ts) → (if full then None else (if is then Some n else table_from (n + 1) ts name)) ≡ Some t → t < n + length (x ∷ ts)
    cases true is go e = absurd (cc (e))
    cases false true go e = let at = same n t e in omega (arith, at)
    cases false false go e = let later = go e in omega (arith, later)

abbrev of_columns : List Column → List ColumnKind
of_columns cs = map (λ (c : Column). c.kind) cs

abbrev key_bytes : List Column → List ℕ → ℕ
key_bytes cs key = sum_by width (chosen key (of_columns cs))

one_more : (o : Option Column) → sum_by width (cons_option (option_map (λ (c : Column). c.kind) o) []) ≡ column_bytes o
one_more None = refl
one_more (Some c) = omega arith

pub bytes_more : (cs : List Column) (key : List ℕ) (c : ℕ) → key_bytes cs (key ++ c ∷ []) ≡ key_bytes cs key + column_bytes (slice_get cs c)
bytes_more cs key c =
    ap (sum_by width) (filter_map-append (slice_get (of_columns cs)) key (c ∷ []))
    ∙ sum_by-append width (chosen key (of_columns cs)) (chosen (c ∷ []) (of_columns cs))
    ∙ ap (λ n. key_bytes cs key + n) (ap (λ o. sum_by width (cons_option o [])) (slice_get-map (λ (x : Column). x.kind) cs c) ∙ one_more (slice_get cs c))

pub not_there : (m n : ℕ) (cs : List Column) → m < n → list_any (nat_eq m) (places_from n cs) ≡ false
unfolding places_from
not_there m n [] h = refl
not_there m n (c ∷ cs) h = cases (nat_le 32 n) (not_there m (n + 1) cs (omega (arith, h)))
  where
    cases : (b : Bool) → list_any (nat_eq m) (places_from (n + 1) cs) ≡ false → list_any (nat_eq m) (if b then [] else n ∷ places_from (n + 1) cs) ≡ false
    cases true e = refl
    cases false e = neither (nat_eq m n) (list_any (nat_eq m) (places_from (n + 1) cs)) (grind (arith, nat_tests, h)) e

pub places_differ : (n : ℕ) (cs : List Column) → all_differ nat_eq (places_from n cs) ≡ true
unfolding places_from
places_differ n [] = refl
places_differ n (c ∷ cs) = cases (nat_le 32 n) (places_differ (n + 1) cs)
  where
    cases : (b : Bool) → all_differ nat_eq (places_from (n + 1) cs) ≡ true → all_differ nat_eq (if b then [] else n ∷ places_from (n + 1) cs) ≡ true
    cases true e = refl
    cases false e = and_true _ (all_differ nat_eq (places_from (n + 1) cs)) (not-is (list_any (nat_eq n) (places_from (n + 1) cs)) (not_there n (n + 1) cs (omega arith))) e

found_differ : (c : Option ℕ) (at : ℕ) (s : Selected) → all_differ nat_eq s.columns ≡ true → all_differ nat_eq (select_found c at s).columns ≡ true
found_differ None at s h = h
found_differ (Some c) at s h = key_differs (list_any (nat_eq c) s.columns) c s.columns refl h

selected_differ : (cs : List Column) (names : List NameAt) (s : Selected) → all_differ nat_eq s.columns ≡ true → all_differ nat_eq (selected_from cs names s).columns ≡ true
unfolding selected_from
selected_differ cs [] s h = h
selected_differ cs (n ∷ names) s h = selected_differ cs names _ (found_differ (column_named cs n.name) n.at s h)

pub names_differ : (cs : List Column) (names : List NameAt) (f : Option Fault) → all_differ nat_eq (selected cs names f).columns ≡ true
names_differ cs [] f = places_differ 0 cs
names_differ cs (n ∷ names) f = selected_differ cs (n ∷ names) (record { columns = []; first = f }) refl
