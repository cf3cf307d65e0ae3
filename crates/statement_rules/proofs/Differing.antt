-- Names that differ, and one more that is none of them.
use Rattle.std.proofs.Common.{◌≡◌, ◌≤◌, ◌<◌, ◌+◌, ℕ, List, [], ◌∷◌, ◌++◌, length, map, not, ◌&&◌, ◌||◌, Bool, true, false, Some, None, refl, sym, ap, ◌∙◌, arith}
use Rattle.std.specs.Prelude.{nat_le, if◌then◌else◌}
use Rattle.std.specs.List.{list_any}
use Rattle.std.specs.Str.{bytes_eq}
use Rattle.std.proofs.lemmas.Bool.Decides.{nat_tests}
use Rattle.std.proofs.lemmas.Slice.Eq.{bytes_eq-Decides}
use Rattle.std.proofs.lemmas.List.{map-append}
use Rattle.sql_base.specs.Tables.{all_differ}
use Rattle.sql_base.specs.declared.tables.Column.{Column}
use Rattle.sql_base.specs.declared.tables.TableDef.{TableDef}
use Rattle.statement_draft.specs.Names.{column_from, column_named, table_from, table_named}
use Rattle.sql_base.proofs.Truths.{and_left, and_right, and_true, neither, not-is, not-true, or_left, or_right}

bytes_turned : (a b : List ℕ) → bytes_eq a b ≡ false → bytes_eq b a ≡ false
bytes_turned a b h = by_test (bytes_eq b a) refl
  where
    by_test : (t : Bool) → bytes_eq b a ≡ t → t ≡ false
    by_test false e = refl
    by_test true e = absurd (cc (h, (bytes_eq-Decides a b).1 (sym ((bytes_eq-Decides b a).0 e))))

none_more : (x : List ℕ) (xs : List (List ℕ)) (c : List ℕ) → list_any (bytes_eq x) xs ≡ false → bytes_eq x c ≡ false → list_any (bytes_eq x) (xs ++ c ∷ []) ≡ false
none_more x [] c h e = neither (bytes_eq x c) false e refl
none_more x (y ∷ ys) c h e = neither (bytes_eq x y) _ (or_left (bytes_eq x y) _ h) (none_more x ys c (or_right (bytes_eq x y) _ h) e)

one_more_differs : (xs : List (List ℕ)) (c : List ℕ) → all_differ bytes_eq xs ≡ true → list_any (bytes_eq c) xs ≡ false → all_differ bytes_eq (xs ++ c ∷ []) ≡ true
one_more_differs [] c h e = refl
one_more_differs (x ∷ xs) c h e =
    and_true (not (list_any (bytes_eq x) (xs ++ c ∷ []))) _
    (not-is (list_any (bytes_eq x) (xs ++ c ∷ []))
    (none_more x xs c (not-true (list_any (bytes_eq x) xs) (and_left (not (list_any (bytes_eq x) xs)) _ h)) (bytes_turned c x (or_left (bytes_eq c x) _ e))))
    (one_more_differs xs c (and_right (not (list_any (bytes_eq x) xs)) _ h) (or_right (bytes_eq c x) _ e))

not_full : (most n m : ℕ) → n + m ≤ most → 0 < m → nat_le most n ≡ false
not_full most n m h some = grind (arith, nat_tests)

-- a name that is found nowhere is none of the names
no_column : (n : ℕ) (cs : List Column) (name : List ℕ) → n + length cs ≤ 32 → column_from n cs name ≡ None → list_any (bytes_eq name) (map (λ (c : Column). c.name) cs) ≡ false
unfolding column_from
no_column n [] name few h = refl
no_column n (c ∷ cs) name few h =
    by_tests (nat_le 32 n) (bytes_eq c.name name) (not_full 32 n (length cs + 1) (omega arith) (omega arith)) refl h (λ later. no_column (n + 1) cs name (omega arith) later)
  where
    by_tests : (full is : Bool) → full ≡ false → bytes_eq c.name name ≡ is → (if full then None else (if is then Some n else column_from (n + 1) cs name)) ≡ None
        → (column_from (n + 1) cs name ≡ None → list_any (bytes_eq name) (map (λ (c : Column). c.name) cs) ≡ false)
        → list_any (bytes_eq name) (map (λ (c : Column). c.name) (c ∷ cs)) ≡ false
    by_tests true is f e h later = absurd (cc (f))
    by_tests false true f e h later = absurd (cc (h))
    by_tests false false f e h later = neither (bytes_eq name c.name) _ (bytes_turned c.name name e) (later h)

no_table : (n : ℕ) (ts : List TableDef) (name : List ℕ) → n + length ts ≤ 4 → table_from n ts name ≡ None → list_any (bytes_eq name) (map (λ (t : TableDef). t.name) ts) ≡ false
unfolding table_from
no_table n [] name few h = refl
no_table n (t ∷ ts) name few h =
    by_tests (nat_le 4 n) (bytes_eq t.name name) (not_full 4 n (length ts + 1) (omega arith) (omega arith)) refl h (λ later. no_table (n + 1) ts name (omega arith) later)
  where
    by_tests : (full is : Bool) → full ≡ false → bytes_eq t.name name ≡ is → (if full then None else (if is then Some n else table_from (n + 1) ts name)) ≡ None
        → (table_from (n + 1) ts name ≡ None → list_any (bytes_eq name) (map (λ (t : TableDef). t.name) ts) ≡ false)
        → list_any (bytes_eq name) (map (λ (t : TableDef). t.name) (t ∷ ts)) ≡ false
    by_tests true is f e h later = absurd (cc (f))
    by_tests false true f e h later = absurd (cc (h))
    by_tests false false f e h later = neither (bytes_eq name t.name) _ (bytes_turned t.name name e) (later h)

pub columns_differ : (cs : List Column) (c : Column) → length cs ≤ 32 → column_named cs c.name ≡ None → all_differ bytes_eq (map (λ (c : Column). c.name) cs) ≡ true
    → all_differ bytes_eq (map (λ (c : Column). c.name) (cs ++ c ∷ [])) ≡ true
columns_differ cs c few new h =
    ap (all_differ bytes_eq) (map-append (λ (c : Column). c.name) cs (c ∷ []))
    ∙ one_more_differs (map (λ (c : Column). c.name) cs) c.name h (no_column 0 cs c.name (omega arith) new)

pub tables_differ : (ts : List TableDef) (t : TableDef) → length ts ≤ 4 → table_named ts t.name ≡ None → all_differ bytes_eq (map (λ (t : TableDef). t.name) ts) ≡ true
    → all_differ bytes_eq (map (λ (t : TableDef). t.name) (ts ++ t ∷ [])) ≡ true
tables_differ ts t few new h =
    ap (all_differ bytes_eq) (map-append (λ (t : TableDef). t.name) ts (t ∷ []))
    ∙ one_more_differs (map (λ (t : TableDef). t.name) ts) t.name h (no_table 0 ts t.name (omega arith) new)
