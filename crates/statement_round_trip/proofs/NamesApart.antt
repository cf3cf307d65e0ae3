-- Names that stand one after the other, and none twice.
use Rattle.std.proofs.Common.{◌≡◌, ℕ, ◌+◌, List, [], ◌∷◌, ◌++◌, map, Bool, true, false, Option, Some, None, cond, refl}
use Rattle.std.specs.Prelude.{nat_le, not}
use Rattle.std.specs.List.{list_any, AllByRecursion}
use Rattle.std.specs.Str.{bytes_eq}
use Rattle.sql_base.specs.Tables.{all_differ}
use Rattle.sql_base.specs.declared.tables.Column.{Column}
use Rattle.sql_base.specs.declared.tables.TableDef.{TableDef}
use Rattle.statement_draft.specs.Names.{column_from, column_named, table_from, table_named}
use Rattle.sql_base.proofs.Truths.{both_hold, neither_holds, not-true}

-- the name is none of those before it
abbrev pub New : List (List ℕ) → List ℕ → Type 0
New before n = AllByRecursion (λ m. bytes_eq m n ≡ false) before

abbrev pub AllNew : List (List ℕ) → List (List ℕ) → Type 0
AllNew before ns = AllByRecursion (λ n. New before n) ns

pub all_new : (ns : List (List ℕ)) → AllNew [] ns
all_new [] = tt
all_new (n ∷ ns) = (tt, all_new ns)

new_more : (before : List (List ℕ)) (m n : List ℕ) → New before n → bytes_eq m n ≡ false → New (before ++ m ∷ []) n
new_more [] m n h other = (other, tt)
new_more (x ∷ before) m n h other = (h.0, new_more before m n h.1 other)

pub all_new_more : (m : List ℕ) (before ns : List (List ℕ)) → list_any (bytes_eq m) ns ≡ false → AllNew before ns → AllNew (before ++ m ∷ []) ns
all_new_more m before [] others h = tt
all_new_more m before (n ∷ ns) others h =
    let e = neither_holds (bytes_eq m n) (list_any (bytes_eq m) ns) others in
    (new_more before m n h.0 e.0, all_new_more m before ns e.1 h.1)

-- the first is none of the others, which differ as well
pub names_differ : (n : List ℕ) (ns : List (List ℕ)) → all_differ bytes_eq (n ∷ ns) ≡ true → (list_any (bytes_eq n) ns ≡ false) × (all_differ bytes_eq ns ≡ true)
names_differ n ns h =
    let both = both_hold (not (list_any (bytes_eq n) ns)) (all_differ bytes_eq ns) h in
    (not-true (list_any (bytes_eq n) ns) both.0, both.1)

abbrev choice : Bool → Bool → ℕ → Option ℕ → Option ℕ
choice many same n later = cond many None (cond same (Some n) later)

none_of : (many same : Bool) (n : ℕ) (later : Option ℕ) → same ≡ false → later ≡ None → choice many same n later ≡ None
none_of true same n later h k = refl
none_of false true n later h k = absurd (cc (h))
none_of false false n later h k = k

-- a new name names no column and no table so far
unnamed_from : (n : ℕ) (columns : List Column) (name : List ℕ) → New (map (λ column. column.name) columns) name → column_from n columns name ≡ None
unfolding column_from
unnamed_from n [] name h = refl
unnamed_from n (column ∷ columns) name h =
    none_of (nat_le 32 n) (bytes_eq column.name name) n (column_from (n + 1) columns name) h.0 (unnamed_from (n + 1) columns name h.1)

pub unnamed : (columns : List Column) (name : List ℕ) → New (map (λ column. column.name) columns) name → column_named columns name ≡ None
unnamed columns name h = unnamed_from 0 columns name h

no_table_from : (n : ℕ) (tables : List TableDef) (name : List ℕ) → New (map (λ table. table.name) tables) name → table_from n tables name ≡ None
unfolding table_from
no_table_from n [] name h = refl
no_table_from n (table ∷ tables) name h =
    none_of (nat_le 4 n) (bytes_eq table.name name) n (table_from (n + 1) tables name) h.0 (no_table_from (n + 1) tables name h.1)

pub undeclared : (tables : List TableDef) (name : List ℕ) → New (map (λ table. table.name) tables) name → table_named tables name ≡ None
undeclared tables name h = no_table_from 0 tables name h
