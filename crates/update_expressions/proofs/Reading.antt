-- Assignments that are read from a code, one after the other.
use Rattle.std.proofs.Common.{◌≡◌, ◌≤◌, ◌<◌, ◌++◌, ℕ, suc, List, [], ◌∷◌, length, drop, map, Some, None, Option, true, false, refl, ap, sym, ◌∙◌, arith}
use Rattle.std.specs.Prelude.{◌≢◌, nat_eq, nat_le, nat_lt, not, ◌&&◌, slice_get, option_map, option_and_then, if◌then◌else◌}
use Rattle.std.specs.List.{list_any}
use Rattle.std.proofs.lemmas.Bool.{le-leb, lt-ltb}
use Rattle.std.proofs.lemmas.List.{append-nil, append_assoc, length-map}
use Rattle.sql_base.specs.Codes.{code_of, counted, sets_code}
use Rattle.sql_base.specs.Kinds.{Kind, IsExpr}
use Rattle.sql_base.specs.Rows.{kinds}
use Rattle.sql_base.specs.Tables.{AreSets, all_differ}
use Rattle.sql_base.specs.declared.expressions.Expr.{Expr}
use Rattle.sql_base.specs.declared.statements.Assign.{Assign}
use Rattle.sql_base.specs.declared.tables.TableDef.{TableDef}
use Rattle.predicate_codes.specs.Decoding.{Operand, counted_at, read_code}
use Rattle.predicate_codes.specs.SetLists.{are_sets, assign_of, assigns_in, can_store, sets_of}
use Rattle.predicate_codes.proofs.Complete.{operand_of}
use Rattle.predicate_codes.proofs.Exact.{read_code-code, read_code-some}
use Rattle.predicate_codes.proofs.ExactSets.{reads_sets}
use Rattle.predicate_runner.specs.Outlines.{Checked}
use Rattle.update_expressions.specs.Entries.{SetEntry, entry_in, set_in}
use Rattle.update_expressions.specs.declared.verifying.VerifiedSet.{VerifiedSet}
use Rattle.update_expressions.proofs.Differing.{all_differ-map}

-- bytes that are the code of no expression aren't read
pub unread : (table : TableDef) (bytes : List ℕ) → ((kind : Kind) (e : Expr) → IsExpr table kind e → bytes ≢ code_of e) → read_code table bytes ≡ None
unread table bytes bad = by (read_code table bytes) refl
  where
    by : (o : Option Operand) → read_code table bytes ≡ o → o ≡ None
    by None e = refl
    by (Some o) e = absurd (bad o.kind o.tree (read_code-some table bytes o e).0 (read_code-some table bytes o e).1)

-- what is read in front, once its value is known
pub entry-front : (table : TableDef) (column : ℕ) (code bytes : List ℕ) → counted_at code ≡ Some bytes
    → entry_in table (column ∷ code) ≡ option_map (λ (set : Assign). record { set = set; size = suc (length (counted bytes)) }) (option_and_then (assign_of table column) (read_code table bytes))
entry-front table column code bytes at =
    ap (option_and_then (λ bs. option_map (λ (set : Assign). record { set = set; size = suc (length (counted bs)) }) (option_and_then (assign_of table column) (read_code table bs)))) at

pub entry-uncounted : (table : TableDef) (column : ℕ) (code : List ℕ) → counted_at code ≡ None → entry_in table (column ∷ code) ≡ None
entry-uncounted table column code at =
    ap (option_and_then (λ bs. option_map (λ (set : Assign). record { set = set; size = suc (length (counted bs)) }) (option_and_then (assign_of table column) (read_code table bs)))) at

pub entry-unread : (table : TableDef) (column : ℕ) (code bytes : List ℕ) → counted_at code ≡ Some bytes → ((kind : Kind) (e : Expr) → IsExpr table kind e → bytes ≢ code_of e)
    → entry_in table (column ∷ code) ≡ None
entry-unread table column code bytes at bad =
    entry-front table column code bytes at
    ∙ ap (λ o. option_map (λ (set : Assign). record { set = set; size = suc (length (counted bytes)) }) (option_and_then (assign_of table column) o)) (unread table bytes bad)

entry-read : (table : TableDef) (column : ℕ) (code bytes : List ℕ) (v : Checked) → counted_at code ≡ Some bytes → IsExpr table v.kind v.tree → bytes ≡ code_of v.tree
    → entry_in table (column ∷ code) ≡ option_map (λ (set : Assign). record { set = set; size = suc (length (counted bytes)) }) (assign_of table column (operand_of v.kind v.tree))
entry-read table column code bytes v at is same =
    entry-front table column code bytes at
    ∙ ap (λ o. option_map (λ (set : Assign). record { set = set; size = suc (length (counted bytes)) }) (option_and_then (assign_of table column) o))
    (ap (read_code table) same ∙ read_code-code table v.kind v.tree is)

pub entry-unset : (table : TableDef) (column : ℕ) (code bytes : List ℕ) (v : Checked) → counted_at code ≡ Some bytes → IsExpr table v.kind v.tree → bytes ≡ code_of v.tree
    → (not (list_any (nat_eq column) table.key) && can_store (slice_get (kinds table) column) v.kind) ≡ false
    → entry_in table (column ∷ code) ≡ None
entry-unset table column code bytes v at is same test = entry-read table column code bytes v at is same ∙ rw test refl

pub entry-set : (table : TableDef) (column : ℕ) (code bytes : List ℕ) (v : Checked) → counted_at code ≡ Some bytes → IsExpr table v.kind v.tree → bytes ≡ code_of v.tree
    → (not (list_any (nat_eq column) table.key) && can_store (slice_get (kinds table) column) v.kind) ≡ true
    → entry_in table (column ∷ code) ≡ Some (record { set = record { column = column; value = v.tree }; size = suc (length (counted bytes)) })
entry-set table column code bytes v at is same test = entry-read table column code bytes v at is same ∙ rw test refl

-- one more assignment
pub assigns-step : (table : TableDef) (n : ℕ) (code : List ℕ)
    → assigns_in table (suc n) code ≡ option_and_then (λ (entry : SetEntry). option_map (λ sets. entry.set ∷ sets) (assigns_in table n (drop entry.size code))) (entry_in table code)
assigns-step table n [] = refl
assigns-step table n (column ∷ code) = by (counted_at code)
  where
    one : (bytes : List ℕ) (set : Option Assign)
        → option_and_then (λ set. option_map (λ sets. set ∷ sets) (assigns_in table n (drop (length (counted bytes)) code))) set
        ≡ option_and_then (λ (entry : SetEntry). option_map (λ sets. entry.set ∷ sets) (assigns_in table n (drop entry.size (column ∷ code)))) (option_map (λ (set : Assign). record { set = set; size = suc (length (counted bytes)) }) set)
    one bytes None = refl
    one bytes (Some set) = refl

    by : (o : Option (List ℕ))
        → option_and_then (λ bytes. option_and_then (λ set. option_map (λ sets. set ∷ sets) (assigns_in table n (drop (length (counted bytes)) code))) (option_and_then (assign_of table column) (read_code table bytes))) o
        ≡ option_and_then (λ (entry : SetEntry). option_map (λ sets. entry.set ∷ sets) (assigns_in table n (drop entry.size (column ∷ code)))) (option_and_then (λ bytes. option_map (λ (set : Assign). record { set = set; size = suc (length (counted bytes)) }) (option_and_then (assign_of table column) (read_code table bytes))) o)
    by None = refl
    by (Some bytes) = one bytes (option_and_then (assign_of table column) (read_code table bytes))

-- so many that were read, and what the rest is read as
pub assigns-goes : (table : TableDef) (n : ℕ) (code : List ℕ) (done : List Assign) (entry : SetEntry) → entry_in table code ≡ Some entry
    → option_map (λ rest. (done ++ entry.set ∷ []) ++ rest) (assigns_in table n (drop entry.size code)) ≡ option_map (λ rest. done ++ rest) (assigns_in table (suc n) code)
assigns-goes table n code done entry is =
    by (assigns_in table n (drop entry.size code))
    ∙ ap (option_map (λ rest. done ++ rest)) (sym (assigns-step table n code ∙ ap (option_and_then (λ (e : SetEntry). option_map (λ sets. e.set ∷ sets) (assigns_in table n (drop e.size code)))) is))
  where
    by : (o : Option (List Assign)) → option_map (λ rest. (done ++ entry.set ∷ []) ++ rest) o ≡ option_map (λ rest. done ++ rest) (option_map (λ sets. entry.set ∷ sets) o)
    by None = refl
    by (Some rest) = ap Some (append_assoc done (entry.set ∷ []) rest)

pub assigns-stop : (table : TableDef) (n : ℕ) (code : List ℕ) (done : List Assign) → entry_in table code ≡ None → option_map (λ rest. done ++ rest) (assigns_in table (suc n) code) ≡ None
assigns-stop table n code done is =
    ap (option_map (λ rest. done ++ rest)) (assigns-step table n code ∙ ap (option_and_then (λ (e : SetEntry). option_map (λ sets. e.set ∷ sets) (assigns_in table n (drop e.size code)))) is)

pub assigns-end : (table : TableDef) (done : List Assign) → option_map (λ rest. done ++ rest) (assigns_in table 0 []) ≡ Some done
assigns-end table done = ap Some (append-nil done)

columns_in : (sets : List VerifiedSet) → map (λ (set : Assign). set.column) (map set_in sets) ≡ map (λ (set : VerifiedSet). set.column) sets
columns_in [] = refl
columns_in (set ∷ sets) = ap (λ columns. set.column ∷ columns) (columns_in sets)

pub are_sets-is : (sets : List VerifiedSet) → 0 < length sets → all_differ (λ (a b : VerifiedSet). nat_eq a.column b.column) sets ≡ are_sets (map set_in sets)
are_sets-is sets some =
    let many : nat_lt 0 (length (map set_in sets)) ≡ true = lt-ltb 0 (length (map set_in sets)) (omega (arith, some, length-map sets set_in)) in
    all_differ-map (λ (set : VerifiedSet). set.column) sets ∙ ap (all_differ nat_eq) (sym (columns_in sets))
    ∙ ap (λ b. b && all_differ nat_eq (map (λ (set : Assign). set.column) (map set_in sets))) (sym many)

pub sets-unread : (table : TableDef) (count : ℕ) (code : List ℕ) → assigns_in table count code ≡ None → sets_of table (count ∷ code) ≡ None
sets-unread table count code none = ap (option_and_then (λ sets. if are_sets sets && nat_le (length (count ∷ code)) 8192 then Some sets else None)) none

pub sets-not : (table : TableDef) (count : ℕ) (code : List ℕ) (sets : List Assign) → assigns_in table count code ≡ Some sets → are_sets sets ≡ false → sets_of table (count ∷ code) ≡ None
sets-not table count code sets read test = ap (option_and_then (λ sets. if are_sets sets && nat_le (length (count ∷ code)) 8192 then Some sets else None)) read ∙ rw test refl

pub sets-read : (table : TableDef) (count : ℕ) (code : List ℕ) (sets : List Assign) → assigns_in table count code ≡ Some sets → are_sets sets ≡ true → length (count ∷ code) ≤ 8192
    → AreSets table sets × (count ∷ code ≡ sets_code sets)
sets-read table count code sets read test short =
    let small : nat_le (length (count ∷ code)) 8192 ≡ true = le-leb (length (count ∷ code)) 8192 short in
    (reads_sets table (count ∷ code) sets).0 (ap (option_and_then (λ sets. if are_sets sets && nat_le (length (count ∷ code)) 8192 then Some sets else None)) read ∙ rw (test, small) refl)

pub sets-long : (table : TableDef) (code : List ℕ) → 8192 < length code → (sets : List Assign) → AreSets table sets → code ≢ sets_code sets
sets-long table code long sets are same = absurd (omega (arith, are.code, ap length same))

-- bytes that aren't read are the code of no SET list
pub no_sets : (table : TableDef) (code : List ℕ) → sets_of table code ≡ None → (sets : List Assign) → AreSets table sets → code ≢ sets_code sets
no_sets table code none sets are same =
    let read : sets_of table code ≡ Some sets = (reads_sets table code sets).1 (are, same) in
    absurd (let no : None ≡ Some sets = sym none ∙ read in cc)
