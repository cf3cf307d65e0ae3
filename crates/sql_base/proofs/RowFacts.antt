-- Facts of rows, kinds, paddings and names that several crates need.
use Rattle.std.proofs.Common.{◌++◌, ◌+◌, ◌-◌, ◌<◌, ◌∙◌, ◌∷◌, ◌≡◌, ◌≤◌, ◌⊎◌, All, List, None, Option, Some, [], ap, append_assoc, arith, drop, eqb, false, get_or, inl, inr, length, length-append, map, refl, subst, suc, sym, take, true, zero, ℕ}
use Rattle.std.proofs.lemmas.Bool.{and_from, and_parts, cases_lt, eq-eqb, eqb-false, eqb-true, false≢true, or_parts}
use Rattle.std.proofs.lemmas.Bool.Decides.{nat_tests}
use Rattle.std.proofs.lemmas.List.{append-nil, drop_more, get_or-append_right, get_or-replicate, get_or_append_left, get_or_default, get_or_past, length-map, length-replicate}
use Rattle.std.proofs.lemmas.List.Sums.{sum_by-cons}
use Rattle.std.specs.Char.{is_ascii_alphabetic}
use Rattle.std.specs.Cmp.Lexicographic.{slice_cmp}
use Rattle.std.specs.List.{cons_option, list_any}
use Rattle.std.specs.Ordering.{nat_cmp, ordering_then}
use Rattle.std.proofs.lemmas.Option.{slice_get-get_or, slice_get-map}
use Rattle.std.specs.Prelude.{IsSome, nat_eq, option_map, replicate, slice_get, slice_set, sum_by}
use Rattle.sql_base.proofs.ListFacts.{none-there}
use Rattle.sql_base.specs.Locks.{same_txn}
use Rattle.sql_base.specs.Names.{is_name_byte}
use Rattle.sql_base.specs.Rows.{chosen, is_printable, key_value, key_values, padded, width}
use Rattle.sql_base.specs.Scripts.{parts_of}
use Rattle.sql_base.specs.Tables.{are_leading, is_literal_of}
use Rattle.sql_base.specs.declared.lock_names.TxnName.{TxnName}
use Rattle.sql_base.specs.declared.outcomes.Abort.{Abort}
use Rattle.sql_base.specs.declared.tables.Column.{Column}
use Rattle.sql_base.specs.declared.tables.ColumnKind.{ColumnKind}
use Rattle.sql_base.specs.declared.tables.TableDef.{TableDef}
use Rattle.sql_base.specs.declared.values.Value.{Value}

pub padded-length : (n : ℕ) (text : List ℕ) → length text ≤ n → length (padded n text) ≡ n
padded-length n text short = omega (arith, length-append text (replicate (n - length text) 32), length-replicate {A = ℕ} (n - length text) 32)

pub padded-at : (n : ℕ) (text : List ℕ) (i : ℕ) → i < n → get_or (padded n text) i 0 ≡ get_or text i 32
padded-at n text i within = go (cases_lt i (length text))
  where
    go : (i < length text) ⊎ (length text ≤ i) → get_or (padded n text) i 0 ≡ get_or text i 32
    go (inl lt) = get_or_append_left text (replicate (n - length text) 32) 0 i lt ∙ get_or_default text i 0 32 lt
    go (inr ge) = get_or-append_right text (replicate (n - length text) 32) (length text) i 0 refl ge ∙ get_or-replicate (n - length text) (i - length text) 32 0 (omega arith) ∙ sym (get_or_past text i 32 ge)

pub texts-step : (n : ℕ) (a b : List ℕ) (i : ℕ) → length a ≤ n → length b ≤ n → i < n
    → slice_cmp nat_cmp (drop i (padded n a)) (drop i (padded n b)) ≡ ordering_then (nat_cmp (get_or a i 32) (get_or b i 32)) (slice_cmp nat_cmp (drop (i + 1) (padded n a)) (drop (i + 1) (padded n b)))
texts-step n a b i short_a short_b within =
    let in_a : i < length (padded n a) = omega (arith, padded-length n a short_a) in
    let in_b : i < length (padded n b) = omega (arith, padded-length n b short_b) in
    ap (λ xs. slice_cmp nat_cmp xs (drop i (padded n b))) (drop_more (padded n a) i 0 in_a)
    ∙ ap (slice_cmp nat_cmp (get_or (padded n a) i 0 ∷ drop (i + 1) (padded n a))) (drop_more (padded n b) i 0 in_b)
    ∙ ap (λ x. ordering_then (nat_cmp x (get_or (padded n b) i 0)) (slice_cmp nat_cmp (drop (i + 1) (padded n a)) (drop (i + 1) (padded n b)))) (padded-at n a i within)
    ∙ ap (λ y. ordering_then (nat_cmp (get_or a i 32) y) (slice_cmp nat_cmp (drop (i + 1) (padded n a)) (drop (i + 1) (padded n b)))) (padded-at n b i within)

pub get_other : (row : List Value) (c d : ℕ) (v : Value) → (c ≡ d → ⊥) → slice_get (slice_set row c v) d ≡ slice_get row d
get_other [] c d v h = refl
get_other (x ∷ row) zero zero v h = absurd (h refl)
get_other (x ∷ row) zero (suc d) v h = refl
get_other (x ∷ row) (suc c) zero v h = refl
get_other (x ∷ row) (suc c) (suc d) v h = get_other row c d v (λ e. h (ap suc e))

pub chosen_others : (places : List ℕ) (row : List Value) (c : ℕ) (v : Value) → list_any (nat_eq c) places ≡ false → chosen places (slice_set row c v) ≡ chosen places row
chosen_others [] row c v h = refl
chosen_others (d ∷ places) row c v h =
    let parts = or_parts (eqb c d) (list_any (nat_eq c) places) h in
    ap (λ o. cons_option o (chosen places (slice_set row c v))) (get_other row c d v (λ e. eqb-false c d parts.0 e)) ∙ ap (cons_option (slice_get row d)) (chosen_others places row c v parts.1)

pub no_literals : (ks : List ColumnKind) → key_values ks [] ≡ []
no_literals [] = refl
no_literals (k ∷ ks) = refl

-- one more literal behind those so far
pub literals_step : (ks : List ColumnKind) (vs : List Value) (i : ℕ) (k : ColumnKind) (v : Value) → slice_get ks i ≡ Some k → slice_get vs i ≡ Some v → key_values ks (take (suc i) vs) ≡ key_values ks (take i vs) ++ key_value k v
literals_step [] vs i k v ek ev = absurd (cc)
literals_step (l ∷ ks) [] i k v ek ev = absurd (cc)
literals_step (l ∷ ks) (w ∷ vs) zero k v ek ev =
    let same : l ≡ k = cc in let other : w ≡ v = cc in
    ap (λ bytes. key_value l w ++ bytes) (no_literals ks) ∙ append-nil (key_value l w) ∙ ap (λ x. key_value x w) same ∙ ap (key_value k) other
literals_step (l ∷ ks) (w ∷ vs) (suc i) k v ek ev = ap (λ bytes. key_value l w ++ bytes) (literals_step ks vs i k v ek ev) ∙ sym (append_assoc (key_value l w) (key_values ks (take i vs)) (key_value k v))

pub literals_more : (ks : List ColumnKind) (vs : List Value) (i : ℕ) (k : ColumnKind) (v : Value) → slice_get ks i ≡ Some k → slice_get vs i ≡ Some v → key_values ks (take (i + 1) vs) ≡ key_values ks (take i vs) ++ key_value k v
literals_more ks vs i k v ek ev = let more : i + 1 ≡ suc i = omega arith in ap (λ n. key_values ks (take n vs)) more ∙ literals_step ks vs i k v ek ev

-- no more literals than kinds
pub leading-few : (ks : List ColumnKind) (vs : List Value) → are_leading ks vs ≡ true → length vs ≤ length ks
leading-few ks [] h = omega arith
leading-few [] (v ∷ vs) h = absurd (false≢true h)
leading-few (k ∷ ks) (v ∷ vs) h = let rest = leading-few ks vs (and_parts (is_literal_of k v) (are_leading ks vs) h).1 in omega arith

-- elements at places that are all within
pub chosen_at : {A : Type 0} (xs : List A) (places : List ℕ) (i : ℕ) → All (λ c. c < length xs) places → i < length places → slice_get (chosen places xs) i ≡ slice_get xs (get_or places i 0)
chosen_at xs [] i h lt = absurd (omega arith)
chosen_at {A = A} xs (p ∷ places) i h lt = at (slice_get xs p) refl i lt (λ j l. chosen_at xs places j (λ k d m. h (suc k) d (omega arith)) l)
  where
    within : p < length xs
    within = h 0 0 (omega arith)

    at : (o : Option A) → slice_get xs p ≡ o → (j : ℕ) → j < suc (length places) → ((j : ℕ) → j < length places → slice_get (chosen places xs) j ≡ slice_get xs (get_or places j 0))
        → slice_get (cons_option o (chosen places xs)) j ≡ slice_get xs (get_or (p ∷ places) j 0)
    at None e j lt rest = absurd (none-there xs p e within)
    at (Some x) e zero lt rest = sym e
    at (Some x) e (suc j) lt rest = rest j (omega arith)

pub chosen-length : {A : Type 0} (xs : List A) (places : List ℕ) → All (λ c. c < length xs) places → length (chosen places xs) ≡ length places
chosen-length xs [] h = refl
chosen-length {A = A} xs (p ∷ places) h = at (slice_get xs p) refl (chosen-length xs places (λ k d m. h (suc k) d (omega arith)))
  where
    at : (o : Option A) → slice_get xs p ≡ o → length (chosen places xs) ≡ length places → length (cons_option o (chosen places xs)) ≡ suc (length places)
    at None e rest = absurd (none-there xs p e (h 0 0 (omega arith)))
    at (Some x) e rest = ap suc rest

pub widths_step : (ks : List ColumnKind) (i : ℕ) (k : ColumnKind) → slice_get ks i ≡ Some k → sum_by width (drop i ks) ≡ width k + sum_by width (drop (suc i) ks)
widths_step [] i k e = absurd (cc)
widths_step (l ∷ ks) zero k e = let same : l ≡ k = cc in sum_by-cons width l ks ∙ ap (λ x. width x + sum_by width ks) same
widths_step (l ∷ ks) (suc i) k e = widths_step ks i k e

pub widths_more : (ks : List ColumnKind) (i : ℕ) (k : ColumnKind) → slice_get ks i ≡ Some k → sum_by width (drop i ks) ≡ width k + sum_by width (drop (i + 1) ks)
widths_more ks i k e = let more : suc i ≡ i + 1 = omega arith in widths_step ks i k e ∙ ap (λ n. width k + sum_by width (drop n ks)) more

pub nothing_left : (ks : List ColumnKind) (i : ℕ) → length ks ≤ i → sum_by width (drop i ks) ≡ 0
nothing_left [] zero h = refl
nothing_left [] (suc i) h = refl
nothing_left (k ∷ ks) zero h = absurd (omega arith)
nothing_left (k ∷ ks) (suc i) h = nothing_left ks i (omega arith)

-- the places of a key are within the kinds of the columns
pub kinds_within : (columns : List Column) (places : List ℕ) → All (λ c. c < length columns) places → All (λ c. c < length (map (λ (c : Column). c.kind) columns)) places
kinds_within columns places h = λ j e l. omega (arith, h j e l, length-map columns (λ (c : Column). c.kind))

pub kinds-length : (columns : List Column) (places : List ℕ) → All (λ c. c < length columns) places → length (chosen places (map (λ (c : Column). c.kind) columns)) ≡ length places
kinds-length columns places h = chosen-length (map (λ (c : Column). c.kind) columns) places (kinds_within columns places h)

pub widths_done : (columns : List Column) (places : List ℕ) (i : ℕ) → All (λ c. c < length columns) places → length places ≤ i → sum_by width (drop i (chosen places (map (λ (c : Column). c.kind) columns))) ≡ 0
widths_done columns places i h le = nothing_left (chosen places (map (λ (c : Column). c.kind) columns)) i (omega (arith, kinds-length columns places h))

pub same_txn-is : (a b : TxnName) → same_txn a b ≡ true → a ≡ b
same_txn-is a b h =
    let both = and_parts (eqb a.session b.session) (eqb a.ordinal b.ordinal) h in
    let by_session : ℕ → TxnName = λ s. record { session = s; ordinal = a.ordinal } in
    let by_ordinal : ℕ → TxnName = λ o. record { session = b.session; ordinal = o } in
    ap by_session (eqb-true a.session b.session both.0) ∙ ap by_ordinal (eqb-true a.ordinal b.ordinal both.1)

pub same_txn-itself : (a : TxnName) → same_txn a a ≡ true
same_txn-itself a = and_from (eqb a.session a.session) (eqb a.ordinal a.ordinal) (eq-eqb a.session a.session refl) (eq-eqb a.ordinal a.ordinal refl)

pub blanks-printable : (n : ℕ) → is_printable (replicate n 32) ≡ true
blanks-printable zero = refl
blanks-printable (suc n) = blanks-printable n

pub none_is_some : (end : Option Abort) → IsSome end → end ≡ None → ⊥
none_is_some None s h = absurd (cc s)
none_is_some (Some abort) s h = absurd (cc)

-- the tables before a place, with the one there, have no more than all
pub parts_within : (tables : List TableDef) (place : ℕ) (table : TableDef) → slice_get tables place ≡ Some table → parts_of (take place tables) + (length table.firsts + 1) ≤ parts_of tables
parts_within [] place table is = absurd (cc is)
parts_within (t ∷ tables) zero table is =
    let same : t ≡ table = cc is in
    let count : parts_of (t ∷ tables) ≡ length t.firsts + 1 + parts_of tables = sum_by-cons (λ (d : TableDef). length d.firsts + 1) t tables in
    let here : 0 + (length t.firsts + 1) ≤ parts_of (t ∷ tables) = omega (arith, count) in
    subst (λ (x : TableDef). 0 + (length x.firsts + 1) ≤ parts_of (t ∷ tables)) same here
parts_within (t ∷ tables) (suc place) table is =
    let more = parts_within tables place table is in
    let count : parts_of (t ∷ tables) ≡ length t.firsts + 1 + parts_of tables = sum_by-cons (λ (d : TableDef). length d.firsts + 1) t tables in
    let front : parts_of (take (suc place) (t ∷ tables)) ≡ length t.firsts + 1 + parts_of (take place tables) = sum_by-cons (λ (d : TableDef). length d.firsts + 1) t (take place tables) in
    omega (arith, more, count, front)

pub alphabetic_in_name : (b : ℕ) → is_ascii_alphabetic b ≡ true → is_name_byte b ≡ true
alphabetic_in_name b h = grind (arith, nat_tests)

pub kind_at : (columns : List Column) (places : List ℕ) (i : ℕ) (d : Column) → All (λ c. c < length columns) places → i < length places
    → slice_get (chosen places (map (λ (c : Column). c.kind) columns)) i ≡ Some (get_or columns (get_or places i 0) d).kind
kind_at columns places i d h lt =
    let ks : List ColumnKind = map (λ (c : Column). c.kind) columns in
    let all : All (λ c. c < length ks) places = kinds_within columns places h in
    chosen_at ks places i all lt ∙ slice_get-map (λ (c : Column). c.kind) columns (get_or places i 0) ∙ ap (option_map (λ (c : Column). c.kind)) (slice_get-get_or columns (get_or places i 0) d (h i 0 lt))
