-- The key columns of a row, one after the other.
use Rattle.std.proofs.Common.{◌≡◌, ℕ, zero, suc, ◌+◌, ◌<◌, List, [], ◌∷◌, ◌++◌, length, take, get_or, Bool, true, false, ◌&&◌, Option, Some, None, refl, ap, sym, ◌∙◌, arith, append_assoc}
use Rattle.std.specs.Prelude.{slice_get}
use Rattle.std.specs.List.{cons_option}
use Rattle.std.proofs.lemmas.List.{append-nil}
use Rattle.sql_base.proofs.Choosing.{chosen_more}
use Rattle.sql_base.specs.Rows.{chosen, key_value, key_values, are_of_kinds, is_of_kind}
use Rattle.sql_base.specs.declared.tables.ColumnKind.{ColumnKind}
use Rattle.sql_base.specs.declared.values.Value.{Value}

and_right : (a : Bool) {b : Bool} → (a && b) ≡ true → b ≡ true
and_right true h = h
and_right false h = absurd (cc)

-- values of kinds are as many as the kinds
pub are_of_kinds-length : (ks : List ColumnKind) (vs : List Value) → are_of_kinds ks vs ≡ true → length ks ≡ length vs
are_of_kinds-length [] [] h = refl
are_of_kinds-length [] (v ∷ vs) h = absurd (cc)
are_of_kinds-length (k ∷ ks) [] h = absurd (cc)
are_of_kinds-length (k ∷ ks) (v ∷ vs) h = ap suc (are_of_kinds-length ks vs (and_right (is_of_kind k v) h))

chosen_step : {A B : Type 0} (a : Option A) (b : Option B) (xs : List A) (ys : List B) → length xs ≡ length ys → length (cons_option a []) ≡ length (cons_option b []) → length (cons_option a xs) ≡ length (cons_option b ys)
chosen_step None None xs ys e h = e
chosen_step None (Some b) xs ys e h = absurd (cc)
chosen_step (Some a) None xs ys e h = absurd (cc)
chosen_step (Some a) (Some b) xs ys e h = ap suc e

found_alike : {A B : Type 0} (xs : List A) (ys : List B) (i : ℕ) → length xs ≡ length ys → length (cons_option (slice_get xs i) []) ≡ length (cons_option (slice_get ys i) [])
found_alike [] [] i e = refl
found_alike [] (y ∷ ys) i e = absurd (cc)
found_alike (x ∷ xs) [] i e = absurd (cc)
found_alike (x ∷ xs) (y ∷ ys) zero e = refl
found_alike (x ∷ xs) (y ∷ ys) (suc i) e = found_alike xs ys i (omega arith)

-- lists of one length give as many elements at the same places
pub chosen-lengths : {A B : Type 0} (places : List ℕ) (xs : List A) (ys : List B) → length xs ≡ length ys → length (chosen places xs) ≡ length (chosen places ys)
chosen-lengths [] xs ys e = refl
chosen-lengths (p ∷ places) xs ys e = chosen_step (slice_get xs p) (slice_get ys p) (chosen places xs) (chosen places ys) (chosen-lengths places xs ys e) (found_alike xs ys p e)

-- one more column behind as many kinds as values
pub key_values-push : (ks : List ColumnKind) (vs : List Value) (k : ColumnKind) (v : Value) → length ks ≡ length vs → key_values (ks ++ k ∷ []) (vs ++ v ∷ []) ≡ key_values ks vs ++ key_value k v
key_values-push [] [] k v e = append-nil (key_value k v)
key_values-push [] (x ∷ vs) k v e = absurd (cc)
key_values-push (l ∷ ks) [] k v e = absurd (cc)
key_values-push (l ∷ ks) (x ∷ vs) k v e = ap (λ bytes. key_value l x ++ bytes) (key_values-push ks vs k v (omega arith)) ∙ sym (append_assoc (key_value l x) (key_values ks vs) (key_value k v))

-- and one more place of a row
pub key_values_more : (ks : List ColumnKind) (vs : List Value) (places : List ℕ) (i place : ℕ) (k : ColumnKind) (v : Value) → length ks ≡ length vs → i < length places → place ≡ get_or places i 0 → slice_get ks place ≡ Some k → slice_get vs place ≡ Some v → key_values (chosen (take (i + 1) places) ks) (chosen (take (i + 1) places) vs) ≡ key_values (chosen (take i places) ks) (chosen (take i places) vs) ++ key_value k v
key_values_more ks vs places i place k v same lt e ek ev =
    ap (λ xs. key_values xs (chosen (take (i + 1) places) vs)) (chosen_more places ks i place k lt e ek)
    ∙ ap (key_values (chosen (take i places) ks ++ k ∷ [])) (chosen_more places vs i place v lt e ev)
    ∙ key_values-push (chosen (take i places) ks) (chosen (take i places) vs) k v (chosen-lengths (take i places) ks vs same)
