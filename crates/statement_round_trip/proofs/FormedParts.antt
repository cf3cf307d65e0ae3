-- The words of lists, names and values are formed words.
use Rattle.std.proofs.Common.{◌≡◌, ◌≤◌, ◌<◌, ℕ, ℤ, zero, suc, pos, negsuc, ◌^◌, List, [], ◌∷◌, ◌++◌, length, take, Bool, true, false, ◌&&◌, refl, sym, subst, arith}
use Rattle.std.proofs.lemmas.Bool.Decides.{nat_tests}
use Rattle.std.specs.Prelude.{flat_map, nat_le, slice_get, ◌==◌}
use Rattle.std.specs.Int.{is_in_range}
use Rattle.std.specs.List.{list_all, AllByRecursion}
use Rattle.sql_base.specs.Names.{IsShortName}
use Rattle.sql_base.specs.Rows.{are_of_kinds, in_i64, is_of_kind, is_printable}
use Rattle.sql_base.specs.Tables.{are_leading, is_literal_of, IsWidth}
use Rattle.sql_base.specs.declared.tables.Column.{Column}
use Rattle.sql_base.specs.declared.tables.ColumnKind.{ColumnKind}
use Rattle.sql_base.specs.declared.tables.ColumnKind.TheVariants.{Int, Char}
use Rattle.sql_base.specs.declared.values.Value.{Value}
use Rattle.sql_base.specs.declared.values.Value.TheVariants as value
use Rattle.statement_words.specs.Spans.{IsFormedWord}
use Rattle.statement_words.specs.declared.tokens.Sign.TheVariants as signs
use Rattle.statement_words.specs.declared.tokens.Word.{Word}
use Rattle.statement_printer.proofs.Joining.{words_of_pos}
use Rattle.statement_printer.specs.Printing.{column_words, first_words, in_parentheses, int_words, length_unblanked, literal_words, name_word, row_words, sign, value_words, with_commas}
use Rattle.statement_round_trip.proofs.RowsFit.{as_long, take_short}
use Rattle.sql_base.proofs.Truths.{both_hold}
use Rattle.sql_base.proofs.ListFacts.{all-weaker}

abbrev pub AreFormed : List Word → Type 0
AreFormed words = AllByRecursion IsFormedWord words

-- ---- lists

pub formed_both : (us vs : List Word) → AreFormed us → AreFormed vs → AreFormed (us ++ vs)
formed_both [] vs h k = k
formed_both (u ∷ us) vs h k = (h.0, formed_both us vs h.1 k)

pub formed_all : {A : Type 0} → (words : A → List Word) (xs : List A) → AllByRecursion (λ x. AreFormed (words x)) xs → AreFormed (flat_map words xs)
formed_all words [] h = tt
formed_all words (x ∷ xs) h = formed_both (words x) (flat_map words xs) h.0 (formed_all words xs h.1)

formed_others : {A : Type 0} → (words : A → List Word) (xs : List A) → AllByRecursion (λ x. AreFormed (words x)) xs → AreFormed (flat_map (λ x. sign signs.Comma ∷ words x) xs)
formed_others words [] h = tt
formed_others words (x ∷ xs) h = (tt, formed_both (words x) (flat_map (λ x. sign signs.Comma ∷ words x) xs) h.0 (formed_others words xs h.1))

pub formed_commas : {A : Type 0} → (words : A → List Word) (xs : List A) → AllByRecursion (λ x. AreFormed (words x)) xs → AreFormed (with_commas words xs)
formed_commas words [] h = tt
formed_commas words (x ∷ xs) h = formed_both (words x) (flat_map (λ x. sign signs.Comma ∷ words x) xs) h.0 (formed_others words xs h.1)

pub formed_inside : (words : List Word) → AreFormed words → AreFormed (in_parentheses words)
formed_inside words h = (tt, formed_both words (sign signs.Close ∷ []) h (tt, tt))

-- ---- names

pub formed_place : (columns : List Column) → AllByRecursion (λ column. IsShortName column.name) columns → (c : ℕ) → c < length columns → IsFormedWord (name_word (slice_get columns c))
formed_place [] all c h = absurd (omega (arith, h))
formed_place (column ∷ columns) all zero h = all.0.name
formed_place (column ∷ columns) all (suc c) h = formed_place columns all.1 c (omega (arith, h))

pub formed_places : (columns : List Column) → AllByRecursion (λ column. IsShortName column.name) columns → (places : List ℕ) → AllByRecursion (λ c. c < length columns) places
    → AreFormed (with_commas (column_words columns) places)
formed_places columns all places within = formed_commas (column_words columns) places (all-weaker _ _ (λ c h. (formed_place columns all c h, tt)) places within)

-- ---- values

below : (n : ℕ) → in_i64 (pos n) ≡ true → n ≤ 2 ^ 63
below n h = grind (arith, nat_tests, h)

not_above : (n : ℕ) → in_i64 (negsuc n) ≡ true → suc n ≤ 2 ^ 63
not_above n h = grind (arith, nat_tests, h)

pub formed_int : (n : ℤ) → in_i64 n ≡ true → AreFormed (int_words n)
formed_int (pos n) h = subst AreFormed (sym (words_of_pos n)) (below n h, tt)
formed_int (negsuc n) h = (tt, (not_above n h, tt))

printable_front : (n : ℕ) (text : List ℕ) → is_printable text ≡ true → is_printable (take n text) ≡ true
printable_front zero text h = refl
printable_front (suc n) [] h = refl
printable_front (suc n) (b ∷ bs) h =
    let both = both_hold (is_in_range 32 126 b) (list_all (is_in_range 32 126) bs) h in
    of_both (is_in_range 32 126 b) (list_all (is_in_range 32 126) (take n bs)) both.0 (printable_front n bs both.1)
  where
    of_both : (a b : Bool) → a ≡ true → b ≡ true → (a && b) ≡ true
    of_both true b h k = k
    of_both false b h k = h

formed_value : (k : ColumnKind) (v : Value) → IsWidth k → is_of_kind k v ≡ true → AreFormed (value_words v)
formed_value Int (value.Int n) w h = formed_int n h
formed_value Int (value.Text text) w h = absurd (cc (h))
formed_value (Char n) (value.Int m) w h = absurd (cc (h))
formed_value (Char n) (value.Text text) w h =
    let both = both_hold (length text == n) (is_printable text) h in
    let long = as_long n text h in
    let short = take_short (length_unblanked text) text in
    ((omega (arith, long, short, w.1), printable_front (length_unblanked text) text both.1), tt)

formed_values : (ks : List ColumnKind) (vs : List Value) → AllByRecursion IsWidth ks → are_of_kinds ks vs ≡ true → AllByRecursion (λ v. AreFormed (value_words v)) vs
formed_values ks [] w h = tt
formed_values [] (v ∷ vs) w h = absurd (cc (h))
formed_values (k ∷ ks) (v ∷ vs) w h =
    let both = both_hold (is_of_kind k v) (are_of_kinds ks vs) h in
    (formed_value k v w.0 both.0, formed_values ks vs w.1 both.1)

pub formed_row : (ks : List ColumnKind) (vs : List Value) → AllByRecursion IsWidth ks → are_of_kinds ks vs ≡ true → AreFormed (row_words vs)
unfolding row_words
formed_row ks vs w h = formed_inside (with_commas value_words vs) (formed_commas value_words vs (formed_values ks vs w h))

formed_literal : (k : ColumnKind) (v : Value) → IsWidth k → is_literal_of k v ≡ true → AreFormed (literal_words v)
formed_literal Int (value.Int n) w h = formed_int n h
formed_literal Int (value.Text text) w h = absurd (cc (h))
formed_literal (Char n) (value.Int m) w h = absurd (cc (h))
formed_literal (Char n) (value.Text text) w h =
    let both = both_hold (nat_le (length text) n) (is_printable text) h in
    ((fits (length text) n both.0 w.1, both.1), tt)
  where
    fits : (m n : ℕ) → nat_le m n ≡ true → n ≤ 255 → m ≤ 255
    fits m n h w = grind (arith, nat_tests, h, w)

formed_literals : (ks : List ColumnKind) (vs : List Value) → AllByRecursion IsWidth ks → are_leading ks vs ≡ true → AllByRecursion (λ v. AreFormed (literal_words v)) vs
formed_literals ks [] w h = tt
formed_literals [] (v ∷ vs) w h = absurd (cc (h))
formed_literals (k ∷ ks) (v ∷ vs) w h =
    let both = both_hold (is_literal_of k v) (are_leading ks vs) h in
    (formed_literal k v w.0 both.0, formed_literals ks vs w.1 both.1)

pub formed_first : (ks : List ColumnKind) (vs : List Value) → AllByRecursion IsWidth ks → are_leading ks vs ≡ true → AreFormed (first_words vs)
unfolding first_words
formed_first ks vs w h = formed_inside (with_commas literal_words vs) (formed_commas literal_words vs (formed_literals ks vs w h))
