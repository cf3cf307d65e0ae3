-- The bytes of printed words have these words.
use Rattle.std.proofs.Common.{◌≡◌, ◌≤◌, ◌<◌, ℕ, ◌+◌, ◌-◌, ◌^◌, List, [], ◌∷◌, ◌++◌, length, take, Bool, true, false, ◌&&◌, ◌==◌, Option, None, Result, Ok, cond, ltb, refl, sym, ap, ◌∙◌, append_assoc, arith, length-append}
use Rattle.std.specs.Prelude.{flat_map, decimal, nat_lt}
use Rattle.std.specs.List.{list_all, prefix_len, AllByRecursion}
use Rattle.std.specs.Char.{is_ascii_digit, is_ascii_alphabetic}
use Rattle.std.proofs.lemmas.Bool.Decides.{nat_tests}
use Rattle.std.proofs.lemmas.List.{append-nil}
use Rattle.std.proofs.lemmas.Fmt.{digits_decimal, digits_value-decimal, decimal_nonempty}
use Rattle.std.proofs.lemmas.Str.Parse.{IsDigitsTest, IsNumeralModel, numerals_by_fold}
use Rattle.std.specs.Int.{IsInRange}
use Rattle.std.proofs.Math.Seq.{take-append_seam}
use Rattle.statement_words.specs.Keywords.{keyword_of}
use Rattle.statement_words.specs.Reading.{Place, fails, ◌>>=◌}
use Rattle.statement_words.specs.declared.faults.WordReason.TheVariants.{NumberTooWide, TextTooLong}
use Rattle.statement_words.specs.Spans.{quoted}
use Rattle.statement_words.specs.Words as words
use Rattle.statement_words.specs.Words.{Piece, Words, Inside, TextState, is_separator, keyword_or_name, name_at, number_at, text_at, text_from, text_step, sign_at, word_at, with_word, fresh, words_step, words_from, words_of}
use Rattle.statement_words.specs.declared.keywords.Keyword.{Keyword}
use Rattle.statement_words.specs.declared.keywords.Keyword.TheVariants as keys
use Rattle.statement_words.specs.declared.tokens.Sign.{Sign}
use Rattle.statement_words.specs.declared.tokens.Sign.TheVariants as signs
use Rattle.statement_words.specs.declared.tokens.Token.{Token}
use Rattle.statement_words.specs.declared.tokens.Word.{Word}
use Rattle.statement_words.specs.declared.tokens.Word.TheVariants as word
use Rattle.statement_printer.specs.Bytes.{written, sign_gap, gap, bytes_of}
use Rattle.std.specs.Prelude.{nat_le}
use Rattle.sql_base.specs.Names.{is_name_byte, is_keyword, begins_with_letter}
use Rattle.statement_words.specs.Spans.{IsFormedWord}
use Rattle.statement_words.proofs.Formed.{keyword_of-known}
use Rattle.statement_round_trip.specs.Respelling.{tokens_at, WordsReadBack}
use Rattle.sql_base.proofs.Truths.{and_both, both_hold, none-is}
use Rattle.sql_base.proofs.RowFacts.{alphabetic_in_name}

abbrev begins_name : List ℕ → Bool
begins_name [] = false
begins_name (b ∷ bs) = is_ascii_alphabetic b && list_all is_name_byte bs

abbrev is_text_byte : ℕ → Bool
is_text_byte b = nat_le 32 b && nat_le b 126

-- ---- each word, with its gap behind it

abbrev piece : Word → Piece
piece w = record { word = w; len = length (written w) }

-- the word is read where it stands, and its first byte doesn't separate
record Found (at : ℕ) (w : Word) (rest : List ℕ) : Type 0 where
  pub first : ℕ
  pub more : List ℕ
  pub bytes : written w ≡ first ∷ more
  pub stands : is_separator first ≡ false
  pub read : word_at at (written w ++ gap w ∷ rest) ≡ Ok (piece w)

found_sign : (at : ℕ) (s : Sign) (rest : List ℕ) → Found at (word.Sign s) rest
unfolding word_at sign_at
found_sign at signs.Open rest = record { first = _; more = _; bytes = refl; stands = refl; read = refl }
found_sign at signs.Close rest = record { first = _; more = _; bytes = refl; stands = refl; read = refl }
found_sign at signs.Comma rest = record { first = _; more = _; bytes = refl; stands = refl; read = refl }
found_sign at signs.Semicolon rest = record { first = _; more = _; bytes = refl; stands = refl; read = refl }
found_sign at signs.Plus rest = record { first = _; more = _; bytes = refl; stands = refl; read = refl }
found_sign at signs.Minus rest = record { first = _; more = _; bytes = refl; stands = refl; read = refl }
found_sign at signs.Times rest = record { first = _; more = _; bytes = refl; stands = refl; read = refl }
found_sign at signs.Over rest = record { first = _; more = _; bytes = refl; stands = refl; read = refl }
found_sign at signs.Equal rest = record { first = _; more = _; bytes = refl; stands = refl; read = refl }
found_sign at signs.Unequal rest = record { first = _; more = _; bytes = refl; stands = refl; read = refl }
found_sign at signs.Less rest = record { first = _; more = _; bytes = refl; stands = refl; read = refl }
found_sign at signs.AtMost rest = record { first = _; more = _; bytes = refl; stands = refl; read = refl }
found_sign at signs.Greater rest = record { first = _; more = _; bytes = refl; stands = refl; read = refl }
found_sign at signs.AtLeast rest = record { first = _; more = _; bytes = refl; stands = refl; read = refl }

found_key : (at : ℕ) (k : Keyword) (rest : List ℕ) → Found at (word.Keyword k) rest
unfolding word_at name_at keyword_of
found_key at keys.Quantum rest = record { first = _; more = _; bytes = refl; stands = refl; read = refl }
found_key at keys.Buffer rest = record { first = _; more = _; bytes = refl; stands = refl; read = refl }
found_key at keys.Patience rest = record { first = _; more = _; bytes = refl; stands = refl; read = refl }
found_key at keys.Servers rest = record { first = _; more = _; bytes = refl; stands = refl; read = refl }
found_key at keys.Restart rest = record { first = _; more = _; bytes = refl; stands = refl; read = refl }
found_key at keys.Table rest = record { first = _; more = _; bytes = refl; stands = refl; read = refl }
found_key at keys.Int rest = record { first = _; more = _; bytes = refl; stands = refl; read = refl }
found_key at keys.Char rest = record { first = _; more = _; bytes = refl; stands = refl; read = refl }
found_key at keys.Primary rest = record { first = _; more = _; bytes = refl; stands = refl; read = refl }
found_key at keys.Key rest = record { first = _; more = _; bytes = refl; stands = refl; read = refl }
found_key at keys.Check rest = record { first = _; more = _; bytes = refl; stands = refl; read = refl }
found_key at keys.First rest = record { first = _; more = _; bytes = refl; stands = refl; read = refl }
found_key at keys.Load rest = record { first = _; more = _; bytes = refl; stands = refl; read = refl }
found_key at keys.Session rest = record { first = _; more = _; bytes = refl; stands = refl; read = refl }
found_key at keys.Select rest = record { first = _; more = _; bytes = refl; stands = refl; read = refl }
found_key at keys.From rest = record { first = _; more = _; bytes = refl; stands = refl; read = refl }
found_key at keys.Where rest = record { first = _; more = _; bytes = refl; stands = refl; read = refl }
found_key at keys.Update rest = record { first = _; more = _; bytes = refl; stands = refl; read = refl }
found_key at keys.Set rest = record { first = _; more = _; bytes = refl; stands = refl; read = refl }
found_key at keys.Delete rest = record { first = _; more = _; bytes = refl; stands = refl; read = refl }
found_key at keys.Insert rest = record { first = _; more = _; bytes = refl; stands = refl; read = refl }
found_key at keys.Into rest = record { first = _; more = _; bytes = refl; stands = refl; read = refl }
found_key at keys.Values rest = record { first = _; more = _; bytes = refl; stands = refl; read = refl }
found_key at keys.Lock rest = record { first = _; more = _; bytes = refl; stands = refl; read = refl }
found_key at keys.In rest = record { first = _; more = _; bytes = refl; stands = refl; read = refl }
found_key at keys.Share rest = record { first = _; more = _; bytes = refl; stands = refl; read = refl }
found_key at keys.Exclusive rest = record { first = _; more = _; bytes = refl; stands = refl; read = refl }
found_key at keys.Mode rest = record { first = _; more = _; bytes = refl; stands = refl; read = refl }
found_key at keys.For rest = record { first = _; more = _; bytes = refl; stands = refl; read = refl }
found_key at keys.Browse rest = record { first = _; more = _; bytes = refl; stands = refl; read = refl }
found_key at keys.Stable rest = record { first = _; more = _; bytes = refl; stands = refl; read = refl }
found_key at keys.Repeatable rest = record { first = _; more = _; bytes = refl; stands = refl; read = refl }
found_key at keys.Access rest = record { first = _; more = _; bytes = refl; stands = refl; read = refl }
found_key at keys.Commit rest = record { first = _; more = _; bytes = refl; stands = refl; read = refl }
found_key at keys.Rollback rest = record { first = _; more = _; bytes = refl; stands = refl; read = refl }
found_key at keys.Work rest = record { first = _; more = _; bytes = refl; stands = refl; read = refl }
found_key at keys.And rest = record { first = _; more = _; bytes = refl; stands = refl; read = refl }
found_key at keys.Or rest = record { first = _; more = _; bytes = refl; stands = refl; read = refl }
found_key at keys.Not rest = record { first = _; more = _; bytes = refl; stands = refl; read = refl }

prefix_all : (test : ℕ → Bool) (xs : List ℕ) (c : ℕ) (rest : List ℕ) → list_all test xs ≡ true → test c ≡ false → prefix_len test (xs ++ c ∷ rest) ≡ length xs
prefix_all test [] c rest all stop = rw stop refl
prefix_all test (x ∷ xs) c rest all stop =
    let parts = both_hold (test x) (list_all test xs) all in
    ap (λ (b : Bool). cond b (1 + prefix_len test (xs ++ c ∷ rest)) 0) parts.0 ∙ ap (λ (k : ℕ). 1 + k) (prefix_all test xs c rest parts.1 stop) ∙ omega arith

-- names

letter_stands : (b : ℕ) → is_ascii_alphabetic b ≡ true → is_separator b ≡ false
letter_stands b h = grind (arith, nat_tests)

letter_first : (at b : ℕ) (bs : List ℕ) → is_ascii_alphabetic b ≡ true → word_at at (b ∷ bs) ≡ name_at (b ∷ bs)
unfolding word_at
letter_first at b bs h = rw h refl

name_read : (name rest : List ℕ) → list_all is_name_byte name ≡ true → keyword_of name ≡ None → name_at (name ++ 32 ∷ rest) ≡ Ok (record { word = word.Name name; len = length name })
unfolding name_at
name_read name rest all plain =
    let n : prefix_len is_name_byte (name ++ 32 ∷ rest) ≡ length name = prefix_all is_name_byte name 32 rest all refl in
    let taken : take (length name) (name ++ 32 ∷ rest) ≡ name = take-append_seam name (32 ∷ rest) in
    ap (λ (k : ℕ). Ok (record { word = keyword_or_name (keyword_of (take k (name ++ 32 ∷ rest))) (take k (name ++ 32 ∷ rest)); len = k })) n
    ∙ ap (λ (l : List ℕ). Ok (record { word = keyword_or_name (keyword_of l) l; len = length name })) taken
    ∙ ap (λ (k : Option Keyword). Ok (record { word = keyword_or_name k name; len = length name })) plain

found_name : (at : ℕ) (name rest : List ℕ) → begins_name name ≡ true → keyword_of name ≡ None → Found at (word.Name name) rest
found_name at [] rest h plain = absurd cc
found_name at (b ∷ bs) rest h plain =
    let parts = both_hold (is_ascii_alphabetic b) (list_all is_name_byte bs) h in
    record {
      first = b;
      more = bs;
      bytes = refl;
      stands = letter_stands b parts.0;
      read = letter_first at b (bs ++ 32 ∷ rest) parts.0
          ∙ name_read (b ∷ bs) rest (and_both (is_name_byte b) (list_all is_name_byte bs) (alphabetic_in_name b parts.0) parts.1) plain;
    }

-- numbers

abbrev AreDigits : List ℕ → Type 0
AreDigits ds = list_all is_ascii_digit ds ≡ true

digit_range : (c : ℕ) → is_ascii_digit c ≡ true → IsInRange 48 57 c
digit_range c h = grind (arith, nat_tests)

range_digit : (c : ℕ) → IsInRange 48 57 c → is_ascii_digit c ≡ true
range_digit c h = grind (arith, nat_tests)

test_digits : IsDigitsTest AreDigits
test_digits = record {
  empty = refl;
  parts = λ c cs h. let p = both_hold (is_ascii_digit c) (list_all is_ascii_digit cs) h in (digit_range c p.0, p.1);
  more = λ c cs range all. and_both (is_ascii_digit c) (list_all is_ascii_digit cs) (range_digit c range) all;
}

numeral : IsNumeralModel AreDigits (words.decimal_from 0)
numeral = numerals_by_fold AreDigits test_digits words.decimal_from (record { empty = λ n. refl; more = λ n c cs range. refl })

digit_stands : (b : ℕ) → is_ascii_digit b ≡ true → is_separator b ≡ false
digit_stands b h = grind (arith, nat_tests)

no_letter : (b : ℕ) → is_ascii_digit b ≡ true → is_ascii_alphabetic b ≡ false
no_letter b h = grind (arith, nat_tests)

digit_first : (at b : ℕ) (bs : List ℕ) → is_ascii_digit b ≡ true → word_at at (b ∷ bs) ≡ number_at at (b ∷ bs)
unfolding word_at
digit_first at b bs h = rw (no_letter b h, h) refl

abbrev of_number : ℕ → ℕ → ℕ → Result Piece Place
of_number at value len = cond (ltb (2 ^ 63) value) (fails NumberTooWide at) (Ok (record { word = word.Number value; len = len }))

number_read : (at n : ℕ) (ds rest : List ℕ) → AreDigits ds → words.decimal ds ≡ n → n ≤ 2 ^ 63 → number_at at (ds ++ 32 ∷ rest) ≡ Ok (record { word = word.Number n; len = length ds })
unfolding number_at
number_read at n ds rest all value most =
    let long : prefix_len is_ascii_digit (ds ++ 32 ∷ rest) ≡ length ds = prefix_all is_ascii_digit ds 32 rest all refl in
    let taken : take (length ds) (ds ++ 32 ∷ rest) ≡ ds = take-append_seam ds (32 ∷ rest) in
    let wide : ltb (2 ^ 63) n ≡ false = grind (arith, nat_tests) in
    ap (λ (k : ℕ). of_number at (words.decimal (take k (ds ++ 32 ∷ rest))) k) long ∙ ap (λ (l : List ℕ). of_number at (words.decimal l) (length ds)) taken
    ∙ ap (λ (v : ℕ). of_number at v (length ds)) value ∙ ap (λ (b : Bool). cond b (fails NumberTooWide at) (Ok (record { word = word.Number n; len = length ds }))) wide

by_digits : (at n : ℕ) (ds rest : List ℕ) → decimal n ≡ ds → AreDigits ds → words.decimal ds ≡ n → 0 < length ds → n ≤ 2 ^ 63 → Found at (word.Number n) rest
by_digits at n [] rest e all value some most = absurd (omega arith)
by_digits at n (d ∷ ds) rest e all value some most =
    let first = (both_hold (is_ascii_digit d) (list_all is_ascii_digit ds) all).0 in
    record {
      first = d;
      more = ds;
      bytes = e;
      stands = digit_stands d first;
      read = ap (λ (l : List ℕ). word_at at (l ++ 32 ∷ rest)) e ∙ digit_first at d (ds ++ 32 ∷ rest) first ∙ number_read at n (d ∷ ds) rest all value most
          ∙ ap (λ (l : List ℕ). Ok (record { word = word.Number n; len = length l })) (sym e);
    }

found_number : (at n : ℕ) (rest : List ℕ) → n ≤ 2 ^ 63 → Found at (word.Number n) rest
found_number at n rest most =
    let below : n < 2 ^ 64 = omega arith in
    by_digits at n (decimal n) rest refl (digits_decimal numeral n below) (digits_value-decimal numeral n below) (decimal_nonempty n below) most

-- texts

abbrev text_state : List ℕ → Bool → TextState
text_state text was = record { text = text; quoted = was }

abbrev of_text : ℕ → Bool → Inside → Result Piece Place
of_text at long x = cond long (fails TextTooLong at) (Ok (record { word = word.Text x.text; len = x.len }))

quote_byte : (at n : ℕ) (text bs : List ℕ) (b : ℕ) → (b == 39) ≡ true
    → text_from at n (text_state text false) (39 ∷ 39 ∷ bs) ≡ text_from at (n + 2) (text_state (text ++ b ∷ []) false) bs
unfolding text_from
quote_byte at n text bs b h =
    let is : 39 ≡ b = grind (arith, nat_tests) in
    ap (λ (c : ℕ). text_from at (n + 1 + 1) (text_state (text ++ c ∷ []) false) bs) is ∙ ap (λ (k : ℕ). text_from at k (text_state (text ++ b ∷ []) false) bs) (omega arith)

plain_byte : (at n : ℕ) (text bs : List ℕ) (b : ℕ) → (b == 39) ≡ false → is_text_byte b ≡ true
    → text_from at n (text_state text false) (b ∷ bs) ≡ text_from at (n + 1) (text_state (text ++ b ∷ []) false) bs
unfolding text_from
plain_byte at n text bs b plain printable =
    let line : (b == 10) ≡ false = grind (arith, nat_tests) in
    rw (plain, line, printable) refl

one_byte : (at n : ℕ) (text bs : List ℕ) (b : ℕ) (is : Bool) → (b == 39) ≡ is → is_text_byte b ≡ true
    → text_from at n (text_state text false) (cond is (39 ∷ 39 ∷ []) (b ∷ []) ++ bs) ≡ text_from at (n + length (cond is (39 ∷ 39 ∷ []) (b ∷ []))) (text_state (text ++ b ∷ []) false) bs
one_byte at n text bs b true e h = quote_byte at n text bs b e
one_byte at n text bs b false e h = plain_byte at n text bs b e h

text_closes : (at n : ℕ) (text rest : List ℕ) → text_from at n (text_state text false) (39 ∷ 32 ∷ rest) ≡ Ok (record { text = text; len = n + 1 })
unfolding text_from
text_closes at n text rest = refl

text_reads : (at n : ℕ) (text xs rest : List ℕ) → list_all is_text_byte xs ≡ true
    → text_from at n (text_state text false) (flat_map quoted xs ++ 39 ∷ 32 ∷ rest) ≡ Ok (record { text = text ++ xs; len = n + length (flat_map quoted xs) + 1 })
text_reads at n text [] rest all = text_closes at n text rest ∙ ap (λ (l : List ℕ). Ok (record { text = l; len = n + 1 })) (sym (append-nil text)) ∙ ap (λ (k : ℕ). Ok (record { text = text ++ []; len = k })) (omega arith)
text_reads at n text (x ∷ xs) rest all =
    let parts = both_hold (is_text_byte x) (list_all is_text_byte xs) all in
    let behind = flat_map quoted xs ++ 39 ∷ 32 ∷ rest in
    ap (text_from at n (text_state text false)) (append_assoc (quoted x) (flat_map quoted xs) (39 ∷ 32 ∷ rest))
    ∙ one_byte at n text behind x (x == 39) refl parts.0
    ∙ text_reads at (n + length (quoted x)) (text ++ x ∷ []) xs rest parts.1
    ∙ ap (λ (l : List ℕ). Ok (record { text = l; len = n + length (quoted x) + length (flat_map quoted xs) + 1 })) (append_assoc text (x ∷ []) xs)
    ∙ ap (λ (k : ℕ). Ok (record { text = text ++ x ∷ xs; len = k })) (omega (arith, length-append (quoted x) (flat_map quoted xs)))

text_first : (at : ℕ) (bs : List ℕ) → word_at at (39 ∷ bs) ≡ text_at at bs
unfolding word_at
text_first at bs = refl

text_at_reads : (at : ℕ) (bs : List ℕ) (x : Inside) → text_from at 1 (text_state [] false) bs ≡ Ok x → nat_lt 255 (length x.text) ≡ false → text_at at bs ≡ Ok (record { word = word.Text x.text; len = x.len })
unfolding text_at
text_at_reads at bs x h short = ap (λ (r : Result Inside Place). r >>= λ y. of_text at (nat_lt 255 (length y.text)) y) h ∙ ap (λ (b : Bool). of_text at b x) short

found_text : (at : ℕ) (text rest : List ℕ) → length text ≤ 255 → list_all is_text_byte text ≡ true → Found at (word.Text text) rest
found_text at text rest most all =
    let short : nat_lt 255 (length text) ≡ false = grind (arith, nat_tests) in
    let inner = flat_map quoted text in
    record {
      first = 39;
      more = inner ++ 39 ∷ [];
      bytes = refl;
      stands = refl;
      read = ap (λ (l : List ℕ). word_at at (39 ∷ l)) (append_assoc inner (39 ∷ []) (32 ∷ rest)) ∙ text_first at (inner ++ 39 ∷ 32 ∷ rest)
          ∙ text_at_reads at (inner ++ 39 ∷ 32 ∷ rest) (record { text = text; len = 1 + length inner + 1 }) (text_reads at 1 [] text rest all) short
          ∙ ap (λ (k : ℕ). Ok (record { word = word.Text text; len = k })) (omega (arith, length-append inner (39 ∷ [])));
    }

-- a word that names something begins and goes on as a name, and is no keyword
named_begins : (name : List ℕ) → begins_with_letter name ≡ true → list_all is_name_byte name ≡ true → begins_name name ≡ true
named_begins [] letter all = letter
named_begins (b ∷ bs) letter all = and_both (is_ascii_alphabetic b) (list_all is_name_byte bs) letter (both_hold (is_name_byte b) (list_all is_name_byte bs) all).1

no_keyword : (name : List ℕ) → is_keyword name ≡ false → keyword_of name ≡ None
no_keyword name h = none-is (keyword_of name) (keyword_of-known name ∙ h)

found : (at : ℕ) (w : Word) (rest : List ℕ) → IsFormedWord w → Found at w rest
found at (word.Keyword k) rest h = found_key at k rest
found at (word.Name name) rest h = found_name at name rest (named_begins name h.letter h.bytes) (no_keyword name h.free)
found at (word.Number n) rest h = found_number at n rest h
found at (word.Text text) rest h = found_text at text rest h.0 h.1
found at (word.Sign s) rest h = found_sign at s rest

-- ---- one word behind the other

abbrev so_far : List Token → ℕ → Words
so_far tokens skip = record { tokens = tokens; skip = skip }

one_skipped : (at n b : ℕ) (bs : List ℕ) (tokens : List Token) → words_from at (so_far tokens (n + 1)) (b ∷ bs) ≡ words_from (at + 1) (so_far tokens n) bs
unfolding words_from
one_skipped at n b bs tokens =
    let more : nat_lt 0 (n + 1) ≡ true = grind (arith, nat_tests) in
    let less : n + 1 - 1 ≡ n = omega arith in
    ap (λ (t : Bool). cond t (Ok (so_far tokens (n + 1 - 1))) (fresh at tokens (b ∷ bs)) >>= λ next. words_from (at + 1) next bs) more
    ∙ ap (λ (k : ℕ). words_from (at + 1) (so_far tokens k) bs) less

-- the bytes of a word that was read
skipped : (at n : ℕ) (bs rest : List ℕ) (tokens : List Token) → n ≡ length bs → words_from at (so_far tokens n) (bs ++ rest) ≡ words_from (at + n) (so_far tokens 0) rest
skipped at n [] rest tokens e = ap (λ (k : ℕ). words_from at (so_far tokens k) rest) e ∙ ap (λ (k : ℕ). words_from k (so_far tokens 0) rest) (omega (arith, e))
skipped at n (b ∷ bs) rest tokens e =
    let up : n ≡ length bs + 1 = omega (arith, e) in
    ap (λ (k : ℕ). words_from at (so_far tokens k) (b ∷ (bs ++ rest))) up ∙ one_skipped at (length bs) b (bs ++ rest) tokens
    ∙ skipped (at + 1) (length bs) bs rest tokens refl ∙ ap (λ (k : ℕ). words_from k (so_far tokens 0) rest) (omega (arith, e))

separated : (at b : ℕ) (bs : List ℕ) (tokens : List Token) → is_separator b ≡ true → words_from at (so_far tokens 0) (b ∷ bs) ≡ words_from (at + 1) (so_far tokens 0) bs
unfolding words_from
separated at b bs tokens h =
    ap (λ (t : Bool). cond t (Ok (so_far tokens 0)) (word_at at (b ∷ bs) >>= λ x. Ok (with_word tokens at x)) >>= λ next. words_from (at + 1) next bs) h

begun : (at b : ℕ) (bs : List ℕ) (tokens : List Token) (x : Piece) → is_separator b ≡ false → word_at at (b ∷ bs) ≡ Ok x
    → words_from at (so_far tokens 0) (b ∷ bs) ≡ words_from (at + 1) (with_word tokens at x) bs
unfolding words_from
begun at b bs tokens x h read =
    ap (λ (t : Bool). cond t (Ok (so_far tokens 0)) (word_at at (b ∷ bs) >>= λ x. Ok (with_word tokens at x)) >>= λ next. words_from (at + 1) next bs) h
    ∙ ap (λ (r : Result Piece Place). (r >>= λ x. Ok (with_word tokens at x)) >>= λ next. words_from (at + 1) next bs) read

gap_separates : (w : Word) → is_separator (gap w) ≡ true
gap_separates (word.Keyword k) = refl
gap_separates (word.Name name) = refl
gap_separates (word.Number n) = refl
gap_separates (word.Text text) = refl
gap_separates (word.Sign s) = of_sign s
  where
    of_sign : (s : Sign) → is_separator (sign_gap s) ≡ true
    of_sign signs.Open = refl
    of_sign signs.Close = refl
    of_sign signs.Comma = refl
    of_sign signs.Semicolon = refl
    of_sign signs.Plus = refl
    of_sign signs.Minus = refl
    of_sign signs.Times = refl
    of_sign signs.Over = refl
    of_sign signs.Equal = refl
    of_sign signs.Unequal = refl
    of_sign signs.Less = refl
    of_sign signs.AtMost = refl
    of_sign signs.Greater = refl
    of_sign signs.AtLeast = refl

abbrev token_at : ℕ → Word → Token
token_at at w = record { word = w; first = at; end = at + length (written w) }

one_word : (at : ℕ) (w : Word) (rest : List ℕ) (tokens : List Token) → Found at w rest
    → words_from at (so_far tokens 0) (written w ++ gap w ∷ rest) ≡ words_from (at + length (written w) + 1) (so_far (tokens ++ token_at at w ∷ []) 0) rest
one_word at w rest tokens f =
    let next = tokens ++ token_at at w ∷ [] in
    let read : word_at at (f.first ∷ (f.more ++ gap w ∷ rest)) ≡ Ok (piece w) = ap (λ (l : List ℕ). word_at at (l ++ gap w ∷ rest)) (sym f.bytes) ∙ f.read in
    let long : length (written w) ≡ length f.more + 1 = ap (λ (l : List ℕ). length l) f.bytes ∙ omega arith in
    ap (λ (l : List ℕ). words_from at (so_far tokens 0) (l ++ gap w ∷ rest)) f.bytes
    ∙ begun at f.first (f.more ++ gap w ∷ rest) tokens (piece w) f.stands read
    ∙ skipped (at + 1) (length (written w) - 1) f.more (gap w ∷ rest) next (omega (arith, long))
    ∙ separated (at + 1 + (length (written w) - 1)) (gap w) rest next (gap_separates w)
    ∙ ap (λ (k : ℕ). words_from k (so_far next 0) rest) (omega (arith, long))

no_more : (at : ℕ) (tokens : List Token) → words_from at (so_far tokens 0) [] ≡ Ok tokens
unfolding words_from
no_more at tokens = refl

all_words : (at : ℕ) (ws : List Word) (tokens : List Token) → AllByRecursion IsFormedWord ws → words_from at (so_far tokens 0) (bytes_of ws) ≡ Ok (tokens ++ tokens_at at ws)
all_words at [] tokens h = no_more at tokens ∙ ap (λ (l : List Token). Ok l) (sym (append-nil tokens))
all_words at (w ∷ ws) tokens h =
    let end = at + length (written w) + 1 in
    ap (words_from at (so_far tokens 0)) (append_assoc (written w) (gap w ∷ []) (bytes_of ws))
    ∙ one_word at w (bytes_of ws) tokens (found at w (bytes_of ws) h.0)
    ∙ all_words end ws (tokens ++ token_at at w ∷ []) h.1
    ∙ ap (λ (l : List Token). Ok l) (append_assoc tokens (token_at at w ∷ []) (tokens_at end ws))

pub words_read_back : WordsReadBack
words_read_back ws h = all_words 0 ws [] h
