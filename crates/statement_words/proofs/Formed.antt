-- Each word that is read is in its form.
use Rattle.std.proofs.Common.{◌≡◌, ◌^◌, ◌+◌, ℕ, List, [], ◌∷◌, ◌++◌, length, take, ◌-◌, Bool, true, false, ◌&&◌, ◌==◌, cond, ltb, leb, Option, Some, None, Result, Ok, Err, refl, sym, ap, ◌∙◌, subst, arith}
use Rattle.std.specs.Prelude.{is_some, map, IfOk}
use Rattle.std.specs.List.{list_all, list_any, find, prefix_len, AllByRecursion}
use Rattle.std.specs.Char.{is_ascii_digit, is_ascii_alphabetic}
use Rattle.std.specs.Str.{bytes_eq}
use Rattle.std.specs.List.{take_while}
use Rattle.std.proofs.lemmas.Bool.{ltb-false}
use Rattle.std.proofs.lemmas.List.Sums.{take_while-cons}
use Rattle.std.proofs.lemmas.List.Folds.{list_all-append}
use Rattle.std.proofs.lemmas.Bool.Decides.{nat_tests}
use Rattle.sql_base.specs.Names.{is_name_byte, is_keyword, begins_with_letter}
use Rattle.sql_base.specs.Names as base
use Rattle.sql_base.specs.Rows.{is_printable}
use Rattle.statement_words.specs.declared.faults.WordFault.{WordFault}
use Rattle.statement_words.specs.declared.faults.WordReason.TheVariants.{TextTooLong}
use Rattle.statement_words.specs.declared.keywords.Keyword.{Keyword}
use Rattle.statement_words.specs.declared.tokens.Sign.{Sign}
use Rattle.statement_words.specs.declared.tokens.Sign.TheVariants.{Open, Close, Comma, Semicolon, Plus, Minus, Times, Over, Equal, Unequal, Less, AtMost, Greater, AtLeast}
use Rattle.statement_words.specs.declared.tokens.Token.{Token}
use Rattle.statement_words.specs.declared.tokens.Word.TheVariants as word
use Rattle.statement_words.specs.Keywords.{spelling, keywords, keyword_of}
use Rattle.statement_words.specs.Reading.{Place, fails, Gives}
use Rattle.statement_words.specs.Spans.{IsFormed, IsFormedWord}
use Rattle.statement_words.specs.Words.{Piece, Words, keyword_or_name, name_at, decimal, number_at, Inside, TextState, TextStep, text_step, text_from, text_goes, text_ends, text_at, sign, less_at, greater_at, sign_at, word_at, is_separator, with_word, fresh, words_step, words_from, words_of}
use Rattle.statement_words.proofs.Pieces.{chosen, bound}
use Rattle.sql_base.proofs.RowFacts.{alphabetic_in_name}

-- ---- keywords

found_any : (p : List ℕ → Bool) (ks : List Keyword) → is_some (find (λ k. p (spelling k)) ks) ≡ list_any p (map spelling ks)
found_any p [] = refl
found_any p (k ∷ ks) = by_test (p (spelling k)) refl (found_any p ks)
  where
    by_test : (b : Bool) → p (spelling k) ≡ b → is_some (find (λ j. p (spelling j)) ks) ≡ list_any p (map spelling ks)
        → is_some (find (λ j. p (spelling j)) (k ∷ ks)) ≡ list_any p (map spelling (k ∷ ks))
    by_test true h later = rw h refl
    by_test false h later = rw h later

-- the spellings are the words of the language
spellings : map spelling keywords ≡ base.keywords
spellings = refl

-- the bytes are a keyword exactly where they are one of the words that name nothing
pub keyword_of-known : (bytes : List ℕ) → is_some (keyword_of bytes) ≡ is_keyword bytes
unfolding keyword_of
keyword_of-known bytes = found_any (bytes_eq bytes) keywords ∙ ap (list_any (bytes_eq bytes)) spellings

unknown_word : (bytes : List ℕ) → keyword_of bytes ≡ None → is_keyword bytes ≡ false
unknown_word bytes h = sym (keyword_of-known bytes) ∙ ap is_some h

-- ---- names

passing : (p : ℕ → Bool) (bytes : List ℕ) → list_all p (take_while p bytes) ≡ true
passing p [] = refl
passing p (b ∷ bs) = by_test (p b) refl (passing p bs)
  where
    by_test : (t : Bool) → p b ≡ t → list_all p (take_while p bs) ≡ true → list_all p (take_while p (b ∷ bs)) ≡ true
    by_test true h later = rw (take_while-cons p b bs, h) (rw (h, later) refl)
    by_test false h later = rw (take_while-cons p b bs, h) refl

begins : (b : ℕ) (bs : List ℕ) → is_name_byte b ≡ true → is_ascii_alphabetic b ≡ true → begins_with_letter (take_while is_name_byte (b ∷ bs)) ≡ true
begins b bs h letter = rw (take_while-cons is_name_byte b bs, h) letter

named : (bytes : List ℕ) (found : Option Keyword) → keyword_of bytes ≡ found → begins_with_letter bytes ≡ true → list_all is_name_byte bytes ≡ true
    → IsFormedWord (keyword_or_name found bytes)
named bytes (Some k) h letter all = tt
named bytes None h letter all = record { letter = letter; bytes = all; free = unknown_word bytes h }

name_formed : (b : ℕ) (bs : List ℕ) (x : Piece) → is_ascii_alphabetic b ≡ true → name_at (b ∷ bs) ≡ Ok x → IsFormedWord x.word
unfolding name_at
name_formed b bs x letter h =
    let name : List ℕ = take_while is_name_byte (b ∷ bs) in
    let piece : Piece = record { word = keyword_or_name (keyword_of name) name; len = prefix_len is_name_byte (b ∷ bs) } in
    let same : piece ≡ x = cc in
    subst (λ (y : Piece). IsFormedWord y.word) same
    (named name (keyword_of name) refl (begins b bs (alphabetic_in_name b letter) letter) (passing is_name_byte (b ∷ bs)))

-- ---- numbers

number_formed : (at : ℕ) (bytes : List ℕ) (x : Piece) → number_at at bytes ≡ Ok x → IsFormedWord x.word
unfolding number_at
number_formed at bytes x h =
    let n : ℕ = prefix_len is_ascii_digit bytes in
    let piece : Piece = record { word = word.Number (decimal (take n bytes)); len = n } in
    chosen (ltb (2 ^ 63) (decimal (take n bytes))) _ (Ok piece) (Ok x) (λ wide bad. cc) (λ fits same.
    let e : piece ≡ x = cc in
    subst (λ (y : Piece). IsFormedWord y.word) e (ltb-false (2 ^ 63) (decimal (take n bytes)) fits)) h

-- ---- texts

one_more : (text : List ℕ) (b : ℕ) → is_printable text ≡ true → (leb 32 b && leb b 126) ≡ true → is_printable (text ++ b ∷ []) ≡ true
one_more text b h fits = list_all-append _ text (b ∷ []) ∙ rw (h, fits) refl

-- one byte keeps a text printable
stepped : (at n : ℕ) (text : List ℕ) (was : Bool) (b : ℕ) (t : TextStep) → is_printable text ≡ true
    → text_step at n (record { text = text; quoted = was }) b ≡ Ok t → is_printable t.state.text ≡ true
stepped at n text true b t printable h =
    chosen (b == 39) (text_goes (text ++ b ∷ []) false) (text_ends text) (Ok t)
    (λ is same. let e : record { goes = true; state = record { text = text ++ b ∷ []; quoted = false } } ≡ t = cc in
    let fits : (leb 32 b && leb b 126) ≡ true = grind (arith, nat_tests) in
    subst (λ (y : TextStep). is_printable y.state.text ≡ true) e (one_more text b printable fits))
    (λ is same. let e : record { goes = false; state = record { text = text; quoted = false } } ≡ t = cc in
    subst (λ (y : TextStep). is_printable y.state.text ≡ true) e printable) h
stepped at n text false b t printable h =
    chosen (b == 39) (text_goes text true) _ (Ok t)
    (λ is same. let e : record { goes = true; state = record { text = text; quoted = true } } ≡ t = cc in
    subst (λ (y : TextStep). is_printable y.state.text ≡ true) e printable)
    (λ plain more. chosen (b == 10) _ _ (Ok t) (λ is same. cc) (λ line rest.
    chosen (leb 32 b && leb b 126) (text_goes (text ++ b ∷ []) false) _ (Ok t)
    (λ fits same. let e : record { goes = true; state = record { text = text ++ b ∷ []; quoted = false } } ≡ t = cc in
    subst (λ (y : TextStep). is_printable y.state.text ≡ true) e (one_more text b printable fits))
    (λ is same. cc) rest) more) h

text_printable : (at n : ℕ) (s : TextState) (bytes : List ℕ) (y : Inside) → is_printable s.text ≡ true → text_from at n s bytes ≡ Ok y → is_printable y.text ≡ true
unfolding text_from
text_printable at n s [] y printable h =
    chosen s.quoted (Ok (record { text = s.text; len = n })) _ (Ok y)
    (λ was same. let e : record { text = s.text; len = n } ≡ y = cc in subst (λ (z : Inside). is_printable z.text ≡ true) e printable)
    (λ was same. cc) h
text_printable at n s (b ∷ bs) y printable h =
    let next : (t : TextStep) × (text_step at n s b ≡ Ok t) × (cond t.goes (text_from at (n + 1) t.state bs) (Ok (record { text = t.state.text; len = n })) ≡ Ok y) =
    bound (text_step at n s b) _ y h in
    let still : is_printable next.0.state.text ≡ true = stepped at n s.text s.quoted b next.0 printable next.1 in
    chosen next.0.goes (text_from at (n + 1) next.0.state bs) (Ok (record { text = next.0.state.text; len = n })) (Ok y)
    (λ goes more. text_printable at (n + 1) next.0.state bs y still more)
    (λ ends same. let e : record { text = next.0.state.text; len = n } ≡ y = cc in subst (λ (z : Inside). is_printable z.text ≡ true) e still) next.2

text_formed : (at : ℕ) (bytes : List ℕ) (x : Piece) → text_at at bytes ≡ Ok x → IsFormedWord x.word
unfolding text_at
text_formed at bytes x h =
    let start : TextState = record { text = []; quoted = false } in
    let next : (y : Inside) × (text_from at 1 start bytes ≡ Ok y) × (cond (ltb 255 (length y.text)) (fails TextTooLong at) (Ok (record { word = word.Text y.text; len = y.len })) ≡ Ok x) =
    bound (text_from at 1 start bytes) _ x h in
    let piece : Piece = record { word = word.Text next.0.text; len = next.0.len } in
    chosen (ltb 255 (length next.0.text)) (fails TextTooLong at) (Ok piece) (Ok x) (λ long bad. cc)
    (λ short same. let e : piece ≡ x = cc in
    subst (λ (y : Piece). IsFormedWord y.word) e (ltb-false 255 (length next.0.text) short, text_printable at 1 start bytes next.0 refl next.1)) next.2

-- ---- signs

sign_is : (s : Sign) (n : ℕ) (x : Piece) → sign s n ≡ Ok x → IsFormedWord x.word
sign_is s n x h = let piece : Piece = record { word = word.Sign s; len = n } in
    let e : piece ≡ x = cc in subst (λ (y : Piece). IsFormedWord y.word) e tt

or_sign : (b : Bool) (s : Sign) (n : ℕ) (other : Result Piece Place) (x : Piece) → (other ≡ Ok x → IsFormedWord x.word) → cond b (sign s n) other ≡ Ok x → IsFormedWord x.word
or_sign true s n other x later h = sign_is s n x h
or_sign false s n other x later h = later h

less_formed : (bs : List ℕ) (x : Piece) → less_at bs ≡ Ok x → IsFormedWord x.word
less_formed [] x h = sign_is Less 1 x h
less_formed (c ∷ cs) x h = or_sign (c == 61) AtMost 2 _ x (or_sign (c == 62) Unequal 2 _ x (sign_is Less 1 x)) h

greater_formed : (bs : List ℕ) (x : Piece) → greater_at bs ≡ Ok x → IsFormedWord x.word
greater_formed [] x h = sign_is Greater 1 x h
greater_formed (c ∷ cs) x h = or_sign (c == 61) AtLeast 2 _ x (sign_is Greater 1 x) h

sign_formed : (at b : ℕ) (bs : List ℕ) (x : Piece) → sign_at at (b ∷ bs) ≡ Ok x → IsFormedWord x.word
unfolding sign_at
sign_formed at b bs x h =
    or_sign (b == 40) Open 1 _ x (or_sign (b == 41) Close 1 _ x (or_sign (b == 44) Comma 1 _ x (or_sign (b == 59) Semicolon 1 _ x
    (or_sign (b == 43) Plus 1 _ x (or_sign (b == 45) Minus 1 _ x (or_sign (b == 42) Times 1 _ x (or_sign (b == 47) Over 1 _ x
    (or_sign (b == 61) Equal 1 _ x (λ rest.
    chosen (b == 60) (less_at bs) _ (Ok x) (λ is same. less_formed bs x same)
    (λ other more. chosen (b == 62) (greater_at bs) _ (Ok x) (λ is same. greater_formed bs x same) (λ none bad. cc) more) rest))))))))) h

word_formed : (at : ℕ) (bytes : List ℕ) (x : Piece) → word_at at bytes ≡ Ok x → IsFormedWord x.word
unfolding word_at
word_formed at [] x h = cc
word_formed at (b ∷ bs) x h =
    chosen (is_ascii_alphabetic b) (name_at (b ∷ bs)) _ (Ok x) (λ is same. name_formed b bs x is same)
    (λ no_letter more. chosen (is_ascii_digit b) (number_at at (b ∷ bs)) _ (Ok x) (λ is same. number_formed at (b ∷ bs) x same)
    (λ no_digit rest. chosen (b == 39) (text_at at bs) (sign_at at (b ∷ bs)) (Ok x) (λ is same. text_formed at bs x same)
    (λ no_quote last. sign_formed at b bs x last) rest) more) h

-- ---- all words

all_more : (ts : List Token) (t : Token) → AllByRecursion IsFormed ts → IsFormed t → AllByRecursion IsFormed (ts ++ t ∷ [])
all_more [] t h is = (is, tt)
all_more (u ∷ us) t h is = (h.0, all_more us t h.1 is)

fresh_formed : (at b : ℕ) (bs : List ℕ) (tokens : List Token) (next : Words) → AllByRecursion IsFormed tokens → fresh at tokens (b ∷ bs) ≡ Ok next → AllByRecursion IsFormed next.tokens
fresh_formed at b bs tokens next all h =
    chosen (is_separator b) (Ok (record { tokens = tokens; skip = 0 })) _ (Ok next)
    (λ blank same. let e : record { tokens = tokens; skip = 0 } ≡ next = cc in subst (λ (w : Words). AllByRecursion IsFormed w.tokens) e all)
    (λ plain more. let read : (x : Piece) × (word_at at (b ∷ bs) ≡ Ok x) × (Ok (with_word tokens at x) ≡ Ok next) = bound (word_at at (b ∷ bs)) _ next more in
    let e : with_word tokens at read.0 ≡ next = cc in
    subst (λ (w : Words). AllByRecursion IsFormed w.tokens) e (all_more tokens _ all (word_formed at (b ∷ bs) read.0 read.1))) h

step_formed : (at b : ℕ) (bs : List ℕ) (s next : Words) → AllByRecursion IsFormed s.tokens → words_step at s (b ∷ bs) ≡ Ok next → AllByRecursion IsFormed next.tokens
step_formed at b bs s next all h =
    chosen (ltb 0 s.skip) (Ok (record { tokens = s.tokens; skip = s.skip - 1 })) _ (Ok next)
    (λ some same. let e : record { tokens = s.tokens; skip = s.skip - 1 } ≡ next = cc in subst (λ (w : Words). AllByRecursion IsFormed w.tokens) e all)
    (λ none more. fresh_formed at b bs s.tokens next all more) h

run_formed : (at : ℕ) (s : Words) (bytes : List ℕ) (tokens : List Token) → AllByRecursion IsFormed s.tokens → words_from at s bytes ≡ Ok tokens → AllByRecursion IsFormed tokens
unfolding words_from
run_formed at s [] tokens all h = let e : s.tokens ≡ tokens = cc in subst (AllByRecursion IsFormed) e all
run_formed at s (b ∷ bs) tokens all h =
    let read : (next : Words) × (words_step at s (b ∷ bs) ≡ Ok next) × (words_from (at + 1) next bs ≡ Ok tokens) = bound (words_step at s (b ∷ bs)) _ tokens h in
    run_formed (at + 1) read.0 bs tokens (step_formed at b bs s read.0 all read.1) read.2

-- the words of bytes are in their form
pub words_formed : (text : List ℕ) (tokens : List Token) → words_of text ≡ Ok tokens → AllByRecursion IsFormed tokens
words_formed text tokens h = run_formed 0 (record { tokens = []; skip = 0 }) text tokens tt h

pub read_formed : (text : List ℕ) (read : Result (List Token) WordFault) → Gives (λ x. x) read (words_of text) → IfOk read (AllByRecursion IsFormed)
read_formed text (Ok tokens) h = words_formed text tokens h
read_formed text (Err e) h = tt
