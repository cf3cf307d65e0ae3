-- The longest word at a place is written on the bytes that it takes.
use Rattle.std.proofs.Common.{◌≡◌, ◌≤◌, ◌<◌, ◌^◌, ◌+◌, ℕ, List, [], ◌∷◌, ◌++◌, length, take, Bool, true, false, ◌||◌, ◌&&◌, ◌==◌, cond, ltb, leb, Option, Some, None, Result, Ok, Err, refl, sym, ap, ◌∙◌, subst, arith, append_assoc, length-append}
use Rattle.std.specs.Prelude.{flat_map}
use Rattle.std.specs.List.{AllPass, prefix_len}
use Rattle.std.specs.Char.{is_ascii_digit, is_ascii_alphabetic}
use Rattle.std.specs.Str.{bytes_eq}
use Rattle.std.proofs.lemmas.Slice.Eq.{bytes_eq-Decides}
use Rattle.std.proofs.lemmas.List.{append-nil, get_or-take}
use Rattle.std.proofs.lemmas.List.Sums.{prefix_len-le-length, prefix_len_passes}
use Rattle.std.proofs.lemmas.List.Folds.{length-prefix_len}
use Rattle.std.proofs.lemmas.Grind.{flat_map-append}
use Rattle.std.proofs.lemmas.Bool.Decides.{nat_tests}
use Rattle.std.proofs.Math.Seq.{take-append_seam}
use Rattle.sql_base.specs.Names.{is_name_byte}
use Rattle.statement_words.specs.declared.keywords.Keyword.{Keyword}
use Rattle.statement_words.specs.declared.tokens.Sign.{Sign}
use Rattle.statement_words.specs.declared.tokens.Sign.TheVariants.{Open, Close, Comma, Semicolon, Plus, Minus, Times, Over, Equal, Unequal, Less, AtMost, Greater, AtLeast}
use Rattle.statement_words.specs.declared.tokens.Word.TheVariants as word
use Rattle.statement_words.specs.declared.faults.WordReason.TheVariants.{TextTooLong}
use Rattle.statement_words.specs.Keywords.{spelling, keywords, keyword_of}
use Rattle.statement_words.specs.Reading.{Place, fails, ◌>>=◌}
use Rattle.statement_words.specs.Spans.{IsWritten, sign_spelling, quoted}
use Rattle.statement_words.specs.Words.{Piece, keyword_or_name, name_at, decimal, number_at, Inside, TextState, TextStep, text_step, text_from, text_goes, text_ends, text_at, sign, less_at, greater_at, sign_at, word_at}
use Rattle.sql_base.proofs.RowFacts.{alphabetic_in_name}
use Rattle.sql_base.proofs.ListFacts.{found_passes}

-- a word on the first bytes, one at least
pub record IsPiece (bytes : List ℕ) (x : Piece) : Type 0 where
  pub some : 0 < x.len
  pub within : x.len ≤ length bytes
  pub written : IsWritten x.word (take x.len bytes)

-- a choice gave one of the two
pub chosen : {A P : Type 0} (b : Bool) (here other : A) (x : A) → (b ≡ true → here ≡ x → P) → (b ≡ false → other ≡ x → P) → cond b here other ≡ x → P
chosen true here other x yes_it no_it h = yes_it refl h
chosen false here other x yes_it no_it h = no_it refl h

pub bound : {A B : Type 0} (r : Result A Place) (f : A → Result B Place) (y : B) → (r >>= f) ≡ Ok y → (x : A) × (r ≡ Ok x) × (f x ≡ Ok y)
bound (Ok x) f y h = (x, refl, h)
bound (Err e) f y h = cc

some_prefix : (p : ℕ → Bool) (b : ℕ) (bs : List ℕ) → p b ≡ true → 0 < prefix_len p (b ∷ bs)
some_prefix p b bs h = rw h (omega arith)

keyword_of-some : (bytes : List ℕ) (k : Keyword) → keyword_of bytes ≡ Some k → bytes ≡ spelling k
unfolding keyword_of
keyword_of-some bytes k h = (bytes_eq-Decides bytes (spelling k)).0 (found_passes (λ j. bytes_eq bytes (spelling j)) keywords k h)

named : (bytes : List ℕ) (found : Option Keyword) → keyword_of bytes ≡ found → IsWritten (keyword_or_name found bytes) bytes
named bytes None h = refl
named bytes (Some k) h = keyword_of-some bytes k h

name_piece : (b : ℕ) (bs : List ℕ) (x : Piece) → is_ascii_alphabetic b ≡ true → name_at (b ∷ bs) ≡ Ok x → IsPiece (b ∷ bs) x
unfolding name_at
name_piece b bs x letter h =
    let bytes : List ℕ = b ∷ bs in
    let n : ℕ = prefix_len is_name_byte bytes in
    let piece : Piece = record { word = keyword_or_name (keyword_of (take n bytes)) (take n bytes); len = n } in
    let same : piece ≡ x = cc in
    subst (IsPiece (b ∷ bs)) same (record {
      some = some_prefix is_name_byte b bs (alphabetic_in_name b letter);
      within = prefix_len-le-length is_name_byte bytes;
      written = named (take n bytes) (keyword_of (take n bytes)) refl;
    })

digits_pass : (bytes : List ℕ) → AllPass is_ascii_digit (take (prefix_len is_ascii_digit bytes) bytes)
digits_pass bytes k d below =
    let n : ℕ = prefix_len is_ascii_digit bytes in
    let lt : k < prefix_len is_ascii_digit bytes = omega (arith, length-prefix_len is_ascii_digit bytes) in
    ap is_ascii_digit (get_or-take n bytes k d lt) ∙ prefix_len_passes is_ascii_digit bytes k d lt

number_piece : (at b : ℕ) (bs : List ℕ) (x : Piece) → is_ascii_digit b ≡ true → number_at at (b ∷ bs) ≡ Ok x → IsPiece (b ∷ bs) x
unfolding number_at
number_piece at b bs x digit h =
    let bytes : List ℕ = b ∷ bs in
    let n : ℕ = prefix_len is_ascii_digit bytes in
    let piece : Piece = record { word = word.Number (decimal (take n bytes)); len = n } in
    chosen (ltb (2 ^ 63) (decimal (take n bytes))) _ (Ok piece) (Ok x) (λ is bad. cc) (λ is fine.
    let same : piece ≡ x = cc in
    subst (IsPiece (b ∷ bs)) same (record {
      some = some_prefix is_ascii_digit b bs digit;
      within = prefix_len-le-length is_ascii_digit bytes;
      written = (digits_pass bytes, refl);
    })) h

-- the bytes of a text up to its state
abbrev opened : TextState → List ℕ
opened s = 39 ∷ (flat_map quoted s.text ++ (cond s.quoted (39 ∷ []) []))

record Closes (n : ℕ) (front bytes : List ℕ) (y : Inside) : Type 0 where
  more : n ≤ y.len
  within : y.len ≤ n + length bytes
  written : take y.len (front ++ bytes) ≡ 39 ∷ (flat_map quoted y.text ++ 39 ∷ [])

-- a second quote stands for one
doubled_quote : (text : List ℕ) (b : ℕ) → (b == 39) ≡ true
    → opened (record { text = text; quoted = true }) ++ b ∷ [] ≡ opened (record { text = text ++ b ∷ []; quoted = false })
doubled_quote text b h =
    let is : 39 ≡ b = grind (arith, nat_tests) in
    let P : ℕ → Type 0 = λ c. (39 ∷ (flat_map quoted text ++ 39 ∷ [])) ++ c ∷ [] ≡ 39 ∷ (flat_map quoted (text ++ c ∷ []) ++ []) in
    let here : P 39 = simp (flat_map-append, append_assoc, append-nil) in
    subst P is here

-- any other byte stands for itself
other_byte : (text : List ℕ) (b : ℕ) → (b == 39) ≡ false
    → opened (record { text = text; quoted = false }) ++ b ∷ [] ≡ opened (record { text = text ++ b ∷ []; quoted = false })
other_byte text b h =
    let plain : quoted b ≡ b ∷ [] = rw h refl in
    simp (flat_map-append, append_assoc, append-nil) (rw plain refl)

first_quote : (text : List ℕ) (b : ℕ) → (b == 39) ≡ true
    → opened (record { text = text; quoted = false }) ++ b ∷ [] ≡ opened (record { text = text; quoted = true })
first_quote text b h =
    let is : 39 ≡ b = grind (arith, nat_tests) in
    let P : ℕ → Type 0 = λ c. (39 ∷ (flat_map quoted text ++ [])) ++ c ∷ [] ≡ 39 ∷ (flat_map quoted text ++ 39 ∷ []) in
    let here : P 39 = simp (append_assoc, append-nil) in
    subst P is here

-- one byte of a text goes on, or stands behind the closing quote
stepped : (at n : ℕ) (text : List ℕ) (was : Bool) (b : ℕ) (t : TextStep) (P : Type 0)
    → (t.goes ≡ true → opened (record { text = text; quoted = was }) ++ b ∷ [] ≡ opened t.state → P)
    → (t.goes ≡ false → was ≡ true → t.state.text ≡ text → P)
    → text_step at n (record { text = text; quoted = was }) b ≡ Ok t → P
stepped at n text true b t P goes ends h =
    chosen (b == 39) (text_goes (text ++ b ∷ []) false) (text_ends text) (Ok t)
    (λ is same. let e : record { goes = true; state = record { text = text ++ b ∷ []; quoted = false } } ≡ t = cc in
    goes (ap (λ x. x.goes) (sym e)) (doubled_quote text b is ∙ ap (λ (x : TextStep). opened x.state) e))
    (λ is same. let e : record { goes = false; state = record { text = text; quoted = false } } ≡ t = cc in
    ends (ap (λ x. x.goes) (sym e)) refl (ap (λ x. x.state.text) (sym e))) h
stepped at n text false b t P goes ends h =
    chosen (b == 39) (text_goes text true) _ (Ok t)
    (λ is same. let e : record { goes = true; state = record { text = text; quoted = true } } ≡ t = cc in
    goes (ap (λ x. x.goes) (sym e)) (first_quote text b is ∙ ap (λ (x : TextStep). opened x.state) e))
    (λ plain more. chosen (b == 10) _ _ (Ok t) (λ is same. cc) (λ line rest.
    chosen (leb 32 b && leb b 126) (text_goes (text ++ b ∷ []) false) _ (Ok t)
    (λ is same. let e : record { goes = true; state = record { text = text ++ b ∷ []; quoted = false } } ≡ t = cc in
    goes (ap (λ x. x.goes) (sym e)) (other_byte text b plain ∙ ap (λ (x : TextStep). opened x.state) e))
    (λ is same. cc) rest) more) h

ends_here : (n : ℕ) (front bytes text : List ℕ) (y : Inside) → length front ≡ n → front ≡ opened (record { text = text; quoted = true })
    → y.text ≡ text → y.len ≡ n → Closes n front bytes y
ends_here n front bytes text y len is same last = record {
  more = omega arith;
  within = omega arith;
  written = rw (last, ← len, same) (take-append_seam front bytes ∙ is);
}

one_more : (n : ℕ) (front : List ℕ) (b : ℕ) (bs : List ℕ) (y : Inside) → Closes (n + 1) (front ++ b ∷ []) bs y → Closes n front (b ∷ bs) y
one_more n front b bs y h = record {
  more = omega arith;
  within = omega arith;
  written = ap (take y.len) (sym (append_assoc front (b ∷ []) bs)) ∙ h.written;
}

closes_next : (at n : ℕ) (s : TextState) (front : List ℕ) (b : ℕ) (bs : List ℕ) (y : Inside) (t : TextStep)
    → length front ≡ n → front ≡ opened s → text_step at n s b ≡ Ok t
    → cond t.goes (text_from at (n + 1) t.state bs) (Ok (record { text = t.state.text; len = n })) ≡ Ok y
    → (length (front ++ b ∷ []) ≡ n + 1 → front ++ b ∷ [] ≡ opened t.state → text_from at (n + 1) t.state bs ≡ Ok y → Closes (n + 1) (front ++ b ∷ []) bs y)
    → Closes n front (b ∷ bs) y
closes_next at n s front b bs y t len is step rest later =
    stepped at n s.text s.quoted b t (Closes n front (b ∷ bs) y)
    (λ goes grows. let more = rw goes at rest in
    one_more n front b bs y (later (omega (arith, length-append front (b ∷ []))) (ap (λ f. f ++ b ∷ []) is ∙ grows) more))
    (λ ends was same. let done = rw ends at rest in let e : record { text = t.state.text; len = n } ≡ y = cc in
    ends_here n front (b ∷ bs) s.text y len (is ∙ ap (λ q. opened (record { text = s.text; quoted = q })) was)
    (ap (λ x. x.text) (sym e) ∙ same) (ap (λ x. x.len) (sym e))) step

text_closes : (at n : ℕ) (s : TextState) (front bytes : List ℕ) (y : Inside) → length front ≡ n → front ≡ opened s → text_from at n s bytes ≡ Ok y → Closes n front bytes y
unfolding text_from
text_closes at n s front [] y len is h =
    chosen s.quoted (Ok (record { text = s.text; len = n })) _ (Ok y)
    (λ was same. let e : record { text = s.text; len = n } ≡ y = cc in
    ends_here n front [] s.text y len (is ∙ ap (λ q. opened (record { text = s.text; quoted = q })) was) (ap (λ x. x.text) (sym e)) (ap (λ x. x.len) (sym e)))
    (λ was same. cc) h
text_closes at n s front (b ∷ bs) y len is h =
    let next : (t : TextStep) × (text_step at n s b ≡ Ok t) × (cond t.goes (text_from at (n + 1) t.state bs) (Ok (record { text = t.state.text; len = n })) ≡ Ok y) =
    bound (text_step at n s b) _ y h in
    closes_next at n s front b bs y next.0 len is next.1 next.2
    (λ longer grows more. text_closes at (n + 1) next.0.state (front ++ b ∷ []) bs y longer grows more)

of_text : (b : ℕ) (bs : List ℕ) (y : Inside) (x : Piece) → 39 ≡ b → Closes 1 (39 ∷ []) bs y
    → record { word = word.Text y.text; len = y.len } ≡ x → IsPiece (b ∷ bs) x
of_text b bs y x is closes same =
    let P : ℕ → Type 0 = λ c. IsPiece (c ∷ bs) (record { word = word.Text y.text; len = y.len }) in
    let here : P 39 = record { some = omega arith; within = omega arith; written = closes.written } in
    subst (IsPiece (b ∷ bs)) same (subst P is here)

text_piece : (at b : ℕ) (bs : List ℕ) (x : Piece) → (b == 39) ≡ true → text_at at bs ≡ Ok x → IsPiece (b ∷ bs) x
unfolding text_at
text_piece at b bs x is_quote h =
    let start : TextState = record { text = []; quoted = false } in
    let next : (y : Inside) × (text_from at 1 start bs ≡ Ok y) × (cond (ltb 255 (length y.text)) (fails TextTooLong at) (Ok (record { word = word.Text y.text; len = y.len })) ≡ Ok x) =
    bound (text_from at 1 start bs) _ x h in
    let is : 39 ≡ b = grind (arith, nat_tests) in
    let closes : Closes 1 (39 ∷ []) bs next.0 = text_closes at 1 start (39 ∷ []) bs next.0 refl refl next.1 in
    chosen (ltb 255 (length next.0.text)) (fails TextTooLong at) (Ok (record { word = word.Text next.0.text; len = next.0.len })) (Ok x) (λ long bad. cc)
    (λ short same. of_text b bs next.0 x is closes (cc)) next.2

one_byte : (b : ℕ) (bs : List ℕ) (c : ℕ) (s : Sign) (x : Piece) → sign_spelling s ≡ c ∷ [] → (b == c) ≡ true → sign s 1 ≡ Ok x → IsPiece (b ∷ bs) x
one_byte b bs c s x spelled same h =
    let is : b ≡ c = grind (arith, nat_tests) in
    let e : record { word = word.Sign s; len = 1 } ≡ x = cc in
    subst (IsPiece (b ∷ bs)) e (record { some = omega arith; within = omega arith; written = ap (λ d. d ∷ []) is ∙ sym spelled })

two_bytes : (b c : ℕ) (bs : List ℕ) (d e : ℕ) (s : Sign) (x : Piece) → sign_spelling s ≡ d ∷ e ∷ [] → (b == d) ≡ true → (c == e) ≡ true → sign s 2 ≡ Ok x → IsPiece (b ∷ c ∷ bs) x
two_bytes b c bs d e s x spelled first second h =
    let is : b ≡ d = grind (arith, nat_tests) in
    let also : c ≡ e = grind (arith, nat_tests) in
    let same : record { word = word.Sign s; len = 2 } ≡ x = cc in
    let both : b ∷ c ∷ [] ≡ d ∷ e ∷ [] = cc in
    subst (IsPiece (b ∷ c ∷ bs)) same (record { some = omega arith; within = omega arith; written = both ∙ sym spelled })

less_piece : (b : ℕ) (bs : List ℕ) (x : Piece) → (b == 60) ≡ true → less_at bs ≡ Ok x → IsPiece (b ∷ bs) x
less_piece b [] x is h = one_byte b [] 60 Less x refl is h
less_piece b (c ∷ cs) x is h =
    chosen (c == 61) (sign AtMost 2) _ (Ok x) (λ also same. two_bytes b c cs 60 61 AtMost x refl is also same)
    (λ no_equal more. chosen (c == 62) (sign Unequal 2) (sign Less 1) (Ok x) (λ also same. two_bytes b c cs 60 62 Unequal x refl is also same)
    (λ alone same. one_byte b (c ∷ cs) 60 Less x refl is same) more) h

greater_piece : (b : ℕ) (bs : List ℕ) (x : Piece) → (b == 62) ≡ true → greater_at bs ≡ Ok x → IsPiece (b ∷ bs) x
greater_piece b [] x is h = one_byte b [] 62 Greater x refl is h
greater_piece b (c ∷ cs) x is h =
    chosen (c == 61) (sign AtLeast 2) (sign Greater 1) (Ok x) (λ also same. two_bytes b c cs 62 61 AtLeast x refl is also same)
    (λ alone same. one_byte b (c ∷ cs) 62 Greater x refl is same) h

-- a test for a sign of one byte, and the tests behind it
or_sign : (b : ℕ) (bs : List ℕ) (c : ℕ) (s : Sign) (other : Result Piece Place) (x : Piece) → sign_spelling s ≡ c ∷ []
    → (other ≡ Ok x → IsPiece (b ∷ bs) x) → cond (b == c) (sign s 1) other ≡ Ok x → IsPiece (b ∷ bs) x
or_sign b bs c s other x spelled later h =
    chosen (b == c) (sign s 1) other (Ok x) (λ is same. one_byte b bs c s x spelled is same) (λ differs more. later more) h

sign_piece : (at b : ℕ) (bs : List ℕ) (x : Piece) → sign_at at (b ∷ bs) ≡ Ok x → IsPiece (b ∷ bs) x
unfolding sign_at
sign_piece at b bs x h =
    or_sign b bs 40 Open _ x refl (or_sign b bs 41 Close _ x refl (or_sign b bs 44 Comma _ x refl (or_sign b bs 59 Semicolon _ x refl
    (or_sign b bs 43 Plus _ x refl (or_sign b bs 45 Minus _ x refl (or_sign b bs 42 Times _ x refl (or_sign b bs 47 Over _ x refl
    (or_sign b bs 61 Equal _ x refl (λ rest.
    chosen (b == 60) (less_at bs) _ (Ok x) (λ is same. less_piece b bs x is same)
    (λ not_less more. chosen (b == 62) (greater_at bs) _ (Ok x) (λ is same. greater_piece b bs x is same) (λ none bad. cc) more) rest))))))))) h

pub word_piece : (at : ℕ) (bytes : List ℕ) (x : Piece) → word_at at bytes ≡ Ok x → IsPiece bytes x
unfolding word_at
word_piece at [] x h = cc
word_piece at (b ∷ bs) x h =
    chosen (is_ascii_alphabetic b) (name_at (b ∷ bs)) _ (Ok x) (λ is same. name_piece b bs x is same)
    (λ no_letter more. chosen (is_ascii_digit b) (number_at at (b ∷ bs)) _ (Ok x) (λ is same. number_piece at b bs x is same)
    (λ no_digit rest. chosen (b == 39) (text_at at bs) (sign_at at (b ∷ bs)) (Ok x) (λ is same. text_piece at b bs x is same)
    (λ no_quote last. sign_piece at b bs x last) rest) more) h
