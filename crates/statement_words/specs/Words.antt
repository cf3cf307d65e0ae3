-- The words of a script, from its bytes.
use Rattle.std.specs.Prelude.{ℕ, ◌+◌, ◌-◌, ◌*◌, ◌^◌, ◌||◌, ◌&&◌, ◌==◌, nat_lt, nat_le, List, [], ◌∷◌, ◌++◌, length, take, Bool, true, false, Option, Some, None, Result, Ok, if◌then◌else◌}
use Rattle.std.specs.List.{prefix_len}
use Rattle.std.specs.Char.{is_ascii_digit, is_ascii_alphabetic}
use Rattle.sql_base.specs.Names.{is_name_byte}
use Rattle.statement_words.specs.declared.faults.WordReason.TheVariants.{BadByte, OpenText, NumberTooWide, TextTooLong}
use Rattle.statement_words.specs.declared.keywords.Keyword.{Keyword}
use Rattle.statement_words.specs.declared.tokens.Word.{Word}
use Rattle.statement_words.specs.declared.tokens.Word.TheVariants as word
use Rattle.statement_words.specs.declared.tokens.Sign.{Sign}
use Rattle.statement_words.specs.declared.tokens.Sign.TheVariants.{Open, Close, Comma, Semicolon, Plus, Minus, Times, Over, Equal, Unequal, Less, AtMost, Greater, AtLeast}
use Rattle.statement_words.specs.declared.tokens.Token.{Token}
use Rattle.statement_words.specs.Keywords.{keyword_of}
use Rattle.statement_words.specs.Reading.{Place, fails, ◌>>=◌}

-- a word, and how many bytes it takes
pub record Piece : Type 0 where
  pub word : Word
  pub len : ℕ

-- blank, tab, LF and CR
abbrev pub is_separator : ℕ → Bool
is_separator b = b == 32 || b == 9 || b == 10 || b == 13

-- a name that is a keyword is that keyword
abbrev pub keyword_or_name : Option Keyword → List ℕ → Word
keyword_or_name (Some k) bytes = word.Keyword k
keyword_or_name None bytes = word.Name bytes

-- the longest name, which may be a keyword
unfoldable pub name_at : List ℕ → Result Piece Place
name_at bytes = let n = prefix_len is_name_byte bytes in
    Ok (record { word = keyword_or_name (keyword_of (take n bytes)) (take n bytes); len = n })

-- the number that decimal digits spell behind others, which spell n
abbrev pub decimal_from : ℕ → List ℕ → ℕ
decimal_from n [] = n
decimal_from n (d ∷ ds) = decimal_from (n * 10 + (d - 48)) ds

-- the number that decimal digits spell
abbrev pub decimal : List ℕ → ℕ
decimal digits = decimal_from 0 digits

-- the longest number; 2 ^ 63 is the widest
unfoldable pub number_at : ℕ → List ℕ → Result Piece Place
number_at at bytes = let n = prefix_len is_ascii_digit bytes in
    if nat_lt (2 ^ 63) (decimal (take n bytes)) then fails NumberTooWide at
    else Ok (record { word = word.Number (decimal (take n bytes)); len = n })

-- the bytes of a text, and how many bytes it takes with its quotes
pub record Inside : Type 0 where
  pub text : List ℕ
  pub len : ℕ

-- a text that goes on; `quoted` says that a quote was just read, which closes it unless another follows
pub record TextState : Type 0 where
  pub text : List ℕ
  pub quoted : Bool

-- whether the text goes on behind a byte, and its state then
pub record TextStep : Type 0 where
  pub goes : Bool
  pub state : TextState

-- the text goes on
abbrev pub text_goes : List ℕ → Bool → Result TextStep Place
text_goes text quoted = Ok (record { goes = true; state = record { text = text; quoted = quoted } })

-- the quote before this byte has closed the text
abbrev pub text_ends : List ℕ → Result TextStep Place
text_ends text = Ok (record { goes = false; state = record { text = text; quoted = false } })

-- one byte of a text that begins at `at`, with n bytes of it before
abbrev pub text_step : ℕ → ℕ → TextState → ℕ → Result TextStep Place
text_step at n s b =
    if s.quoted then (if b == 39 then text_goes (s.text ++ b ∷ []) false else text_ends s.text)
    else (if b == 39 then text_goes s.text true
    else (if b == 10 then fails OpenText at
    else (if nat_le 32 b && nat_le b 126 then text_goes (s.text ++ b ∷ []) false
    else fails BadByte (at + n))))

-- the rest of a text that begins at `at`, with n bytes of it before
unfoldable pub text_from : ℕ → ℕ → TextState → List ℕ → Result Inside Place
text_from at n s [] = if s.quoted then Ok (record { text = s.text; len = n }) else fails OpenText at
text_from at n s (b ∷ bs) = text_step at n s b >>= λ next.
    if next.goes then text_from at (n + 1) next.state bs else Ok (record { text = next.state.text; len = n })

-- a text, from behind its opening quote at `at`
unfoldable pub text_at : ℕ → List ℕ → Result Piece Place
text_at at bytes = do
  x ← text_from at 1 (record { text = []; quoted = false }) bytes
  if nat_lt 255 (length x.text) then fails TextTooLong at else Ok (record { word = word.Text x.text; len = x.len })

-- a sign of n bytes
abbrev pub sign : Sign → ℕ → Result Piece Place
sign s n = Ok (record { word = word.Sign s; len = n })

-- the longest sign that begins with `<`, by the bytes behind it
abbrev pub less_at : List ℕ → Result Piece Place
less_at [] = sign Less 1
less_at (c ∷ cs) = if c == 61 then sign AtMost 2 else (if c == 62 then sign Unequal 2 else sign Less 1)

-- the longest sign that begins with `>`
abbrev pub greater_at : List ℕ → Result Piece Place
greater_at [] = sign Greater 1
greater_at (c ∷ cs) = if c == 61 then sign AtLeast 2 else sign Greater 1

-- the longest sign
unfoldable pub sign_at : ℕ → List ℕ → Result Piece Place
sign_at at [] = fails BadByte at
sign_at at (b ∷ bs) =
    if b == 40 then sign Open 1
    else (if b == 41 then sign Close 1
    else (if b == 44 then sign Comma 1
    else (if b == 59 then sign Semicolon 1
    else (if b == 43 then sign Plus 1
    else (if b == 45 then sign Minus 1
    else (if b == 42 then sign Times 1
    else (if b == 47 then sign Over 1
    else (if b == 61 then sign Equal 1
    else (if b == 60 then less_at bs
    else (if b == 62 then greater_at bs
    else fails BadByte at))))))))))

-- the longest word at the front of the bytes, which begin at `at`
unfoldable pub word_at : ℕ → List ℕ → Result Piece Place
word_at at [] = fails BadByte at
word_at at (b ∷ bs) =
    if is_ascii_alphabetic b then name_at (b ∷ bs)
    else (if is_ascii_digit b then number_at at (b ∷ bs)
    else (if b == 39 then text_at at bs
    else sign_at at (b ∷ bs)))

-- the tokens so far; the next `skip` bytes belong to the last of them
pub record Words : Type 0 where
  pub tokens : List Token
  pub skip : ℕ

-- one token more, on the bytes from `at` on
abbrev pub with_word : List Token → ℕ → Piece → Words
with_word tokens at x = record { tokens = tokens ++ record { word = x.word; first = at; end = at + x.len } ∷ []; skip = x.len - 1 }

-- a byte that belongs to no word yet separates, or begins the longest word at its place
abbrev pub fresh : ℕ → List Token → List ℕ → Result Words Place
fresh at tokens [] = Ok (record { tokens = tokens; skip = 0 })
fresh at tokens (b ∷ bs) =
    if is_separator b then Ok (record { tokens = tokens; skip = 0 })
    else (word_at at (b ∷ bs) >>= λ x. Ok (with_word tokens at x))

-- the byte at `at`, with those behind it
abbrev pub words_step : ℕ → Words → List ℕ → Result Words Place
words_step at s bytes = if nat_lt 0 s.skip then Ok (record { tokens = s.tokens; skip = s.skip - 1 }) else fresh at s.tokens bytes

-- the words of the bytes from `at` on, behind those that were read
unfoldable pub words_from : ℕ → Words → List ℕ → Result (List Token) Place
words_from at s [] = Ok s.tokens
words_from at s (b ∷ bs) = words_step at s (b ∷ bs) >>= λ next. words_from (at + 1) next bs

-- the words of a script, or its first fault
abbrev pub words_of : List ℕ → Result (List Token) Place
words_of bytes = words_from 0 (record { tokens = []; skip = 0 }) bytes
