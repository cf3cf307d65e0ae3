-- Where the words of a script stand, and how each is written.
use Rattle.std.specs.Prelude.{◌≡◌, ◌≤◌, ◌<◌, ℕ, ◌^◌, List, [], ◌∷◌, ◌++◌, length, flat_map, slice_range, codes, true, if◌then◌else◌, ◌==◌}
use Rattle.std.specs.List.{AllPass}
use Rattle.std.specs.Char.{is_ascii_digit}
use Rattle.sql_base.specs.Names.{IsName}
use Rattle.sql_base.specs.Rows.{is_printable}
use Rattle.statement_words.specs.declared.tokens.Sign.{Sign}
use Rattle.statement_words.specs.declared.tokens.Sign.TheVariants as sign
use Rattle.statement_words.specs.declared.tokens.Token.{Token}
use Rattle.statement_words.specs.declared.tokens.Word.{Word}
use Rattle.statement_words.specs.declared.tokens.Word.TheVariants as word
use Rattle.statement_words.specs.Keywords.{spelling}
use Rattle.statement_words.specs.Words.{decimal}

-- the bytes that a sign is written as
abbrev pub sign_spelling : Sign → List ℕ
sign_spelling sign.Open = codes "("
sign_spelling sign.Close = codes ")"
sign_spelling sign.Comma = codes ","
sign_spelling sign.Semicolon = codes ";"
sign_spelling sign.Plus = codes "+"
sign_spelling sign.Minus = codes "-"
sign_spelling sign.Times = codes "*"
sign_spelling sign.Over = codes "/"
sign_spelling sign.Equal = codes "="
sign_spelling sign.Unequal = codes "<>"
sign_spelling sign.Less = codes "<"
sign_spelling sign.AtMost = codes "<="
sign_spelling sign.Greater = codes ">"
sign_spelling sign.AtLeast = codes ">="

-- a byte of a text, each quote written twice
abbrev pub quoted : ℕ → List ℕ
quoted b = if b == 39 then 39 ∷ 39 ∷ [] else b ∷ []

-- the bytes are a way to write the word; a number may have zeros before it
abbrev pub IsWritten : Word → List ℕ → Type 0
IsWritten (word.Keyword k) bytes = bytes ≡ spelling k
IsWritten (word.Name name) bytes = bytes ≡ name
IsWritten (word.Number n) bytes = AllPass is_ascii_digit bytes × (n ≡ decimal bytes)
IsWritten (word.Text text) bytes = bytes ≡ 39 ∷ (flat_map quoted text ++ 39 ∷ [])
IsWritten (word.Sign s) bytes = bytes ≡ sign_spelling s

-- a word in its form: a name that may name something, a number of at most 2 ^ 63, a printable text of at most 255 bytes
abbrev pub IsFormedWord : Word → Type 0
IsFormedWord (word.Keyword k) = Unit {0}
IsFormedWord (word.Name name) = IsName name
IsFormedWord (word.Number n) = n ≤ 2 ^ 63
IsFormedWord (word.Text text) = (length text ≤ 255) × (is_printable text ≡ true)
IsFormedWord (word.Sign s) = Unit {0}

abbrev pub IsFormed : Token → Type 0
IsFormed t = IsFormedWord t.word

-- a token on bytes of the text that are a way to write its word
abbrev pub StandsOn : List ℕ → Token → Type 0
StandsOn text t = (t.first < t.end) × IsWritten t.word (slice_range text t.first t.end)

-- the tokens stand on the text one behind the other, from one place on and not past another
abbrev pub Stand : List ℕ → ℕ → List Token → ℕ → Type 0
Stand text from [] until = from ≤ until
Stand text from (t ∷ ts) until = (from ≤ t.first) × StandsOn text t × Stand text t.end ts until
