-- What words the bytes of printed words have.
use Rattle.std.specs.Prelude.{◌≡◌, ℕ, ◌+◌, List, [], ◌∷◌, length, Ok}
use Rattle.std.specs.List.{AllByRecursion}
use Rattle.statement_words.specs.Spans.{IsFormedWord}
use Rattle.statement_words.specs.Words.{words_of}
use Rattle.statement_words.specs.declared.tokens.Token.{Token}
use Rattle.statement_words.specs.declared.tokens.Word.{Word}
use Rattle.statement_printer.specs.Bytes.{written, bytes_of}

-- the tokens of words whose bytes begin at a place, each with one byte behind it
abbrev pub tokens_at : ℕ → List Word → List Token
tokens_at at [] = []
tokens_at at (w ∷ ws) = let end = at + length (written w) in record { word = w; first = at; end = end } ∷ tokens_at (end + 1) ws

-- the bytes of words have just these words
abbrev pub WordsReadBack : Type 0
WordsReadBack = (words : List Word) → AllByRecursion IsFormedWord words → words_of (bytes_of words) ≡ Ok (tokens_at 0 words)
