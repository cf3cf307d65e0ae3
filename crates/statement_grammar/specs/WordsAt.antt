-- What a word is.
use Rattle.std.specs.Prelude.{Bool, true, false}
use Rattle.std.specs.Str.{bytes_eq}
use Rattle.statement_words.specs.Keywords.{spelling}
use Rattle.statement_words.specs.Spans.{sign_spelling}
use Rattle.statement_words.specs.declared.keywords.Keyword.{Keyword}
use Rattle.statement_words.specs.declared.tokens.Sign.{Sign}
use Rattle.statement_words.specs.declared.tokens.Word.{Word}
use Rattle.statement_words.specs.declared.tokens.Word.TheVariants as word
use Rattle.statement_grammar.specs.declared.symbols.Fixed.{Fixed}
use Rattle.statement_grammar.specs.declared.symbols.Fixed.TheVariants as fixed

-- whether the word is this keyword
abbrev pub is_key : Word → Keyword → Bool
is_key (word.Keyword k) wanted = bytes_eq (spelling k) (spelling wanted)
is_key w wanted = false

-- whether it is this sign
abbrev pub is_sign : Word → Sign → Bool
is_sign (word.Sign s) wanted = bytes_eq (sign_spelling s) (sign_spelling wanted)
is_sign w wanted = false

-- whether it is this fixed word
abbrev pub is_fixed : Word → Fixed → Bool
is_fixed w (fixed.Keyword k) = is_key w k
is_fixed w (fixed.Sign s) = is_sign w s

abbrev pub is_name : Word → Bool
is_name (word.Name name) = true
is_name w = false

abbrev pub is_number : Word → Bool
is_number (word.Number n) = true
is_number w = false

-- a number or a text
abbrev pub is_literal : Word → Bool
is_literal (word.Number n) = true
is_literal (word.Text text) = true
is_literal w = false
