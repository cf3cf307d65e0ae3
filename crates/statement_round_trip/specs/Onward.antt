-- What comes of reading on.
use Rattle.std.specs.Prelude.{◌≡◌, ℕ, List}
use Rattle.statement_words.specs.declared.tokens.Token.{Token}
use Rattle.statement_words.specs.declared.tokens.Word.{Word}
use Rattle.statement_grammar.specs.declared.symbols.Symbol.{Symbol}
use Rattle.statement_draft.specs.Judging.{read_from}
use Rattle.statement_draft.specs.declared.draft.Draft.{Draft}
use Rattle.statement_round_trip.specs.Rereading.{words_in}

-- where these symbols must come, and these are all the words left, the last draft is so, wherever the words stand
abbrev pub ReadsOn : List Symbol → Draft → List Word → (Draft → Type 0) → Type 0
ReadsOn s d words Last = (tokens : List Token) (at : ℕ) → words_in tokens ≡ words → Last (read_from s d tokens at)
