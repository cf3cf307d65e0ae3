-- Where the words of a script lead, and how they can go on.
use Rattle.std.specs.Prelude.{◌≡◌, List, [], ◌∷◌, ◌++◌, true, Option, Some, None, option_and_then}
use Rattle.statement_words.specs.declared.tokens.Word.{Word}
use Rattle.statement_grammar.specs.Grammar.{script}
use Rattle.statement_grammar.specs.Machine.{advance, finish}
use Rattle.statement_grammar.specs.declared.symbols.Symbol.{Symbol}

-- what must come behind words, where these symbols must come first
unfoldable pub leads : List Symbol → List Word → Option (List Symbol)
leads s [] = Some s
leads s (w ∷ ws) = option_and_then (λ taken. leads taken.rest ws) (advance [] s w).taken

-- the words lead to where nothing more must come
pub record Fill (s : List Symbol) (words : List Word) : Type 0 where
  pub rest : List Symbol
  pub lead : leads s words ≡ Some rest
  pub whole : (finish [] rest).whole ≡ true

-- the words of a script, as far as its grammar goes
abbrev pub AreOfScript : List Word → Type 0
AreOfScript words = Fill script words

-- words that begin a script go on to one
abbrev pub GoOn : Type 0
GoOn = (words : List Word) (s : List Symbol) → leads script words ≡ Some s → (more : List Word) × AreOfScript (words ++ more)

-- words that lead nowhere begin no script
abbrev pub Stop : Type 0
Stop = (words : List Word) → leads script words ≡ None → (more : List Word) → AreOfScript (words ++ more) → ⊥
