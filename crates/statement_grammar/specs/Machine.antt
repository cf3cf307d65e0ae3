-- A script, word by word, over a stack of what must come.
use Rattle.std.specs.Prelude.{ℕ, List, [], ◌∷◌, ◌++◌, Bool, true, false, Option, Some, None, if◌then◌else◌}
use Rattle.statement_words.specs.declared.tokens.Word.{Word}
use Rattle.statement_words.specs.declared.tokens.Token.{Token}
use Rattle.statement_grammar.specs.WordsAt.{is_fixed, is_name, is_number}
use Rattle.statement_grammar.specs.Grammar.{behind, may_be_empty, script}
use Rattle.statement_grammar.specs.declared.machine.Shape.{Shape}
use Rattle.statement_grammar.specs.declared.machine.Shape.TheVariants as shapes
use Rattle.statement_grammar.specs.declared.symbols.End.{End}
use Rattle.statement_grammar.specs.declared.symbols.Symbol.{Symbol}
use Rattle.statement_grammar.specs.declared.symbols.Symbol.TheVariants as symbols

-- as what a word was taken, and what must come behind it
pub record Taken : Type 0 where
  pub role : Symbol
  pub rest : List Symbol

-- what has ended before a word, and the word's role, if it has one there
pub record Advance : Type 0 where
  pub ends : List End
  pub taken : Option Taken

-- the word is taken, or it is unexpected
abbrev pub takes : List End → Bool → Symbol → List Symbol → Advance
takes ends fits role rest = record { ends = ends; taken = if fits then Some (record { role = role; rest = rest }) else None }

-- the word begins the part, or else the part has no words
abbrev pub begins : List End → Symbol → Option (List Symbol) → List Symbol → Bool → Advance → Advance
begins ends role (Some more) rest empty later = takes ends true role (more ++ rest)
begins ends role None rest true later = later
begins ends role None rest false later = takes ends false role rest

-- the next word, where these ends have come since the last one
unfoldable pub advance : List End → List Symbol → Word → Advance
advance ends [] w = record { ends = ends; taken = None }
advance ends (symbols.Fixed f ∷ s) w = takes ends (is_fixed w f) (symbols.Fixed f) s
advance ends (symbols.Name role ∷ s) w = takes ends (is_name w) (symbols.Name role) s
advance ends (symbols.Number role ∷ s) w = takes ends (is_number w) (symbols.Number role) s
advance ends (symbols.Part p ∷ s) w = begins ends (symbols.Part p) (behind p w) s (may_be_empty p) (advance ends s w)
advance ends (symbols.Ended e ∷ s) w = advance (ends ++ e ∷ []) s w

-- what has ended where no word follows, and whether nothing more must come
pub record Finish : Type 0 where
  pub ends : List End
  pub whole : Bool

unfoldable pub finish : List End → List Symbol → Finish
finish ends [] = record { ends = ends; whole = true }
finish ends (symbols.Part p ∷ s) = if may_be_empty p then finish ends s else record { ends = ends; whole = false }
finish ends (symbols.Ended e ∷ s) = finish (ends ++ e ∷ []) s
finish ends (s ∷ ss) = record { ends = ends; whole = false }

-- where the words begin no script any more, or whether they are those of one
abbrev pub behind_word : ℕ → Option Taken → (List Symbol → Shape) → Shape
behind_word at None go_on = shapes.StopsAt at
behind_word at (Some taken) go_on = go_on taken.rest

abbrev pub at_the_end : Bool → Shape
at_the_end true = shapes.Whole
at_the_end false = shapes.Short

-- the shape of words where these symbols must come
unfoldable pub shape_from : List Symbol → List Token → Shape
shape_from s [] = at_the_end (finish [] s).whole
shape_from s (t ∷ ts) = behind_word t.first (advance [] s t.word).taken (λ rest. shape_from rest ts)

-- the shape of a script's words
abbrev pub shape_of : List Token → Shape
shape_of tokens = shape_from script tokens
