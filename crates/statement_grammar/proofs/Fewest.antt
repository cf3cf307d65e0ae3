-- The fewest words that each symbol takes.
use Rattle.std.proofs.Common.{◌≡◌, List, [], ◌∷◌, ◌++◌, Bool, false, ◌||◌, Option, Some, None, is_some}
use Rattle.statement_words.specs.declared.keywords.Keyword.{Keyword}
use Rattle.statement_words.specs.declared.keywords.Keyword.TheVariants as keyword
use Rattle.statement_words.specs.declared.tokens.Sign.{Sign}
use Rattle.statement_words.specs.declared.tokens.Sign.TheVariants as sign
use Rattle.statement_words.specs.declared.tokens.Word.{Word}
use Rattle.statement_words.specs.declared.tokens.Word.TheVariants as word
use Rattle.statement_grammar.specs.Grammar.{behind}
use Rattle.statement_grammar.specs.declared.symbols.Fixed.{Fixed}
use Rattle.statement_grammar.specs.declared.symbols.Fixed.TheVariants as fixed
use Rattle.statement_grammar.specs.declared.symbols.Part.{Part}
use Rattle.statement_grammar.specs.declared.symbols.Part.TheVariants as parts
use Rattle.statement_grammar.specs.declared.symbols.Symbol.{Symbol}
use Rattle.statement_grammar.specs.declared.symbols.Symbol.TheVariants as symbols

abbrev k : Keyword → Word
k keyword = word.Keyword keyword

abbrev s : Sign → Word
s sign = word.Sign sign

abbrev pub fixed_word : Fixed → Word
fixed_word (fixed.Keyword keyword) = k keyword
fixed_word (fixed.Sign sign) = s sign

-- a name and a number as good as any
abbrev pub a_name : Word
a_name = word.Name (97 ∷ [])

abbrev pub a_number : Word
a_number = word.Number 0

abbrev pub fewest : Part → List Word
fewest parts.Table =
    k keyword.Table ∷ a_name ∷ s sign.Open ∷ a_name ∷ k keyword.Int ∷ s sign.Comma ∷ k keyword.Primary ∷ k keyword.Key ∷ s sign.Open
    ∷ a_name ∷ s sign.Close ∷ s sign.Close ∷ s sign.Semicolon ∷ []
fewest parts.ColumnKind = k keyword.Int ∷ []
fewest parts.ColumnOrKey = k keyword.Primary ∷ k keyword.Key ∷ s sign.Open ∷ a_name ∷ s sign.Close ∷ []
fewest parts.Check = k keyword.Check ∷ s sign.Open ∷ a_number ∷ s sign.Close ∷ []
fewest parts.Row = s sign.Open ∷ a_number ∷ s sign.Close ∷ []
fewest parts.Literal = a_number ∷ []
fewest parts.Session = k keyword.Session ∷ s sign.Semicolon ∷ k keyword.Commit ∷ k keyword.Work ∷ s sign.Semicolon ∷ []
fewest parts.Work = k keyword.Commit ∷ k keyword.Work ∷ s sign.Semicolon ∷ []
fewest parts.MoreStatements = k keyword.Commit ∷ k keyword.Work ∷ s sign.Semicolon ∷ []
fewest parts.Selected = s sign.Times ∷ []
fewest parts.Sets = k keyword.Set ∷ a_name ∷ s sign.Equal ∷ a_number ∷ []
fewest parts.ReadAccess = k keyword.Stable ∷ []
fewest parts.ChangeAccess = k keyword.Stable ∷ []
fewest parts.LockMode = k keyword.Share ∷ []
fewest parts.Expression = a_number ∷ []
fewest parts.Condition = a_number ∷ []
fewest parts.Operand = a_number ∷ []
fewest p = []

-- the fewest words that the symbols take
abbrev pub completion : List Symbol → List Word
completion [] = []
completion (symbols.Fixed f ∷ ss) = fixed_word f ∷ completion ss
completion (symbols.Name role ∷ ss) = a_name ∷ completion ss
completion (symbols.Number role ∷ ss) = a_number ∷ completion ss
completion (symbols.Part p ∷ ss) = fewest p ++ completion ss
completion (symbols.Ended e ∷ ss) = completion ss

-- whether the word begins the part
abbrev pub opens : Part → Word → Bool
opens p w = is_some (behind p w)

abbrev pub in_comparison : Word → Bool
in_comparison w = opens parts.ProductRest w || (opens parts.SumRest w || opens parts.CompareRest w)

abbrev pub in_expression : Word → Bool
in_expression w = in_comparison w || (opens parts.AndRest w || opens parts.OrRest w)

-- whether the word, behind the fewest words of a part, would still belong to it
abbrev pub absorbs : Part → Word → Bool
absorbs (parts.Limit l) w = opens (parts.Limit l) w
absorbs parts.Table w = opens parts.MoreTables w
absorbs parts.MoreTables w = opens parts.MoreTables w
absorbs parts.ColumnOrKey w = opens parts.MoreChecks w
absorbs parts.MoreKeyColumns w = opens parts.MoreKeyColumns w
absorbs parts.MoreChecks w = opens parts.MoreChecks w
absorbs parts.FirstKeys w = opens parts.FirstKeys w || opens parts.MoreFirstKeys w
absorbs parts.MoreFirstKeys w = opens parts.MoreFirstKeys w
absorbs parts.MoreLiterals w = opens parts.MoreLiterals w
absorbs parts.Loads w = opens parts.Loads w
absorbs parts.MoreLoadRows w = opens parts.MoreLoadRows w
absorbs parts.Session w = opens parts.MoreSessions w || opens parts.MoreWorks w
absorbs parts.MoreSessions w = opens parts.MoreSessions w || opens parts.MoreWorks w
absorbs parts.Work w = opens parts.MoreWorks w
absorbs parts.MoreStatements w = opens parts.MoreWorks w
absorbs parts.MoreWorks w = opens parts.MoreWorks w
absorbs parts.Selected w = opens parts.MoreSelected w
absorbs parts.MoreSelected w = opens parts.MoreSelected w
absorbs parts.Where w = opens parts.Where w || in_expression w
absorbs parts.Sets w = opens parts.MoreSets w || in_expression w
absorbs parts.MoreSets w = opens parts.MoreSets w || in_expression w
absorbs parts.Expression w = in_comparison w
absorbs parts.Condition w = in_comparison w
absorbs parts.ProductRest w = opens parts.ProductRest w
absorbs parts.SumRest w = opens parts.SumRest w || opens parts.ProductRest w
absorbs parts.CompareRest w = in_comparison w
absorbs parts.AndRest w = opens parts.AndRest w || in_comparison w
absorbs parts.OrRest w = opens parts.OrRest w || (opens parts.AndRest w || in_comparison w)
absorbs p w = false

abbrev pub absorbs_at : Part → Option Word → Bool
absorbs_at p None = false
absorbs_at p (Some w) = absorbs p w

-- the first of the words, or else what follows them
abbrev pub first_word : List Word → Option Word → Option Word
first_word [] x = x
first_word (w ∷ ws) x = Some w

-- no part would take the word behind its fewest words; x follows the symbols
abbrev pub Safe : Option Word → List Symbol → Type 0
Safe x [] = Unit {0}
Safe x (symbols.Part p ∷ ss) = (absorbs_at p (first_word (completion ss) x) ≡ false) × Safe x ss
Safe x (symbols.Fixed f ∷ ss) = Safe x ss
Safe x (symbols.Name role ∷ ss) = Safe x ss
Safe x (symbols.Number role ∷ ss) = Safe x ss
Safe x (symbols.Ended e ∷ ss) = Safe x ss
