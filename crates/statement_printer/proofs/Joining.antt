-- Numbers by their sign.
use Rattle.std.proofs.Common.{◌≡◌, ℕ, suc, pos, negsuc, [], ◌∷◌, refl, rules}
use Rattle.statement_words.specs.declared.tokens.Sign.TheVariants as signs
use Rattle.statement_words.specs.declared.tokens.Word.TheVariants as word
use Rattle.statement_printer.specs.Printing.{int_words, sign}

pub words_of_pos : (n : ℕ) → int_words (pos n) ≡ word.Number n ∷ []
words_of_pos n = search rules

pub words_of_negative : (n : ℕ) → int_words (negsuc n) ≡ sign signs.Minus ∷ word.Number (suc n) ∷ []
words_of_negative n = refl
