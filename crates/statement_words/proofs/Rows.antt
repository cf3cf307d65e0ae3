-- Words that the checker computes from the definition.
use Rattle.std.proofs.Common.{◌≡◌, [], ◌∷◌, Ok, refl}
use Rattle.std.specs.Prelude.{codes}
use Rattle.statement_words.specs.declared.tokens.Word.TheVariants as word
use Rattle.statement_words.specs.declared.keywords.Keyword.TheVariants.{Select}
use Rattle.statement_words.specs.declared.tokens.Sign.TheVariants.{AtMost}
use Rattle.statement_words.specs.declared.faults.WordReason.TheVariants.{OpenText, BadByte, NumberTooWide}
use Rattle.statement_words.specs.Keywords.{keyword_of}
use Rattle.statement_words.specs.Reading.{fails}
use Rattle.statement_words.specs.Words.{words_of, words_from, word_at, name_at, number_at, text_at, text_from, sign_at}

pub keyword_sign_number : words_of (codes "SELECT <=12") ≡ Ok (record { word = word.Keyword Select; first = 0; end = 6 } ∷ record { word = word.Sign AtMost; first = 7; end = 9 } ∷ record { word = word.Number 12; first = 9; end = 11 } ∷ [])
unfolding words_from word_at name_at number_at text_at text_from sign_at keyword_of
keyword_sign_number = refl

pub lower_case_is_a_name : words_of (codes "select") ≡ Ok (record { word = word.Name (codes "select"); first = 0; end = 6 } ∷ [])
unfolding words_from word_at name_at number_at text_at text_from sign_at keyword_of
lower_case_is_a_name = refl

pub number_then_name : words_of (codes "12ab") ≡ Ok (record { word = word.Number 12; first = 0; end = 2 } ∷ record { word = word.Name (codes "ab"); first = 2; end = 4 } ∷ [])
unfolding words_from word_at name_at number_at text_at text_from sign_at keyword_of
number_then_name = refl

pub doubled_quote : words_of (codes "'A''B'") ≡ Ok (record { word = word.Text (codes "A'B"); first = 0; end = 6 } ∷ [])
unfolding words_from word_at name_at number_at text_at text_from sign_at keyword_of
doubled_quote = refl

pub doubled_at_the_end : words_of (codes "x 'A''") ≡ fails OpenText 2
unfolding words_from word_at name_at number_at text_at text_from sign_at keyword_of
doubled_at_the_end = refl

pub bad_byte_before_open_text : words_of (39 ∷ 65 ∷ 13 ∷ 10 ∷ []) ≡ fails BadByte 2
unfolding words_from word_at name_at number_at text_at text_from sign_at keyword_of
bad_byte_before_open_text = refl

pub the_widest_number : words_of (codes "009223372036854775808") ≡ Ok (record { word = word.Number 9223372036854775808; first = 0; end = 21 } ∷ [])
unfolding words_from word_at name_at number_at text_at text_from sign_at keyword_of
the_widest_number = refl

pub one_too_wide : words_of (codes "a 9223372036854775809") ≡ fails NumberTooWide 2
unfolding words_from word_at name_at number_at text_at text_from sign_at keyword_of
one_too_wide = refl
