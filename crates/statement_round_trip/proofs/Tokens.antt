-- Tokens of words that stand one behind the other.
use Rattle.std.proofs.Common.{◌≡◌, List, [], ◌∷◌, ◌++◌, refl, ap}
use Rattle.statement_words.specs.declared.tokens.Token.{Token}
use Rattle.statement_words.specs.declared.tokens.Word.{Word}
use Rattle.statement_round_trip.specs.Rereading.{words_in}

pub record Halves (us vs : List Word) (ts : List Token) : Type 0 where
  pub front : List Token
  pub rest : List Token
  pub whole : ts ≡ front ++ rest
  pub front_words : words_in front ≡ us
  pub rest_words : words_in rest ≡ vs

pub halves : (us vs : List Word) (ts : List Token) → words_in ts ≡ us ++ vs → Halves us vs ts
halves [] vs ts h = record { front = []; rest = ts; whole = refl; front_words = refl; rest_words = h }
halves (u ∷ us) vs [] h = absurd cc
halves (u ∷ us) vs (t ∷ ts) h =
    let more : Halves us vs ts = halves us vs ts cc in
    let first : t.word ≡ u = cc in
    record { front = t ∷ more.front; rest = more.rest; whole = ap (λ (x : List Token). t ∷ x) more.whole; front_words = rw (first, more.front_words) refl; rest_words = more.rest_words }

-- one token, and those behind it
pub record One (u : Word) (vs : List Word) (ts : List Token) : Type 0 where
  pub token : Token
  pub rest : List Token
  pub whole : ts ≡ token ∷ rest
  pub is : token.word ≡ u
  pub words : words_in rest ≡ vs

pub one : (u : Word) (vs : List Word) (ts : List Token) → words_in ts ≡ u ∷ vs → One u vs ts
one u vs [] h = absurd cc
one u vs (t ∷ ts) h = record { token = t; rest = ts; whole = refl; is = cc; words = cc }

pub no_tokens : (ts : List Token) → words_in ts ≡ [] → ts ≡ []
no_tokens [] h = refl
no_tokens (t ∷ ts) h = absurd cc
