-- Reading on, word by word and part by part.
use Rattle.std.proofs.Common.{◌≡◌, ℕ, List, ◌∷◌, ◌++◌, None, sym, ap, subst, ◌∙◌, true}
use Rattle.statement_words.specs.declared.tokens.Token.{Token}
use Rattle.statement_words.specs.declared.tokens.Word.{Word}
use Rattle.statement_grammar.specs.Grammar.{behind, may_be_empty}
use Rattle.statement_grammar.specs.declared.symbols.End.{End}
use Rattle.statement_grammar.specs.declared.symbols.Part.{Part}
use Rattle.statement_grammar.specs.declared.symbols.Symbol.{Symbol}
use Rattle.statement_grammar.specs.declared.symbols.Symbol.TheVariants as symbols
use Rattle.statement_draft.specs.Judging.{ended, read_from}
use Rattle.statement_draft.specs.declared.draft.Draft.{Draft}
use Rattle.statement_round_trip.specs.Onward.{ReadsOn}
use Rattle.statement_round_trip.specs.Rereading.{words_in}
use Rattle.statement_round_trip.proofs.Tokens.{halves, one}
use Rattle.statement_round_trip.proofs.Steps.{read_end, read_skip}

-- a word at a place
abbrev pub token : Word → ℕ → ℕ → Token
token w first end = record { word = w; first = first; end = end }

as_token : (w : Word) (t : Token) → t.word ≡ w → t ≡ token w t.first t.end
as_token w t h = ap (λ (v : Word). token v t.first t.end) h

-- what one word makes of the draft, wherever it stands
abbrev pub StepsTo : List Symbol → Draft → Word → List Symbol → (ℕ → Draft) → Type 0
StepsTo s d w rest after = (first end : ℕ) (ts : List Token) (at : ℕ) → read_from s d (token w first end ∷ ts) at ≡ read_from rest (after first) ts at

-- a word, and what is read behind it
pub step : (s : List Symbol) (d : Draft) (w : Word) (ws : List Word) (Last : Draft → Type 0) (rest : List Symbol) (after : ℕ → Draft)
    → StepsTo s d w rest after → ((place : ℕ) → ReadsOn rest (after place) ws Last) → ReadsOn s d (w ∷ ws) Last
step s d w ws Last rest after one_step more tokens at h =
    let o = one w ws tokens h in
    let same = ap (λ (l : List Token). read_from s d l at) o.whole
    ∙ ap (λ (u : Token). read_from s d (u ∷ o.rest) at) (as_token w o.token o.is) ∙ one_step o.token.first o.token.end o.rest at in
    subst Last (sym same) (more o.token.first o.rest at o.words)

-- a part that has no words before the next one
pub skip : (p : Part) (s : List Symbol) (d : Draft) (w : Word) (ws : List Word) (Last : Draft → Type 0) → may_be_empty p ≡ true → behind p w ≡ None
    → ReadsOn s d (w ∷ ws) Last → ReadsOn (symbols.Part p ∷ s) d (w ∷ ws) Last
skip p s d w ws Last empty no_word more tokens at h =
    let o = one w ws tokens h in
    let same = ap (λ (l : List Token). read_from (symbols.Part p ∷ s) d l at) o.whole
    ∙ read_skip p s d o.token o.rest at empty (ap (behind p) o.is ∙ no_word) ∙ ap (λ (l : List Token). read_from s d l at) (sym o.whole) in
    subst Last (sym same) (more tokens at h)

-- what has ended is noted before the next word
pub end_before : (e : End) (s : List Symbol) (d : Draft) (w : Word) (ws : List Word) (Last : Draft → Type 0)
    → ReadsOn s (ended e d) (w ∷ ws) Last → ReadsOn (symbols.Ended e ∷ s) d (w ∷ ws) Last
end_before e s d w ws Last more tokens at h =
    let o = one w ws tokens h in
    let same = ap (λ (l : List Token). read_from (symbols.Ended e ∷ s) d l at) o.whole
    ∙ read_end e s d o.token o.rest at ∙ ap (λ (l : List Token). read_from s (ended e d) l at) (sym o.whole) in
    subst Last (sym same) (more tokens at h)

-- an equal draft
pub from : (s : List Symbol) (d e : Draft) (ws : List Word) (Last : Draft → Type 0) → d ≡ e → ReadsOn s e ws Last → ReadsOn s d ws Last
from s d e ws Last same more = subst (λ (x : Draft). ReadsOn s x ws Last) (sym same) more

-- equal words
pub spelled : (s : List Symbol) (d : Draft) (us vs : List Word) (Last : Draft → Type 0) → us ≡ vs → ReadsOn s d vs Last → ReadsOn s d us Last
spelled s d us vs Last same more = subst (λ (x : List Word). ReadsOn s d x Last) (sym same) more

-- words that are known to lead somewhere when a word is behind them
pub through : (a b : List Symbol) (d : Draft) (us : List Word) (v : Word) (vs : List Word) (Last : Draft → Type 0) (after : ℕ → Draft)
    → ((tokens : List Token) (t : Token) (ts : List Token) (at : ℕ) → words_in tokens ≡ us → t.word ≡ v
    → (place : ℕ) × (read_from a d (tokens ++ t ∷ ts) at ≡ read_from b (after place) (t ∷ ts) at))
    → ((place : ℕ) → ReadsOn b (after place) (v ∷ vs) Last) → ReadsOn a d (us ++ v ∷ vs) Last
through a b d us v vs Last after leads more tokens at h =
    let q = halves us (v ∷ vs) tokens h in
    let o = one v vs q.rest q.rest_words in
    let x = leads q.front o.token o.rest at q.front_words o.is in
    let same = ap (λ (l : List Token). read_from a d l at) q.whole
    ∙ ap (λ (l : List Token). read_from a d (q.front ++ l) at) o.whole ∙ x.1
    ∙ ap (λ (l : List Token). read_from b (after x.0) l at) (sym o.whole) in
    subst Last (sym same) (more x.0 q.rest at q.rest_words)
