-- What the reader does at the front of its stack.
use Rattle.std.proofs.Common.{◌≡◌, ℕ, List, [], ◌∷◌, ◌++◌, Bool, true, false, Option, Some, None, refl, sym, ap, ◌∙◌, append_assoc}
use Rattle.statement_words.specs.declared.tokens.Token.{Token}
use Rattle.statement_words.specs.declared.tokens.Word.{Word}
use Rattle.statement_grammar.specs.WordsAt.{is_fixed, is_number}
use Rattle.statement_grammar.specs.Grammar.{behind, may_be_empty}
use Rattle.statement_grammar.specs.Machine.{Advance, advance, begins, takes}
use Rattle.statement_grammar.specs.declared.symbols.End.{End}
use Rattle.statement_grammar.specs.declared.symbols.Fixed.{Fixed}
use Rattle.statement_grammar.specs.declared.symbols.NumberRole.{NumberRole}
use Rattle.statement_grammar.specs.declared.symbols.Part.{Part}
use Rattle.statement_grammar.specs.declared.symbols.Symbol.{Symbol}
use Rattle.statement_grammar.specs.declared.symbols.Symbol.TheVariants as symbols
use Rattle.statement_draft.specs.Judging.{After, after, came, ended, all_ended, go_on, word_read, read_from}
use Rattle.statement_draft.specs.declared.draft.Draft.{Draft}

abbrev with_ends : List End → Advance → Advance
with_ends es a = record { ends = es ++ a.ends; taken = a.taken }

begins_behind : (es fs : List End) (role : Symbol) (more : Option (List Symbol)) (rest : List Symbol) (empty : Bool) (long short : Advance)
    → long ≡ with_ends es short → begins (es ++ fs) role more rest empty long ≡ with_ends es (begins fs role more rest empty short)
begins_behind es fs role (Some more) rest empty long short h = refl
begins_behind es fs role None rest true long short h = h
begins_behind es fs role None rest false long short h = refl

-- what has ended before is collected first
advance_behind : (es fs : List End) (s : List Symbol) (w : Word) → advance (es ++ fs) s w ≡ with_ends es (advance fs s w)
unfolding advance
advance_behind es fs [] w = refl
advance_behind es fs (symbols.Fixed f ∷ s) w = refl
advance_behind es fs (symbols.Name role ∷ s) w = refl
advance_behind es fs (symbols.Number role ∷ s) w = refl
advance_behind es fs (symbols.Part p ∷ s) w = begins_behind es fs (symbols.Part p) (behind p w) s (may_be_empty p) (advance (es ++ fs) s w) (advance fs s w) (advance_behind es fs s w)
advance_behind es fs (symbols.Ended e ∷ s) w =
    ap (λ (all : List End). advance all s w) (append_assoc es fs (e ∷ [])) ∙ advance_behind es (fs ++ e ∷ []) s w

-- the draft behind a word, and what is read then
abbrev go_from : After → List Token → ℕ → Draft
go_from next ts at = go_on next.rest next.draft (λ rest. read_from rest next.draft ts at)

abbrev reads_on : Draft → Token → List Token → ℕ → Advance → Draft
reads_on d t ts at a = go_from (after a.taken t (all_ended a.ends d)) ts at

read_word : (s : List Symbol) (d : Draft) (t : Token) (ts : List Token) (at : ℕ) → read_from s d (t ∷ ts) at ≡ reads_on d t ts at (advance [] s t.word)
unfolding read_from word_read
read_word s d t ts at = refl

ends_first : (e : End) (a : Advance) (d : Draft) (t : Token) (ts : List Token) (at : ℕ) → reads_on d t ts at (with_ends (e ∷ []) a) ≡ reads_on (ended e d) t ts at a
unfolding all_ended
ends_first e a d t ts at = refl

advance_end : (e : End) (s : List Symbol) (w : Word) → advance [] (symbols.Ended e ∷ s) w ≡ advance (e ∷ []) s w
unfolding advance
advance_end e s w = refl

-- what has ended is noted before the next word
pub read_end : (e : End) (s : List Symbol) (d : Draft) (t : Token) (ts : List Token) (at : ℕ) → read_from (symbols.Ended e ∷ s) d (t ∷ ts) at ≡ read_from s (ended e d) (t ∷ ts) at
read_end e s d t ts at =
    read_word (symbols.Ended e ∷ s) d t ts at ∙ ap (reads_on d t ts at) (advance_end e s t.word ∙ advance_behind (e ∷ []) [] s t.word)
    ∙ ends_first e (advance [] s t.word) d t ts at ∙ sym (read_word s (ended e d) t ts at)

advance_part : (p : Part) (s : List Symbol) (w : Word) → advance [] (symbols.Part p ∷ s) w ≡ begins [] (symbols.Part p) (behind p w) s (may_be_empty p) (advance [] s w)
unfolding advance
advance_part p s w = refl

-- a part that has no words here is left out
pub read_skip : (p : Part) (s : List Symbol) (d : Draft) (t : Token) (ts : List Token) (at : ℕ) → may_be_empty p ≡ true → behind p t.word ≡ None
    → read_from (symbols.Part p ∷ s) d (t ∷ ts) at ≡ read_from s d (t ∷ ts) at
read_skip p s d t ts at empty none =
    read_word (symbols.Part p ∷ s) d t ts at ∙ ap (reads_on d t ts at) (advance_part p s t.word
    ∙ ap (λ (more : Option (List Symbol)). begins [] (symbols.Part p) more s (may_be_empty p) (advance [] s t.word)) none
    ∙ ap (λ (b : Bool). begins [] (symbols.Part p) None s b (advance [] s t.word)) empty) ∙ sym (read_word s d t ts at)

taken_reads : (role : Symbol) (s : List Symbol) (d : Draft) (t : Token) (ts : List Token) (at : ℕ) → reads_on d t ts at (takes [] true role s) ≡ read_from s (came role t.word t.first d) ts at
unfolding all_ended
taken_reads role s d t ts at = refl

-- a word begins a part
pub read_part : (p : Part) (more s : List Symbol) (d : Draft) (t : Token) (ts : List Token) (at : ℕ) → behind p t.word ≡ Some more
    → read_from (symbols.Part p ∷ s) d (t ∷ ts) at ≡ read_from (more ++ s) (came (symbols.Part p) t.word t.first d) ts at
read_part p more s d t ts at some =
    read_word (symbols.Part p ∷ s) d t ts at ∙ ap (reads_on d t ts at) (advance_part p s t.word
    ∙ ap (λ (found : Option (List Symbol)). begins [] (symbols.Part p) found s (may_be_empty p) (advance [] s t.word)) some)
    ∙ taken_reads (symbols.Part p) (more ++ s) d t ts at

advance_fixed : (f : Fixed) (s : List Symbol) (w : Word) → advance [] (symbols.Fixed f ∷ s) w ≡ takes [] (is_fixed w f) (symbols.Fixed f) s
unfolding advance
advance_fixed f s w = refl

came_fixed : (f : Fixed) (w : Word) (at : ℕ) (d : Draft) → came (symbols.Fixed f) w at d ≡ d
unfolding came
came_fixed f w at d = refl

-- a fixed word stands where it must
pub read_fixed : (f : Fixed) (s : List Symbol) (d : Draft) (t : Token) (ts : List Token) (at : ℕ) → is_fixed t.word f ≡ true
    → read_from (symbols.Fixed f ∷ s) d (t ∷ ts) at ≡ read_from s d ts at
read_fixed f s d t ts at is =
    read_word (symbols.Fixed f ∷ s) d t ts at ∙ ap (reads_on d t ts at) (advance_fixed f s t.word ∙ ap (λ (b : Bool). takes [] b (symbols.Fixed f) s) is)
    ∙ taken_reads (symbols.Fixed f) s d t ts at ∙ ap (λ (e : Draft). read_from s e ts at) (came_fixed f t.word t.first d)

advance_number : (role : NumberRole) (s : List Symbol) (w : Word) → advance [] (symbols.Number role ∷ s) w ≡ takes [] (is_number w) (symbols.Number role) s
unfolding advance
advance_number role s w = refl

-- a number stands where it must
pub read_number : (role : NumberRole) (s : List Symbol) (d : Draft) (t : Token) (ts : List Token) (at : ℕ) → is_number t.word ≡ true
    → read_from (symbols.Number role ∷ s) d (t ∷ ts) at ≡ read_from s (came (symbols.Number role) t.word t.first d) ts at
read_number role s d t ts at is =
    read_word (symbols.Number role ∷ s) d t ts at ∙ ap (reads_on d t ts at) (advance_number role s t.word ∙ ap (λ (b : Bool). takes [] b (symbols.Number role) s) is)
    ∙ taken_reads (symbols.Number role) s d t ts at
