-- Where no word is left: what has ended is noted, and parts that may be empty are left out.
use Rattle.std.proofs.Common.{◌≡◌, ℕ, List, [], ◌∷◌, ◌++◌, Bool, true, false, cond, None, refl, sym, ap, subst, ◌∙◌, append_assoc}
use Rattle.statement_words.specs.declared.tokens.Token.{Token}
use Rattle.statement_words.specs.declared.tokens.Word.{Word}
use Rattle.statement_grammar.specs.Grammar.{behind, may_be_empty}
use Rattle.statement_grammar.specs.Machine.{Finish, finish}
use Rattle.statement_grammar.specs.declared.symbols.End.{End}
use Rattle.statement_grammar.specs.declared.symbols.Part.{Part}
use Rattle.statement_grammar.specs.declared.symbols.Symbol.{Symbol}
use Rattle.statement_grammar.specs.declared.symbols.Symbol.TheVariants as symbols
use Rattle.statement_draft.specs.Judging.{all_ended, end_judged, end_read, ended, read_from}
use Rattle.statement_draft.specs.declared.draft.Draft.{Draft}
use Rattle.statement_round_trip.specs.Onward.{ReadsOn}
use Rattle.statement_round_trip.proofs.Onward.{end_before, skip}
use Rattle.statement_round_trip.proofs.Tokens.{no_tokens}

abbrev with_ends : List End → Finish → Finish
with_ends es f = record { ends = es ++ f.ends; whole = f.whole }

finish_empty : (es fs : List End) (empty : Bool) (long short : Finish) → long ≡ with_ends es short
    → cond empty long (record { ends = es ++ fs; whole = false }) ≡ with_ends es (cond empty short (record { ends = fs; whole = false }))
finish_empty es fs true long short h = h
finish_empty es fs false long short h = refl

-- what has ended before is collected first
finish_behind : (es fs : List End) (s : List Symbol) → finish (es ++ fs) s ≡ with_ends es (finish fs s)
unfolding finish
finish_behind es fs [] = refl
finish_behind es fs (symbols.Fixed f ∷ s) = refl
finish_behind es fs (symbols.Name role ∷ s) = refl
finish_behind es fs (symbols.Number role ∷ s) = refl
finish_behind es fs (symbols.Part p ∷ s) = finish_empty es fs (may_be_empty p) (finish (es ++ fs) s) (finish fs s) (finish_behind es fs s)
finish_behind es fs (symbols.Ended e ∷ s) = ap (λ (all : List End). finish all s) (append_assoc es fs (e ∷ [])) ∙ finish_behind es (fs ++ e ∷ []) s

-- the draft where no word is left
abbrev finished : Draft → ℕ → Finish → Draft
finished d at f = end_judged f.whole at (all_ended f.ends d)

read_nothing : (s : List Symbol) (d : Draft) (at : ℕ) → read_from s d [] at ≡ finished d at (finish [] s)
unfolding read_from end_read
read_nothing s d at = refl

ends_first : (e : End) (f : Finish) (d : Draft) (at : ℕ) → finished d at (with_ends (e ∷ []) f) ≡ finished (ended e d) at f
unfolding all_ended
ends_first e f d at = refl

finish_end : (e : End) (s : List Symbol) → finish [] (symbols.Ended e ∷ s) ≡ finish (e ∷ []) s
unfolding finish
finish_end e s = refl

finish_part : (p : Part) (s : List Symbol) → finish [] (symbols.Part p ∷ s) ≡ cond (may_be_empty p) (finish [] s) (record { ends = []; whole = false })
unfolding finish
finish_part p s = refl

end_of_nothing : (e : End) (s : List Symbol) (d : Draft) (at : ℕ) → read_from (symbols.Ended e ∷ s) d [] at ≡ read_from s (ended e d) [] at
end_of_nothing e s d at =
    read_nothing (symbols.Ended e ∷ s) d at ∙ ap (finished d at) (finish_end e s ∙ finish_behind (e ∷ []) [] s)
    ∙ ends_first e (finish [] s) d at ∙ sym (read_nothing s (ended e d) at)

skip_of_nothing : (p : Part) (s : List Symbol) (d : Draft) (at : ℕ) → may_be_empty p ≡ true → read_from (symbols.Part p ∷ s) d [] at ≡ read_from s d [] at
skip_of_nothing p s d at empty =
    read_nothing (symbols.Part p ∷ s) d at ∙ ap (finished d at) (finish_part p s ∙ ap (λ (b : Bool). cond b (finish [] s) (record { ends = []; whole = false })) empty)
    ∙ sym (read_nothing s d at)

all_read : (d : Draft) (at : ℕ) → read_from [] d [] at ≡ d
unfolding read_from end_read all_ended finish
all_read d at = refl

-- the part doesn't begin here
abbrev pub Skips : Part → List Word → Type 0
Skips p [] = Unit {0}
Skips p (w ∷ ws) = behind p w ≡ None

-- what has ended is noted before the next word, or where there is none
pub end_then : (e : End) (s : List Symbol) (d : Draft) (ws : List Word) (Last : Draft → Type 0) → ReadsOn s (ended e d) ws Last → ReadsOn (symbols.Ended e ∷ s) d ws Last
end_then e s d [] Last more = λ tokens at h.
    let none = no_tokens tokens h in
    let same = ap (λ (l : List Token). read_from (symbols.Ended e ∷ s) d l at) none ∙ end_of_nothing e s d at
    ∙ ap (λ (l : List Token). read_from s (ended e d) l at) (sym none) in
    subst Last (sym same) (more tokens at h)
end_then e s d (w ∷ ws) Last more = end_before e s d w ws Last more

-- a part that has no words before the next one, or where there is none
pub skip_then : (p : Part) (s : List Symbol) (d : Draft) (ws : List Word) (Last : Draft → Type 0) → may_be_empty p ≡ true → Skips p ws
    → ReadsOn s d ws Last → ReadsOn (symbols.Part p ∷ s) d ws Last
skip_then p s d [] Last empty other more = λ tokens at h.
    let none = no_tokens tokens h in
    let same = ap (λ (l : List Token). read_from (symbols.Part p ∷ s) d l at) none ∙ skip_of_nothing p s d at empty
    ∙ ap (λ (l : List Token). read_from s d l at) (sym none) in
    subst Last (sym same) (more tokens at h)
skip_then p s d (w ∷ ws) Last empty other more = skip p s d w ws Last empty other more

-- where nothing more must come, and no word is left
pub at_last : (d : Draft) (Last : Draft → Type 0) → Last d → ReadsOn [] d [] Last
at_last d Last h tokens at none = subst Last (sym (ap (λ (l : List Token). read_from [] d l at) (no_tokens tokens none) ∙ all_read d at)) h
