-- Printed rows are read as themselves.
use Rattle.std.proofs.Common.{◌≡◌, ℕ, suc, ◌-◌, ◌^◌, min, pos, negsuc, neg_ℤ, List, [], ◌∷◌, ◌++◌, length, Bool, true, false, Option, Some, None, refl, sym, ap, ◌∙◌, append_assoc, append-nil, arith}
use Rattle.std.proofs.lemmas.Bool.Decides.{nat_tests}
use Rattle.std.specs.Prelude.{flat_map, nat_lt, slice_get}
use Rattle.sql_base.specs.Rows.{in_i64}
use Rattle.sql_base.specs.declared.tables.ColumnKind.{ColumnKind}
use Rattle.sql_base.specs.declared.values.Value.{Value}
use Rattle.sql_base.specs.declared.values.Value.TheVariants as value
use Rattle.statement_words.specs.declared.tokens.Sign.TheVariants as signs
use Rattle.statement_words.specs.declared.tokens.Word.{Word}
use Rattle.statement_words.specs.declared.tokens.Word.TheVariants as word
use Rattle.statement_grammar.specs.Grammar.{behind, part}
use Rattle.statement_grammar.specs.Grammar as grammar
use Rattle.statement_grammar.specs.Machine.{advance}
use Rattle.statement_grammar.specs.declared.symbols.NumberRole.TheVariants as numbers
use Rattle.statement_grammar.specs.declared.symbols.Part.TheVariants as parts
use Rattle.statement_grammar.specs.declared.symbols.Symbol.{Symbol}
use Rattle.statement_draft.specs.Faults.{noted, noted_as}
use Rattle.statement_draft.specs.Judging.{all_ended, came, read_from, word_read}
use Rattle.statement_draft.specs.Names.{is_wide}
use Rattle.statement_draft.specs.RowEvents.{fitted, literal_came, literal_fault, negative}
use Rattle.statement_draft.specs.declared.draft.Draft.{Draft}
use Rattle.statement_draft.specs.declared.draft.NewRow.{NewRow}
use Rattle.statement_draft.specs.declared.draft.RowOf.{RowOf}
use Rattle.statement_draft.specs.declared.faults.Reason.{Reason}
use Rattle.statement_draft.specs.declared.faults.Reason.TheVariants.{NumberTooWide}
use Rattle.statement_printer.proofs.Joining.{words_of_pos}
use Rattle.statement_printer.specs.Printing.{in_parentheses, literal_words, sign, with_commas}
use Rattle.statement_round_trip.specs.Onward.{ReadsOn}
use Rattle.statement_round_trip.proofs.Onward.{from, skip, spelled, step, StepsTo}

-- a row that is being read
abbrev pub new_row : RowOf → List ColumnKind → ℕ → ℕ → List Value → NewRow
new_row of ks at minus vs = record { of = of; kinds = Some ks; at = at; minus = minus; values = vs }

abbrev pub rowed : RowOf → List ColumnKind → ℕ → ℕ → List Value → Draft → Draft
rowed of ks at minus vs d = record d { row = new_row of ks at minus vs }

-- a literal has no fault in its column, and is kept as this value
pub record Fits (of : RowOf) (k : ColumnKind) (literal v : Value) : Type 0 where
  pub fault : literal_fault of (Some k) literal ≡ None
  pub fills : fitted of (Some k) literal ≡ v

abbrev pub IsShort : Value → Type 0
IsShort (value.Int n) = in_i64 n ≡ true
IsShort (value.Text text) = Unit {0}

abbrev came_with : RowOf → List ColumnKind → ℕ → ℕ → List Value → Draft → ℕ → Option Reason → Value → Draft
came_with of ks a m before d at fault v = record d { first = noted_as fault at d.first; row = new_row of ks a m (before ++ v ∷ []) }

literal_is : (of : RowOf) (ks : List ColumnKind) (a m : ℕ) (before : List Value) (d : Draft) (k : ColumnKind) (literal v : Value) (at : ℕ)
    → slice_get ks (length before) ≡ Some k → Fits of k literal v → literal_came literal at (rowed of ks a m before d) ≡ rowed of ks a m (before ++ v ∷ []) d
literal_is of ks a m before d k literal v at here fits =
    ap (λ (o : Option ColumnKind). came_with of ks a m before d at (literal_fault of o literal) (fitted of o literal)) here
    ∙ ap (λ (f : Option Reason). came_with of ks a m before d at f (fitted of (Some k) literal)) fits.fault
    ∙ ap (λ (x : Value). came_with of ks a m before d at None x) fits.fills

abbrev number_with : ℕ → ℕ → Draft → Bool → Draft
number_with n at d wide = literal_came (value.Int (pos n)) at (record d { first = noted wide NumberTooWide at d.first })

number_steps : (n : ℕ) (s : List Symbol) (d : Draft) → StepsTo (part parts.Literal ∷ s) d (word.Number n) s (λ place. number_with (min n (2 ^ 63 - 1)) place d (is_wide n))
unfolding read_from word_read advance all_ended came behind
number_steps n s d first end ts at = refl

text_steps : (text : List ℕ) (s : List Symbol) (d : Draft) → StepsTo (part parts.Literal ∷ s) d (word.Text text) s (λ place. literal_came (value.Text text) place d)
unfolding read_from word_read advance all_ended came behind
text_steps text s d first end ts at = refl

minus_steps : (s : List Symbol) (d : Draft)
    → StepsTo (part parts.Literal ∷ s) d (sign signs.Minus) (grammar.number numbers.Negative ∷ s) (λ place. record d { row = record d.row { minus = place } })
unfolding read_from word_read advance all_ended came behind
minus_steps s d first end ts at = refl

negative_steps : (n : ℕ) (s : List Symbol) (d : Draft)
    → StepsTo (grammar.number numbers.Negative ∷ s) d (word.Number n) s (λ place. literal_came (value.Int (negative n)) d.row.minus d)
unfolding read_from word_read advance all_ended came behind
negative_steps n s d first end ts at = refl

below : (n : ℕ) → nat_lt n (2 ^ 63) ≡ true → min n (2 ^ 63 - 1) ≡ n
below n h = grind (arith, nat_tests)

pub narrow : (n : ℕ) → nat_lt n (2 ^ 63) ≡ true → is_wide n ≡ false
narrow n h = grind (arith, nat_tests)

least : (n : ℕ) → nat_lt n (2 ^ 63) ≡ true → min (suc n) (2 ^ 63) ≡ suc n
least n h = grind (arith, nat_tests)

-- a literal, and what is behind it
literal_reads : (of : RowOf) (ks : List ColumnKind) (a m : ℕ) (before : List Value) (d : Draft) (k : ColumnKind) (literal v : Value)
    → slice_get ks (length before) ≡ Some k → Fits of k literal v → IsShort literal → (s : List Symbol) (ws : List Word) (Last : Draft → Type 0)
    → ((n : ℕ) → ReadsOn s (rowed of ks a n (before ++ v ∷ []) d) ws Last) → ReadsOn (part parts.Literal ∷ s) (rowed of ks a m before d) (literal_words literal ++ ws) Last
literal_reads of ks a m before d k (value.Text text) v here fits short s ws Last more =
    step _ _ _ _ Last _ _ (text_steps text s (rowed of ks a m before d)) (λ place.
    from _ _ _ ws Last (literal_is of ks a m before d k (value.Text text) v place here fits) (more m))
literal_reads of ks a m before d k (value.Int (pos n)) v here fits short s ws Last more =
    let d1 = rowed of ks a m before d in
    spelled _ d1 _ _ Last (ap (λ (l : List Word). l ++ ws) (words_of_pos n))
    (step _ d1 _ _ Last _ _ (number_steps n s d1) (λ place.
    from _ _ _ ws Last
    (ap (λ (x : ℕ). number_with x place d1 (is_wide n)) (below n short) ∙ ap (number_with n place d1) (narrow n short)
    ∙ literal_is of ks a m before d k (value.Int (pos n)) v place here fits) (more m)))
literal_reads of ks a m before d k (value.Int (negsuc n)) v here fits short s ws Last more =
    let d1 = rowed of ks a m before d in
    step _ d1 _ _ Last _ _ (minus_steps s d1) (λ place.
    let d2 = rowed of ks a place before d in
    step _ d2 _ _ Last _ _ (negative_steps (suc n) s d2) (λ at.
    from _ _ _ ws Last
    (ap (λ (x : ℕ). literal_came (value.Int (neg_ℤ (pos x))) place d2) (least n short)
    ∙ literal_is of ks a place before d k (value.Int (negsuc n)) v place here fits) (more place)))

-- the values behind those that have been read fit their columns
abbrev pub AllFit : RowOf → (Value → Value) → List ColumnKind → List Value → List Value → Type 0
AllFit of literal ks before [] = Unit {0}
AllFit of literal ks before (v ∷ vs) =
    ((k : ColumnKind) × (slice_get ks (length before) ≡ Some k) × Fits of k (literal v) v × IsShort (literal v)) × AllFit of literal ks (before ++ v ∷ []) vs

-- how a value is printed as a literal
abbrev pub PrintsAs : (Value → List Word) → (Value → Value) → Type 0
PrintsAs words literal = (v : Value) → words v ≡ literal_words (literal v)

comma_steps : (s : List Symbol) (d : Draft) → StepsTo (part parts.MoreLiterals ∷ s) d (sign signs.Comma) (part parts.Literal ∷ part parts.MoreLiterals ∷ s) (λ place. d)
unfolding read_from word_read advance all_ended came behind
comma_steps s d first end ts at = refl

abbrev others : (Value → List Word) → List Value → List Word
others words vs = flat_map (λ y. sign signs.Comma ∷ words y) vs

others_read : (words : Value → List Word) (literal : Value → Value) → PrintsAs words literal → (of : RowOf) (ks : List ColumnKind) (a m : ℕ) (before vs : List Value) (d : Draft)
    → AllFit of literal ks before vs → (s : List Symbol) (ws : List Word) (Last : Draft → Type 0)
    → ((n : ℕ) → ReadsOn (part parts.MoreLiterals ∷ s) (rowed of ks a n (before ++ vs) d) ws Last)
    → ReadsOn (part parts.MoreLiterals ∷ s) (rowed of ks a m before d) (others words vs ++ ws) Last
others_read words literal as_literal of ks a m before [] d fit s ws Last more = from _ _ _ ws Last (ap (λ (l : List Value). rowed of ks a m l d) (sym (append-nil before))) (more m)
others_read words literal as_literal of ks a m before (v ∷ vs) d fit s ws Last more =
    let d1 = rowed of ks a m before d in
    let f = fit.0 in
    step _ d1 _ _ Last _ _ (comma_steps s d1) (λ place.
    spelled _ d1 _ _ Last (ap (λ (l : List Word). (l ++ others words vs) ++ ws) (as_literal v) ∙ append_assoc (literal_words (literal v)) (others words vs) ws)
    (literal_reads of ks a m before d f.0 (literal v) v f.1 f.2 f.3 _ _ Last (λ n.
    others_read words literal as_literal of ks a n (before ++ v ∷ []) vs d fit.1 s ws Last
    (λ i. from _ _ _ ws Last (ap (λ (l : List Value). rowed of ks a i l d) (append_assoc before (v ∷ []) vs)) (more i)))))

open_steps : (s : List Symbol) (d : Draft)
    → StepsTo (part parts.Row ∷ s) d (sign signs.Open) (part parts.Literal ∷ part parts.MoreLiterals ∷ grammar.sign signs.Close ∷ s) (λ place. record d { row = record d.row { at = place; values = [] } })
unfolding read_from word_read advance all_ended came behind
open_steps s d first end ts at = refl

no_more : behind parts.MoreLiterals (sign signs.Close) ≡ None
unfolding behind
no_more = refl

pub close_steps : (s : List Symbol) (d : Draft) → StepsTo (grammar.sign signs.Close ∷ s) d (sign signs.Close) s (λ place. d)
unfolding read_from word_read advance all_ended came
close_steps s d first end ts at = refl

-- ( 1 , 'a' , .. )
pub row_reads : (words : Value → List Word) (literal : Value → Value) → PrintsAs words literal → (of : RowOf) (ks : List ColumnKind) (a m : ℕ) (old : List Value) (v : Value) (vs : List Value) (d : Draft)
    → AllFit of literal ks [] (v ∷ vs) → (s : List Symbol) (ws : List Word) (Last : Draft → Type 0)
    → ((at minus : ℕ) → ReadsOn s (rowed of ks at minus (v ∷ vs) d) ws Last)
    → ReadsOn (part parts.Row ∷ s) (rowed of ks a m old d) (in_parentheses (with_commas words (v ∷ vs)) ++ ws) Last
row_reads words literal as_literal of ks a m old v vs d fit s ws Last more =
    let f = fit.0 in
    step _ (rowed of ks a m old d) _ _ Last _ _ (open_steps s (rowed of ks a m old d)) (λ place.
    let d1 = rowed of ks place m [] d in
    spelled _ d1 _ _ Last
    (append_assoc (words v ++ others words vs) (sign signs.Close ∷ []) ws ∙ append_assoc (words v) (others words vs) (sign signs.Close ∷ ws)
    ∙ ap (λ (l : List Word). l ++ (others words vs ++ sign signs.Close ∷ ws)) (as_literal v))
    (literal_reads of ks place m [] d f.0 (literal v) v f.1 f.2 f.3 _ _ Last (λ n.
    others_read words literal as_literal of ks place n (v ∷ []) vs d fit.1 _ _ Last (λ i.
    let d2 = rowed of ks place i (v ∷ vs) d in
    skip parts.MoreLiterals _ d2 (sign signs.Close) ws Last refl no_more
    (step _ d2 _ _ Last _ _ (close_steps s d2) (λ j. more place i))))))
