-- Printed limits are read as themselves.
use Rattle.std.proofs.Common.{◌≡◌, ◌≤◌, ℕ, zero, suc, List, [], ◌∷◌, ◌++◌, Bool, true, false, None, cond, refl, ap, ◌∙◌, arith}
use Rattle.std.proofs.lemmas.Bool.Decides.{nat_tests}
use Rattle.std.specs.Prelude.{not, nat_le, ◌&&◌, ◌==◌}
use Rattle.sql_base.specs.Scripts.{AreLimits}
use Rattle.sql_base.specs.declared.scripts.Limits.{Limits}
use Rattle.statement_words.specs.declared.keywords.Keyword.TheVariants as keys
use Rattle.statement_words.specs.declared.tokens.Sign.TheVariants as signs
use Rattle.statement_words.specs.declared.tokens.Word.{Word}
use Rattle.statement_words.specs.declared.tokens.Word.TheVariants as word
use Rattle.statement_grammar.specs.Grammar.{behind, part, limit_key}
use Rattle.statement_grammar.specs.Grammar as grammar
use Rattle.statement_grammar.specs.Machine.{advance}
use Rattle.statement_grammar.specs.declared.symbols.Limit.{Limit}
use Rattle.statement_grammar.specs.declared.symbols.Limit.TheVariants as limits
use Rattle.statement_grammar.specs.declared.symbols.NumberRole.TheVariants as numbers
use Rattle.statement_grammar.specs.declared.symbols.Part.TheVariants as parts
use Rattle.statement_grammar.specs.declared.symbols.Symbol.{Symbol}
use Rattle.statement_draft.specs.Faults.{noted}
use Rattle.statement_draft.specs.Names.{is_wide}
use Rattle.statement_draft.specs.Judging.{all_ended, came, read_from, word_read}
use Rattle.statement_draft.specs.TableEvents.{is_within, limit_came, with_limit}
use Rattle.statement_draft.specs.declared.draft.Draft.{Draft}
use Rattle.statement_draft.specs.declared.faults.Reason.TheVariants.{NumberTooWide, OverLimit}
use Rattle.statement_printer.specs.Printing.{key, sign, limit_words, limits_words, restart_words}
use Rattle.statement_round_trip.specs.Onward.{ReadsOn}
use Rattle.statement_round_trip.proofs.Onward.{from, skip, spelled, step, StepsTo}

abbrev with : Limit → ℕ → Draft → Draft
with l n d = record d { limits = with_limit l n d.limits }

abbrev noted_limit : Limit → ℕ → ℕ → Draft → Bool → Bool → Draft
noted_limit l n at d within wide = record d {
  first = noted (not within) OverLimit at (noted wide NumberTooWide at d.first);
  limits = with_limit l (cond within n 0) d.limits;
}

limit_is : (l : Limit) (n at : ℕ) (d : Draft) → is_within l n ≡ true → is_wide n ≡ false → limit_came l n at d ≡ with l n d
limit_is l n at d within narrow = ap (λ (b : Bool). noted_limit l n at d b (is_wide n)) within ∙ ap (noted_limit l n at d true) narrow

key_steps : (l : Limit) (s : List Symbol) (d : Draft)
    → StepsTo (part (parts.Limit l) ∷ s) d (key (limit_key l)) (grammar.number (numbers.Limit l) ∷ grammar.sign signs.Semicolon ∷ s) (λ place. d)
unfolding read_from word_read advance all_ended came behind
key_steps limits.Quantum s d first end ts at = refl
key_steps limits.Buffer s d first end ts at = refl
key_steps limits.Patience s d first end ts at = refl
key_steps limits.Servers s d first end ts at = refl
key_steps limits.Restart s d first end ts at = refl

number_steps : (l : Limit) (n : ℕ) (s : List Symbol) (d : Draft)
    → StepsTo (grammar.number (numbers.Limit l) ∷ grammar.sign signs.Semicolon ∷ s) d (word.Number n) (grammar.sign signs.Semicolon ∷ s) (λ place. limit_came l n place d)
unfolding read_from word_read advance all_ended came
number_steps l n s d first end ts at = refl

pub semicolon_steps : (s : List Symbol) (d : Draft) → StepsTo (grammar.sign signs.Semicolon ∷ s) d (sign signs.Semicolon) s (λ place. d)
unfolding read_from word_read advance all_ended came
semicolon_steps s d first end ts at = refl

-- a limit, and what is behind it
limit_reads : (l : Limit) (n : ℕ) (s : List Symbol) (d : Draft) (ws : List Word) (Last : Draft → Type 0) → is_within l n ≡ true → is_wide n ≡ false
    → ReadsOn s (with l n d) ws Last → ReadsOn (part (parts.Limit l) ∷ s) d (limit_words (limit_key l) n ++ ws) Last
unfolding limit_words
limit_reads l n s d ws Last within narrow more =
    step _ d _ _ Last _ _ (key_steps l s d) (λ a.
    step _ d _ _ Last _ _ (number_steps l n s d) (λ b.
    from _ (limit_came l n b d) (with l n d) _ Last (limit_is l n b d within narrow)
    (step _ (with l n d) _ _ Last _ _ (semicolon_steps s (with l n d)) (λ c. more))))

lies : (low high n : ℕ) → low ≤ n → n ≤ high → (nat_le low n && nat_le n high) ≡ true
lies low high n a b = grind (arith, nat_tests)

narrow : (n : ℕ) → n ≤ 32768 → is_wide n ≡ false
narrow n h = grind (arith, nat_tests)

abbrev pub limit_symbols : List Symbol → List Symbol
limit_symbols s =
    part (parts.Limit limits.Quantum) ∷ part (parts.Limit limits.Buffer) ∷ part (parts.Limit limits.Patience) ∷ part (parts.Limit limits.Servers)
    ∷ part (parts.Limit limits.Restart) ∷ s

no_restart : behind (parts.Limit limits.Restart) (key keys.Table) ≡ None
unfolding behind
no_restart = refl

abbrev pub limited : Limits → Draft → Draft
limited limits d = record d { limits = limits }

some_restart : (n : ℕ) (r : Bool) → (suc n == 0) ≡ r → cond r [] (limit_words keys.Restart (suc n)) ≡ limit_words keys.Restart (suc n)
some_restart n true h = absurd (grind (arith, nat_tests))
some_restart n false h = refl

-- RESTART is printed where it isn't 0
restart_reads : (n : ℕ) (s : List Symbol) (d : Draft) (ws : List Word) (Last : Draft → Type 0) → n ≤ 10 → d.limits.restart ≡ 0
    → ReadsOn s (with limits.Restart n d) (key keys.Table ∷ ws) Last → ReadsOn (part (parts.Limit limits.Restart) ∷ s) d (restart_words n ++ key keys.Table ∷ ws) Last
restart_reads zero s d ws Last most none more =
    skip (parts.Limit limits.Restart) s d (key keys.Table) ws Last refl no_restart
    (from s d (with limits.Restart 0 d) (key keys.Table ∷ ws) Last (ap (λ (k : ℕ). with limits.Restart k d) none) more)
restart_reads (suc n) s d ws Last most none more =
    spelled _ d _ _ Last (ap (λ (l : List Word). l ++ key keys.Table ∷ ws) (some_restart n (suc n == 0) refl))
    (limit_reads limits.Restart (suc n) s d (key keys.Table ∷ ws) Last (lies 0 10 (suc n) (omega arith) most) (narrow (suc n) (omega (arith, most))) more)

-- the limits, and the tables behind them
pub limits_read : (l : Limits) → AreLimits l → (s : List Symbol) (d : Draft) (ws : List Word) (Last : Draft → Type 0) → d.limits.restart ≡ 0
    → ReadsOn s (limited l d) (key keys.Table ∷ ws) Last → ReadsOn (limit_symbols s) d (limits_words l ++ key keys.Table ∷ ws) Last
unfolding limit_words
limits_read l are s d ws Last none more =
    let q = are.quantum in
    let b = are.buffer in
    let v = are.servers in
    limit_reads limits.Quantum l.quantum _ d _ Last (lies 1 1000 l.quantum q.0 q.1) (narrow l.quantum (omega (arith, q.1)))
    (limit_reads limits.Buffer l.buffer _ _ _ Last (lies 320 32768 l.buffer b.0 b.1) (narrow l.buffer b.1)
    (limit_reads limits.Patience l.patience _ _ _ Last (lies 0 100 l.patience (omega arith) are.patience) (narrow l.patience (omega (arith, are.patience)))
    (limit_reads limits.Servers l.servers _ _ _ Last (lies 1 4 l.servers v.0 v.1) (narrow l.servers (omega (arith, v.1)))
    (restart_reads l.restart s _ ws Last are.restart none more))))
