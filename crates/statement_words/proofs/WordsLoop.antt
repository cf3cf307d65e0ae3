-- One turn of the loop over the bytes.
use Rattle.std.proofs.Common.{◌≡◌, ℕ, zero, suc, ◌+◌, ◌<◌, List, [], ◌∷◌, drop, get_or, length, Result, Ok, refl, sym, ap, ◌∙◌, arith, drop-cons, add-one, add-zero, ltb, lt-ltb, true, ◌-◌}
use Rattle.std.proofs.lemmas.List.{drop-drop}
use Rattle.statement_words.specs.declared.tokens.Token.{Token}
use Rattle.statement_words.specs.Reading.{Place, ◌>>=◌}
use Rattle.statement_words.specs.Words.{Words, fresh, words_step, words_from}

turn : (bytes : List ℕ) (b : ℕ) (bs : List ℕ) (at : ℕ) (s next : Words) (total : Result (List Token) Place) → bytes ≡ b ∷ bs → words_step at s bytes ≡ Ok next → words_from at s bytes ≡ total → words_from (at + 1) next bs ≡ total
unfolding words_from
turn bytes b bs at s next total is step h =
    let step-is = rw is at step in
    let h-is = rw is at h in
    rw step-is at h-is

words_turn : (text : List ℕ) (at : ℕ) (s next : Words) (total : Result (List Token) Place) → at < length text → words_step at s (drop at text) ≡ Ok next
    → words_from at s (drop at text) ≡ total → words_from (at + 1) next (drop (at + 1) text) ≡ total
words_turn text at s next total lt step h =
    let is : drop at text ≡ get_or text at 0 ∷ drop (at + 1) text = rw add-one (drop-cons text at 0 lt) in
    turn (drop at text) (get_or text at 0) (drop (at + 1) text) at s next total is step h

-- bytes that belong to the last token are passed over
skipped : (bytes : List ℕ) (at k : ℕ) (tokens : List Token)
    → words_from at (record { tokens = tokens; skip = k }) bytes ≡ words_from (at + k) (record { tokens = tokens; skip = 0 }) (drop k bytes)
unfolding words_from
skipped bytes at zero tokens = rw add-zero refl
skipped [] at (suc k) tokens = refl
skipped (b ∷ bs) at (suc k) tokens =
    let some : ltb 0 (suc k) ≡ true = lt-ltb 0 (suc k) (omega arith) in
    let less : suc k - 1 ≡ k = omega arith in
    let step : words_step at (record { tokens = tokens; skip = suc k }) (b ∷ bs) ≡ Ok (record { tokens = tokens; skip = k }) = rw (some, less) refl in
    let place : at + 1 + k ≡ at + suc k = omega arith in
    ap (λ (r : Result Words Place). r >>= λ next. words_from (at + 1) next bs) step
    ∙ skipped bs (at + 1) k tokens ∙ ap (λ n. words_from n (record { tokens = tokens; skip = 0 }) (drop k bs)) place

-- a piece was taken, and what stands behind it is read as before
pub words_taken : (text : List ℕ) (at skip : ℕ) (tokens more : List Token) (total : Result (List Token) Place) → at < length text
    → fresh at tokens (drop at text) ≡ Ok (record { tokens = more; skip = skip })
    → words_from at (record { tokens = tokens; skip = 0 }) (drop at text) ≡ total
    → words_from (at + (1 + skip)) (record { tokens = more; skip = 0 }) (drop (at + (1 + skip)) text) ≡ total
words_taken text at skip tokens more total lt step h =
    let on = words_turn text at (record { tokens = tokens; skip = 0 }) (record { tokens = more; skip = skip }) total lt step h in
    let far : at + 1 + skip ≡ at + (1 + skip) = omega arith in
    let rest : drop skip (drop (at + 1) text) ≡ drop (at + 1 + skip) text = drop-drop skip (at + 1) text in
    ap (λ n. words_from n (record { tokens = more; skip = 0 }) (drop n text)) (sym far)
    ∙ ap (words_from (at + 1 + skip) (record { tokens = more; skip = 0 })) (sym rest)
    ∙ sym (skipped (drop (at + 1) text) (at + 1) skip more) ∙ on
