-- The words stand on the script one behind the other.
use Rattle.std.proofs.Common.{◌≡◌, ◌≤◌, ◌<◌, ◌+◌, ◌-◌, ℕ, List, [], ◌∷◌, ◌++◌, length, take, drop, ltb, Result, Ok, Err, refl, sym, ◌∙◌, subst, arith, add-one, drop-cons, length-drop, get_or}
use Rattle.std.proofs.lemmas.Bool.{ltb-true}
use Rattle.std.proofs.lemmas.Bool.Decides.{nat_tests}
use Rattle.std.specs.Prelude.{IfOk}
use Rattle.statement_words.specs.declared.faults.WordFault.{WordFault}
use Rattle.statement_words.specs.declared.tokens.Token.{Token}
use Rattle.statement_words.specs.Reading.{Gives}
use Rattle.statement_words.specs.Spans.{IsWritten, StandsOn, Stand}
use Rattle.statement_words.specs.Words.{Piece, is_separator, word_at, Words, with_word, fresh, words_step, words_from, words_of}
use Rattle.statement_words.proofs.Pieces.{IsPiece, chosen, bound, word_piece}

stand_later : (text : List ℕ) (ts : List Token) (from mid until : ℕ) → Stand text from ts mid → mid ≤ until → Stand text from ts until
stand_later text [] from mid until h le = omega arith
stand_later text (t ∷ ts) from mid until h le = (h.0, h.1, stand_later text ts t.end mid until h.2 le)

stand_more : (text : List ℕ) (ts : List Token) (from mid : ℕ) (t : Token) → Stand text from ts mid → mid ≤ t.first → StandsOn text t → Stand text from (ts ++ t ∷ []) t.end
stand_more text [] from mid t h le on = (omega arith, on, omega arith)
stand_more text (u ∷ us) from mid t h le on = (h.0, h.1, stand_more text us u.end mid t h.2 le on)

-- what is read before a place stands up to where the last token ends
record Stands (text : List ℕ) (at : ℕ) (s : Words) : Type 0 where
  within : at + s.skip ≤ length text
  stand : Stand text 0 s.tokens (at + s.skip)

piece_stands : (text : List ℕ) (at : ℕ) (tokens : List Token) (x : Piece) → at ≤ length text → Stand text 0 tokens at → IsPiece (drop at text) x
    → Stands text (at + 1) (with_word tokens at x)
piece_stands text at tokens x le h piece =
    let t : Token = record { word = x.word; first = at; end = at + x.len } in
    let some : 0 < x.len = piece.some in
    let within : x.len ≤ length (drop at text) = piece.within in
    let size : length (drop at text) ≡ length text - at = length-drop at text in
    let width : at + x.len - at ≡ x.len = omega arith in
    let P : ℕ → Type 0 = λ n. IsWritten x.word (take n (drop at text)) in
    let on : StandsOn text t = (omega arith, subst P (sym width) piece.written) in
    let ends : at + 1 + (x.len - 1) ≡ at + x.len = omega arith in
    let Q : ℕ → Type 0 = λ n. Stand text 0 (tokens ++ t ∷ []) n in
    record { within = omega arith; stand = subst Q (sym ends) (stand_more text tokens 0 at t h (omega arith) on) }

fresh_stands : (text : List ℕ) (at b : ℕ) (bs : List ℕ) (tokens : List Token) (next : Words) → drop at text ≡ b ∷ bs → at < length text → Stand text 0 tokens at
    → fresh at tokens (b ∷ bs) ≡ Ok next → Stands text (at + 1) next
fresh_stands text at b bs tokens next is lt h step =
    chosen (is_separator b) (Ok (record { tokens = tokens; skip = 0 })) _ (Ok next)
    (λ blank same. let e : record { tokens = tokens; skip = 0 } ≡ next = cc in
    subst (Stands text (at + 1)) e (record { within = omega arith; stand = stand_later text tokens 0 at (at + 1 + 0) h (omega arith) }))
    (λ word more. let read : (x : Piece) × (word_at at (b ∷ bs) ≡ Ok x) × (Ok (with_word tokens at x) ≡ Ok next) = bound (word_at at (b ∷ bs)) _ next more in
    let e : with_word tokens at read.0 ≡ next = cc in
    subst (Stands text (at + 1)) e (piece_stands text at tokens read.0 (omega arith) h (rw is (word_piece at (b ∷ bs) read.0 read.1)))) step

step_stands : (text : List ℕ) (at b : ℕ) (bs : List ℕ) (s next : Words) → drop at text ≡ b ∷ bs → at < length text → Stands text at s
    → words_step at s (b ∷ bs) ≡ Ok next → Stands text (at + 1) next
step_stands text at b bs s next is lt h step =
    chosen (ltb 0 s.skip) (Ok (record { tokens = s.tokens; skip = s.skip - 1 })) _ (Ok next)
    (λ some same. let e : record { tokens = s.tokens; skip = s.skip - 1 } ≡ next = cc in
    let left : 0 < s.skip = ltb-true 0 s.skip some in
    let within : at + s.skip ≤ length text = h.within in
    let ends : at + 1 + (s.skip - 1) ≡ at + s.skip = omega arith in
    let Q : ℕ → Type 0 = λ n. Stand text 0 s.tokens n in
    subst (Stands text (at + 1)) e (record { within = omega arith; stand = subst Q (sym ends) h.stand }))
    (λ none more. let skip : s.skip ≡ 0 = grind (arith, nat_tests) in
    let Q : ℕ → Type 0 = λ n. Stand text 0 s.tokens n in
    let ends : at + s.skip ≡ at = omega arith in
    fresh_stands text at b bs s.tokens next is lt (subst Q ends h.stand) more) step

behind : (text : List ℕ) (at b : ℕ) (bs : List ℕ) → drop at text ≡ b ∷ bs → at < length text → drop (at + 1) text ≡ bs
behind text at b bs is lt =
    let first : drop at text ≡ get_or text at 0 ∷ drop (at + 1) text = rw add-one (drop-cons text at 0 lt) in
    let e : get_or text at 0 ∷ drop (at + 1) text ≡ b ∷ bs = sym first ∙ is in cc

run_stands : (text bytes : List ℕ) (at : ℕ) (s : Words) (tokens : List Token) → drop at text ≡ bytes → at + length bytes ≡ length text → Stands text at s
    → words_from at s bytes ≡ Ok tokens → Stand text 0 tokens (length text)
unfolding words_from
run_stands text [] at s tokens is all h run =
    let e : s.tokens ≡ tokens = cc in
    let P : List Token → Type 0 = λ ts. Stand text 0 ts (length text) in
    subst P e (stand_later text s.tokens 0 (at + s.skip) (length text) h.stand h.within)
run_stands text (b ∷ bs) at s tokens is all h run =
    let read : (next : Words) × (words_step at s (b ∷ bs) ≡ Ok next) × (words_from (at + 1) next bs ≡ Ok tokens) = bound (words_step at s (b ∷ bs)) _ tokens run in
    let lt : at < length text = omega arith in
    run_stands text bs (at + 1) read.0 tokens (behind text at b bs is lt) (omega arith) (step_stands text at b bs s read.0 is lt h read.1) read.2

pub words_stand : (text : List ℕ) (read : Result (List Token) WordFault) → Gives (λ x. x) read (words_of text) → IfOk read (λ tokens. Stand text 0 tokens (length text))
words_stand text (Ok tokens) h =
    run_stands text text 0 (record { tokens = []; skip = 0 }) tokens refl (omega arith) (record { within = omega arith; stand = omega arith }) h
words_stand text (Err e) h = tt
