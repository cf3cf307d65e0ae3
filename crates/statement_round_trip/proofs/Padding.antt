-- A text without its last blanks, padded again.
use Rattle.std.proofs.Common.{◌≡◌, ℕ, suc, ◌+◌, ◌-◌, List, [], ◌∷◌, ◌++◌, length, take, replicate, Bool, true, false, ◌&&◌, ◌==◌, cond, refl, sym, ap, ◌∙◌, arith}
use Rattle.std.proofs.lemmas.Bool.Decides.{nat_tests}
use Rattle.sql_base.specs.Rows.{padded}
use Rattle.statement_printer.specs.Printing.{length_unblanked}
use Rattle.statement_round_trip.specs.Rereading.{PaddedBack}
use Rattle.sql_base.proofs.Truths.{both_hold}

abbrev is_last : ℕ → List ℕ → Bool
is_last b bs = b == 32 && length_unblanked bs == 0

one_blank : (b : ℕ) (bs : List ℕ) → is_last b bs ≡ true → (length_unblanked bs ≡ 0 → replicate (length bs) 32 ≡ bs) → replicate (suc (length bs)) 32 ≡ b ∷ bs
one_blank b bs e more =
    let both = both_hold (b == 32) (length_unblanked bs == 0) e in
    let is : b ≡ 32 = grind (arith, nat_tests) in
    let none : length_unblanked bs ≡ 0 = grind (arith, nat_tests) in
    ap (λ (l : List ℕ). 32 ∷ l) (more none) ∙ ap (λ (c : ℕ). c ∷ bs) (sym is)

blank_or : (b : ℕ) (bs : List ℕ) (t : Bool) → is_last b bs ≡ t → cond t 0 (length_unblanked bs + 1) ≡ 0 → (length_unblanked bs ≡ 0 → replicate (length bs) 32 ≡ bs) → replicate (suc (length bs)) 32 ≡ b ∷ bs
blank_or b bs true e h more = one_blank b bs e more
blank_or b bs false e h more = absurd (omega (arith, h))

all_blank : (bs : List ℕ) → length_unblanked bs ≡ 0 → replicate (length bs) 32 ≡ bs
all_blank [] h = refl
all_blank (b ∷ bs) h = blank_or b bs (is_last b bs) refl h (all_blank bs)

padded_or : (b : ℕ) (bs : List ℕ) (t : Bool) → is_last b bs ≡ t → padded (length bs) (take (length_unblanked bs) bs) ≡ bs
    → padded (suc (length bs)) (take (cond t 0 (length_unblanked bs + 1)) (b ∷ bs)) ≡ b ∷ bs
padded_or b bs true e h =
    let all : suc (length bs) - 0 ≡ suc (length bs) = omega arith in
    ap (λ (k : ℕ). replicate k 32) all ∙ one_blank b bs e (all_blank bs)
padded_or b bs false e h =
    let up : length_unblanked bs + 1 ≡ suc (length_unblanked bs) = omega arith in
    let front = take (length_unblanked bs) bs in
    let same : suc (length bs) - suc (length front) ≡ length bs - length front = omega arith in
    ap (λ (k : ℕ). padded (suc (length bs)) (take k (b ∷ bs))) up ∙ ap (λ (k : ℕ). b ∷ (front ++ replicate k 32)) same ∙ ap (λ (l : List ℕ). b ∷ l) h

pub padded_back : PaddedBack
padded_back [] = refl
padded_back (b ∷ bs) = padded_or b bs (is_last b bs) refl (padded_back bs)
