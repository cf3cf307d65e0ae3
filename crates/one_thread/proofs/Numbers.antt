-- Numbers and lines as a text has them.
use Rattle.std.proofs.Common.{◌≡◌, List, [], ◌∷◌, ◌++◌, ℕ, refl, lit≤}
use Rattle.std.proofs.lemmas.Fmt.{decimal_digit, decimal_step}
use Rattle.std.specs.Prelude.{codes, decimal, flat_map}

-- lines, each with its line feed
abbrev pub lines : List (List ℕ) → List ℕ
lines texts = flat_map (λ (text : List ℕ). text ++ 0x0A ∷ []) texts

-- some numbers as they are written
pub decimal-1 : decimal 1 ≡ codes "1"
decimal-1 = decimal_digit 1 (lit≤ tt)

pub decimal-2 : decimal 2 ≡ codes "2"
decimal-2 = decimal_digit 2 (lit≤ tt)

pub decimal-3 : decimal 3 ≡ codes "3"
decimal-3 = decimal_digit 3 (lit≤ tt)

pub decimal-4 : decimal 4 ≡ codes "4"
decimal-4 = decimal_digit 4 (lit≤ tt)

pub decimal-5 : decimal 5 ≡ codes "5"
decimal-5 = decimal_digit 5 (lit≤ tt)

pub decimal-9 : decimal 9 ≡ codes "9"
decimal-9 = decimal_digit 9 (lit≤ tt)

pub decimal-10 : decimal 10 ≡ codes "10"
decimal-10 = simp (decimal_step 10 (lit≤ tt) (lit≤ tt), decimal-1) refl

pub decimal-20 : decimal 20 ≡ codes "20"
decimal-20 = simp (decimal_step 20 (lit≤ tt) (lit≤ tt), decimal-2) refl

pub decimal-30 : decimal 30 ≡ codes "30"
decimal-30 = simp (decimal_step 30 (lit≤ tt) (lit≤ tt), decimal-3) refl

pub decimal-40 : decimal 40 ≡ codes "40"
decimal-40 = simp (decimal_step 40 (lit≤ tt) (lit≤ tt), decimal-4) refl

pub decimal-50 : decimal 50 ≡ codes "50"
decimal-50 = simp (decimal_step 50 (lit≤ tt) (lit≤ tt), decimal-5) refl

pub decimal-90 : decimal 90 ≡ codes "90"
decimal-90 = simp (decimal_step 90 (lit≤ tt) (lit≤ tt), decimal-9) refl

-- all of them
pub ruleset numbers = (decimal-1, decimal-2, decimal-3, decimal-4, decimal-5, decimal-9, decimal-10, decimal-20, decimal-30, decimal-40, decimal-50, decimal-90)
