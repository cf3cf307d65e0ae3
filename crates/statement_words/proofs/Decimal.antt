use Rattle.std.proofs.Common.{◌≡◌, ℕ, ◌+◌, ◌-◌, ◌*◌, ◌^◌, ◌≤◌, ◌<◌, List, [], ◌∷◌, ltb, true, get_or, drop, length, suc, arith, lt-ltb, drop-cons}
use Rattle.statement_words.specs.Words.{decimal_from}

-- more digits spell no less
pub decimal_grows : (ds : List ℕ) (n : ℕ) → n ≤ decimal_from n ds
decimal_grows [] n = omega arith
decimal_grows (d ∷ ds) n = omega (arith, decimal_grows ds (n * 10 + (d - 48)))

-- one digit more is too wide, and so is the whole
pub too_wide : (digits : List ℕ) (i n total : ℕ) → i < length digits → decimal_from n (drop i digits) ≡ total → 2 ^ 63 < n * 10 + (get_or digits i 0 - 48) → ltb (2 ^ 63) total ≡ true
too_wide digits i n total lt so_far wide =
    let e = rw (drop-cons digits i 0 lt) at so_far in
    lt-ltb _ _ (omega (arith, e, decimal_grows (drop (suc i) digits) (n * 10 + (get_or digits i 0 - 48))))
