-- The order of the keys of numbers.
use Rattle.std.proofs.Common.{◌≡◌, ℕ, zero, suc, ◌+◌, ◌*◌, ◌%◌, ◌-◌, ◌^◌, ◌<◌, ◌<ℤ◌, ℤ, pos, negsuc, List, ◌∷◌, true, ◌⊎◌, inl, inr, ap, ◌∙◌, arith}
use Rattle.std.proofs.Math.Arith.{mod-mul}
use Rattle.std.proofs.Math.Nat.{one-le-pow, mod-one, pow-succ'}
use Rattle.std.proofs.lemmas.Bool.{cases_order, lt-ltb, ltb-true}
use Rattle.std.proofs.lemmas.Int.{ints}
use Rattle.std.proofs.lemmas.Bool.Decides.{nat_tests}
use Rattle.std.proofs.lemmas.Nat.{mod_below, mul-le, xor_block, xor_comm}
use Rattle.std.specs.Int.{w64, byte_at, bytes_high_first, cast_unsigned}
use Rattle.std.specs.Int.Bits.{xor_shifted, xor_zero_r}
use Rattle.std.specs.Prelude.{bit_xor}
use Rattle.sql_base.specs.Keys.{key_lt}
use Rattle.sql_base.specs.Rows.{in_i64, key_value}
use Rattle.sql_base.specs.declared.tables.ColumnKind.TheVariants.{Int}
use Rattle.sql_base.specs.declared.values.Value.TheVariants as value

pow_pos : (k : ℕ) → 0 < 256 ^ k
pow_pos k = omega (arith, one-le-pow k 256 (omega arith))

-- the low bytes of a number are their highest byte and what stands below it
highest_split : (k n : ℕ) → n % 256 ^ suc k ≡ byte_at k n * 256 ^ k + n % 256 ^ k
highest_split zero n = omega (arith, mod-one n)
highest_split (suc k) n = rw (pow-succ' 256 (suc k)) (mod-mul n (omega arith) (pow_pos (suc k)))

-- a lower highest byte makes a lower number, whatever stands below it
lower : (x y p r s : ℕ) → x < y → r < p → x * p + r < y * p + s
lower x y p r s lt below = omega (arith, mul-le (suc x) p y p lt (omega arith))

-- two keys whose first bytes differ
first_less : (x y : ℕ) (xs ys : List ℕ) → x < y → key_lt (x ∷ xs) (y ∷ ys) ≡ true
first_less x y xs ys lt = rw (lt-ltb x y lt)

-- two keys with one first byte
first_same : (x y : ℕ) (xs ys : List ℕ) → x ≡ y → key_lt xs ys ≡ true → key_lt (x ∷ xs) (y ∷ ys) ≡ true
first_same x y xs ys e lt = grind (arith, nat_tests)

-- one byte more in front, x and y, over the numbers r and s of the bytes behind it
step : (x y p r s : ℕ) (xs ys : List ℕ) → r < p → s < p → (r < s → key_lt xs ys ≡ true)
    → x * p + r < y * p + s → (x ≡ y) ⊎ ((x < y) ⊎ (y < x)) → key_lt (x ∷ xs) (y ∷ ys) ≡ true
step x y p r s xs ys rp sp rest lt (inl e) = first_same x y xs ys e (rest (omega (arith, ap (λ z. z * p) e)))
step x y p r s xs ys rp sp rest lt (inr (inl less)) = first_less x y xs ys less
step x y p r s xs ys rp sp rest lt (inr (inr more)) = absurd (omega (arith, lower y x p s r more sp))

-- the lowest k bytes of two numbers, the highest of them first, are in the order of what they are worth
pub bytes_high_first-rise : (k n m : ℕ) → n % 256 ^ k < m % 256 ^ k → key_lt (bytes_high_first k n) (bytes_high_first k m) ≡ true
bytes_high_first-rise zero n m lt = absurd (omega (arith, mod-one n, mod-one m))
bytes_high_first-rise (suc k) n m lt =
    step (byte_at k n) (byte_at k m) (256 ^ k) (n % 256 ^ k) (m % 256 ^ k) (bytes_high_first k n) (bytes_high_first k m)
    (mod_below n (256 ^ k) (pow_pos k)) (mod_below m (256 ^ k) (pow_pos k)) (bytes_high_first-rise k n m) (rw (← highest_split k n, ← highest_split k m) lt)
    (cases_order (byte_at k n) (byte_at k m))

-- where a number stands among all of 64 bits
abbrev place : ℤ → ℕ
place (pos n) = 2 ^ 63 + n
place (negsuc n) = 2 ^ 63 - suc n

-- to invert the sign bit gives that place
flipped : (v : ℤ) → in_i64 v ≡ true → bit_xor (cast_unsigned w64 v) (2 ^ 63) ≡ place v
flipped (pos n) fits = xor_comm n (2 ^ 63) ∙ xor_shifted 1 63 n (ltb-true n (2 ^ 63) fits)
flipped (negsuc n) fits =
    let small : n < 2 ^ 63 = ltb-true n (2 ^ 63) fits in
    let halves : 2 ^ 64 - suc n ≡ 1 * 2 ^ 63 + (2 ^ 63 - suc n) = omega arith in
    rw halves (omega (arith, xor_block 63 1 1 (2 ^ 63 - suc n) 0 (omega arith) (omega arith), xor_zero_r (2 ^ 63 - suc n)))

place_fits : (v : ℤ) → in_i64 v ≡ true → place v < 2 ^ 64
place_fits (pos n) fits = omega (arith, ltb-true n (2 ^ 63) fits)
place_fits (negsuc n) fits = omega arith

places_rise : (a b : ℤ) → in_i64 a ≡ true → a <ℤ b → place a < place b
places_rise (pos a) (pos b) fits lt = omega (arith, ints)
places_rise (pos a) (negsuc b) fits lt = absurd (omega (arith, ints))
places_rise (negsuc a) (pos b) fits lt = omega (arith, ltb-true a (2 ^ 63) fits)
places_rise (negsuc a) (negsuc b) fits lt = omega (arith, ints, ltb-true a (2 ^ 63) fits)

-- a greater number has the greater key
pub signed_keys-rise : (a b : ℤ) → in_i64 a ≡ true → in_i64 b ≡ true → a <ℤ b → key_lt (key_value Int (value.Int a)) (key_value Int (value.Int b)) ≡ true
signed_keys-rise a b fits_a fits_b lt =
    let less : bit_xor (cast_unsigned w64 a) (2 ^ 63) % 256 ^ 8 < bit_xor (cast_unsigned w64 b) (2 ^ 63) % 256 ^ 8 =
    rw (flipped a fits_a, flipped b fits_b) (omega (arith, places_rise a b fits_a lt, place_fits a fits_a, place_fits b fits_b)) in
    bytes_high_first-rise 8 (bit_xor (cast_unsigned w64 a) (2 ^ 63)) (bit_xor (cast_unsigned w64 b) (2 ^ 63)) less

-- the same of numbers from 0
pub int_keys-rise : (a b : ℕ) → a < b → b < 2 ^ 63 → key_lt (key_value Int (value.Int (pos a))) (key_value Int (value.Int (pos b))) ≡ true
int_keys-rise a b lt small = signed_keys-rise (pos a) (pos b) (lt-ltb a (2 ^ 63) (omega arith)) (lt-ltb b (2 ^ 63) small) (omega (arith, ints))
