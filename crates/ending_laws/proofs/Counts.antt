-- How many of some keys stand above one.
use Rattle.std.proofs.Common.{◌≡◌, ◌≤◌, ◌<◌, ◌+◌, ℕ, zero, suc, List, [], ◌∷◌, length, get_or, Bool, true, false, cond, refl, ap, ◌∙◌, arith}
use Rattle.std.specs.Prelude.{Contains}
use Rattle.std.proofs.lemmas.Bool.{false≢true}
use Rattle.std.proofs.lemmas.List.Sums.{count_by-le-length, sum_by-cons}
use Rattle.sql_base.specs.Keys.{key_lt}
use Rattle.sql_base.proofs.KeyOrders.{lt-trans}
use Rattle.ending_laws.specs.Keys.{above}
use Rattle.sql_base.proofs.Orderings.{key_lt-itself}

abbrev one : Bool → ℕ
one b = cond b 1 0

above-more : (key k : List ℕ) (keys : List (List ℕ)) → above (k ∷ keys) key ≡ one (key_lt key k) + above keys key
above-more key k keys = sum_by-cons (λ y. one (key_lt key y)) k keys

one-few : (b : Bool) → one b ≤ 1
one-few true = omega arith
one-few false = omega arith

one-less : (a b : Bool) → (a ≡ true → b ≡ true) → one a ≤ one b
one-less true true f = omega arith
one-less true false f = absurd (false≢true (f refl))
one-less false true f = omega arith
one-less false false f = omega arith

pub few-above : (keys : List (List ℕ)) (key : List ℕ) → above keys key ≤ length keys
few-above keys key = count_by-le-length (key_lt key) keys

-- fewer stand above the higher of two
no-more-above : (low high : List ℕ) (keys : List (List ℕ)) → key_lt low high ≡ true → above keys high ≤ above keys low
no-more-above low high [] lt = omega arith
no-more-above low high (k ∷ keys) lt =
    let here = one-less (key_lt high k) (key_lt low k) (λ e. lt-trans low high k lt e) in
    omega (arith, here, no-more-above low high keys lt, above-more high k keys, above-more low k keys)

-- the higher one is among the keys, so it is above the lower one but not above itself
fewer-from : (low high : List ℕ) (keys : List (List ℕ)) (i : ℕ) → key_lt low high ≡ true → i < length keys → get_or keys i high ≡ high → above keys high < above keys low
fewer-from low high [] i lt within is = absurd (omega (arith, within))
fewer-from low high (k ∷ keys) zero lt within is =
    let own : one (key_lt high k) ≡ 0 = ap one (ap (key_lt high) is ∙ key_lt-itself high) in
    let other : one (key_lt low k) ≡ 1 = ap one (ap (key_lt low) is ∙ lt) in
    omega (arith, own, other, no-more-above low high keys lt, above-more high k keys, above-more low k keys)
fewer-from low high (k ∷ keys) (suc i) lt within is =
    let here = one-less (key_lt high k) (key_lt low k) (λ e. lt-trans low high k lt e) in
    omega (arith, here, fewer-from low high keys i lt (omega (arith, within)) is, above-more high k keys, above-more low k keys)

pub fewer-above : (keys : List (List ℕ)) (low high : List ℕ) → key_lt low high ≡ true → Contains keys high → above keys high < above keys low
fewer-above keys low high lt is_in = fewer-from low high keys is_in.0 lt is_in.1 is_in.2

-- above one of the keys stand fewer than there are
not-all-from : (key : List ℕ) (keys : List (List ℕ)) (i : ℕ) → i < length keys → get_or keys i key ≡ key → above keys key < length keys
not-all-from key [] i within is = absurd (omega (arith, within))
not-all-from key (k ∷ keys) zero within is =
    let own : one (key_lt key k) ≡ 0 = ap one (ap (key_lt key) is ∙ key_lt-itself key) in
    omega (arith, own, few-above keys key, above-more key k keys)
not-all-from key (k ∷ keys) (suc i) within is = omega (arith, one-few (key_lt key k), not-all-from key keys i (omega (arith, within)) is, above-more key k keys)

pub not-all-above : (keys : List (List ℕ)) (key : List ℕ) → Contains keys key → above keys key < length keys
not-all-above keys key is_in = not-all-from key keys is_in.0 is_in.1 is_in.2
