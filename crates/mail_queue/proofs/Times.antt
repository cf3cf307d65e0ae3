-- How often something stands in a list.
use Rattle.std.proofs.Common.{get_or, ◌≡◌, ℕ, zero, suc, ◌+◌, ◌<◌, ◌≤◌, List, [], ◌∷◌, ◌++◌, length, take, drop, cond, refl, sym, ap, ◌∙◌, subst, arith, eq-eqb, length-append, ⊎_elim}
use Rattle.std.specs.List.{Any, All, Contains, range_with_len}
use Rattle.std.specs.Str.{bytes_eq}
use Rattle.std.proofs.lemmas.Bool.{ltb-true, le-ltb, cases_Bool, cond_both}
use Rattle.std.proofs.lemmas.List.Sums.{sum_by-append}
use Rattle.std.proofs.lemmas.List.Elements.{Contains-append_right}
use Rattle.std.proofs.lemmas.Slice.Eq.{bytes_eq-Decides}
use Rattle.std.proofs.lemmas.Bool.Decides.{nat_tests}
use Rattle.std.specs.Prelude.{nat_lt}
use Rattle.mail_queue.specs.Messages.{times, times_number, Balances}

pub times-append : (message : List ℕ) (xs ys : List (List ℕ)) → times message (xs ++ ys) ≡ times message xs + times message ys
times-append message xs ys = sum_by-append _ xs ys

pub times-cons : (message x : List ℕ) (xs : List (List ℕ)) → times message (x ∷ xs) ≡ times message (x ∷ []) + times message xs
times-cons message x xs = sum_by-append _ (x ∷ []) xs

pub times_number-append : (x : ℕ) (xs ys : List ℕ) → times_number x (xs ++ ys) ≡ times_number x xs + times_number x ys
times_number-append x xs ys = sum_by-append _ xs ys

pub times_number-head : (x : ℕ) (xs : List ℕ) → 1 ≤ times_number x (x ∷ xs)
times_number-head x xs = omega (arith, times_number-append x (x ∷ []) xs, ap {B = ℕ} (λ b. 0 + cond b 1 0) (eq-eqb x x refl))

-- a number that stands in the list is counted
pub times_number-any : (xs : List ℕ) (x : ℕ) → Any (λ y. y ≡ x) xs → 1 ≤ times_number x xs
times_number-any [] x (k, y, short, is, same) = absurd (omega arith)
times_number-any (z ∷ zs) x (zero, y, short, is, same) =
    subst (λ number. 1 ≤ times_number x (number ∷ zs)) (sym (is ∙ same)) (times_number-head x zs)
times_number-any (z ∷ zs) x (suc k, y, short, is, same) =
    omega (arith, times_number-append x (z ∷ []) zs, times_number-any zs x (k, y, omega arith, is, same))

-- a list of numbers, cut after the first
pub times_number-cut : (x : ℕ) (xs : List ℕ) → times_number x (drop 1 xs) + times_number x (take 1 xs) ≡ times_number x xs
times_number-cut x [] = refl
times_number-cut x (y ∷ ys) = omega (arith, times_number-append x (y ∷ []) ys)

range_with_len-snoc : (k n : ℕ) → range_with_len k (suc n) ≡ range_with_len k n ++ (k + n) ∷ []
range_with_len-snoc k zero = ap (λ y. y ∷ []) (omega arith)
range_with_len-snoc k (suc n) =
    let same : k + 1 + n ≡ k + suc n = omega arith in
    ap (λ ys. k ∷ ys) (range_with_len-snoc (k + 1) n ∙ ap (λ y. range_with_len (k + 1) n ++ y ∷ []) same)

-- 1 where x is below n, and else 0
abbrev once_below : ℕ → ℕ → ℕ
once_below x n = cond (nat_lt x n) 1 0

-- among the numbers below n each of them stands once, and no other
times_number-range : (x n : ℕ) → times_number x (range_with_len 0 n) ≡ once_below x n
times_number-range x zero = sym (ap {B = ℕ} (λ b. cond b 1 0) (le-ltb x 0 (omega arith)))
times_number-range x (suc n) =
    let more = ap (times_number x) (range_with_len-snoc 0 n) in
    let parts = times_number-append x (range_with_len 0 n) ((0 + n) ∷ []) in
    let before = times_number-range x n in
    grind (arith, nat_tests)

pub times_number-range-le : (x n : ℕ) → times_number x (range_with_len 0 n) ≤ 1
times_number-range-le x n =
    rw (times_number-range x n) (cond_both (nat_lt x n) 1 0 (λ r. r ≤ 1) (λ _. omega arith) (λ _. omega arith))

pub times_number-range-lt : (x n : ℕ) → 1 ≤ times_number x (range_with_len 0 n) → x < n
times_number-range-lt x n =
    rw (times_number-range x n) (cond_both (nat_lt x n) 1 0 (λ r. 1 ≤ r → x < n) (λ below _. ltb-true x n below) (λ _ none. absurd (omega arith)))

times-self : (message : List ℕ) → times message (message ∷ []) ≡ 1
times-self message = ap {B = ℕ} (λ b. 0 + cond b 1 0) ((bytes_eq-Decides message message).1 refl)

-- a message that is counted stands between others
split_at_message : (message : List ℕ) (xs : List (List ℕ)) → 1 ≤ times message xs → (front : List (List ℕ)) × (back : List (List ℕ)) × (xs ≡ front ++ message ∷ back)
split_at_message message [] some_there = absurd (omega arith)
split_at_message message (x ∷ xs) some_there =
    ⊎_elim
    (λ same. ([], xs, ap (λ y. y ∷ xs) (sym ((bytes_eq-Decides message x).0 same))))
    (λ other.
    let count = times-cons message x xs in
    let none : times message (x ∷ []) ≡ 0 = ap {B = ℕ} (λ b. 0 + cond b 1 0) other in
    let rest = split_at_message message xs (omega arith) in
    (x ∷ rest.0, rest.1, ap (λ ys. x ∷ ys) rest.2))
    (cases_Bool (bytes_eq message x))

-- where each message stands at most as often, the list is at most as long
pub length-le-times : (xs ys : List (List ℕ)) → ((message : List ℕ) → times message xs ≤ times message ys) → length xs ≤ length ys
length-le-times [] ys fewer = omega arith
length-le-times (x ∷ xs) ys fewer =
    let count = times-cons x x xs in
    let self = times-self x in
    let bound = fewer x in
    let cut = split_at_message x ys (omega arith) in
    let rest = length-le-times xs (cut.0 ++ cut.1) (λ message.
    let before = fewer message in
    let more = times-cons message x xs in
    let whole = ap (times message) cut.2 in
    let parts = times-append message cut.0 (x ∷ cut.1) in
    let back = times-cons message x cut.1 in
    let both = times-append message cut.0 cut.1 in
    omega arith) in
    omega (arith, ap length cut.2, length-append cut.0 (x ∷ cut.1), length-append cut.0 cut.1)

times-get_or : (xs : List (List ℕ)) (k : ℕ) (d : List ℕ) → k < length xs → 1 ≤ times (get_or xs k d) xs
times-get_or [] k d short = absurd (omega arith)
times-get_or (x ∷ xs) zero d short = omega (arith, times-cons x x xs, times-self x)
times-get_or (x ∷ xs) (suc k) d short =
    omega (arith, times-cons (get_or xs k d) x xs, times-get_or xs k d (omega arith))

-- what balances was posted before it was taken
pub taken_is_posted : (posted taken left : List (List ℕ)) → Balances posted taken left → All (Contains posted) taken
taken_is_posted posted taken left balances k d short =
    let message = get_or taken k d in
    let balance = balances message in
    let some_taken = times-get_or taken k d short in
    let cut = split_at_message message posted (omega arith) in
    subst (λ xs. Contains xs message) (sym cut.2) (Contains-append_right cut.0 (message ∷ cut.1) message (0, omega arith, refl))
