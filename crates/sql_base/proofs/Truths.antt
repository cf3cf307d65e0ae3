-- Facts of truth values, tests and numbers that several crates need.
use Rattle.std.proofs.Common.{◌&&◌, ◌*◌, ◌+◌, ◌<◌, ◌||◌, ◌≡◌, ◌≤◌, Bool, None, Option, Some, arith, cond, eqb, false, max, min, not, refl, suc, sym, true, ℕ}
use Rattle.std.proofs.Math.Nat.{mul-le-mul_right}
use Rattle.std.proofs.lemmas.Bool.{false≢true}
use Rattle.std.proofs.lemmas.Bool.Decides.{nat_tests}
use Rattle.std.specs.Prelude.{Err, Ok, OnErr, Result, if◌then◌else◌, is_some, nat_le, nat_lt}

pub some-same : {A : Type 0} (x y : A) → Some x ≡ Some y → x ≡ y
some-same x y e = cc

pub plus-one : (n : ℕ) → 1 + n ≡ suc n
plus-one n = omega arith

pub or_left : (a b : Bool) → (a || b) ≡ false → a ≡ false
or_left true b h = h
or_left false b h = refl

pub or_right : (a b : Bool) → (a || b) ≡ false → b ≡ false
or_right true b h = absurd (false≢true (sym h))
or_right false b h = h

pub cond-alike : {A : Type 0} (b : Bool) (x : A) → cond b x x ≡ x
cond-alike true x = refl
cond-alike false x = refl

pub eqb-swapped : (m n : ℕ) → eqb m n ≡ false → eqb n m ≡ false
eqb-swapped m n h = grind (arith, nat_tests)

pub not-true : (b : Bool) → not b ≡ true → b ≡ false
not-true true h = absurd cc
not-true false h = refl

pub le-max : (a b : ℕ) → a ≤ max a b
le-max a b = omega arith

pub not_le-above : (stamp floor : ℕ) → nat_le stamp floor ≡ false → floor < stamp
not_le-above stamp floor h = grind (arith, nat_tests)

pub if_not_true : (b : Bool) → (b ≡ true → ⊥) → b ≡ false
if_not_true true h = absurd (h refl)
if_not_true false h = refl

pub times-fewer : (n m k : ℕ) → n ≤ m → m * k ≤ 1000 → n * k ≤ 1000
times-fewer n m k le most = omega (arith, mul-le-mul_right k le, most)

pub not-false : (b : Bool) → not b ≡ false → b ≡ true
not-false true h = refl
not-false false h = absurd (cc)

pub max-itself : (n : ℕ) → max n n ≡ n
max-itself n = grind (arith)

pub counted : (most d m : ℕ) → d ≡ min (most + 1) m → nat_lt most d ≡ false → m ≤ most
counted most d m e h = grind (arith, nat_tests, e, h)

pub neither : (a b : Bool) → a ≡ false → b ≡ false → a || b ≡ false
neither true b ha hb = ha
neither false b ha hb = hb

pub first_two : (a b c : Bool) → a || (b || c) ≡ false → b || a ≡ false
first_two true b c h = absurd (cc)
first_two false true c h = absurd (cc)
first_two false false c h = refl

pub and_left : (a b : Bool) → a && b ≡ true → a ≡ true
and_left true b h = refl
and_left false b h = h

pub and_right : (a b : Bool) → a && b ≡ true → b ≡ true
and_right true b h = h
and_right false b h = absurd (cc (h))

pub and_true : (a b : Bool) → a ≡ true → b ≡ true → a && b ≡ true
and_true true b h e = e
and_true false b h e = absurd (cc (h))

pub not-is : (b : Bool) → b ≡ false → not b ≡ true
not-is true h = absurd (cc (h))
not-is false h = refl

pub plus-none : (n m : ℕ) → n + (0 + m) ≡ n + m
plus-none n m = omega arith

pub and_both : (a b : Bool) → a ≡ true → b ≡ true → (a && b) ≡ true
and_both a b h k = rw h k

pub both_hold : (a b : Bool) → (a && b) ≡ true → (a ≡ true) × (b ≡ true)
both_hold true b h = (refl, h)
both_hold false b h = absurd (false≢true h)

pub neither_holds : (a b : Bool) → (a || b) ≡ false → (a ≡ false) × (b ≡ false)
neither_holds true b h = absurd cc
neither_holds false b h = (refl, h)

pub or-true : (b : Bool) → (b || true) ≡ true
or-true true = refl
or-true false = refl

pub or-false : (b : Bool) → (b || false) ≡ b
or-false true = refl
or-false false = refl

pub and-true : (b : Bool) → (b && true) ≡ b
and-true true = refl
and-true false = refl

pub and-false : (b : Bool) → (b && false) ≡ false
and-false true = refl
and-false false = refl

pub or-first : (a b : Bool) → a ≡ true → (a || b) ≡ true
or-first true b h = refl
or-first false b h = absurd (false≢true h)

pub either : (a b : Bool) {X : Type 0} → (a ≡ true → X) → (b ≡ true → X) → (a || b) ≡ true → X
either true b first second h = first refl
either false b first second h = second h

pub le-is_true : (a b : ℕ) → a ≤ b → nat_le a b ≡ true
le-is_true a b h = grind (arith, nat_tests)

pub lt-not_le : (a b : ℕ) → b < a → nat_le a b ≡ false
lt-not_le a b h = grind (arith, nat_tests)

pub none-is : {A : Type 0} (o : Option A) → is_some o ≡ false → o ≡ None
none-is None h = refl
none-is (Some x) h = absurd (false≢true (sym h))

-- what holds anyhow holds on a refusal
pub on_err : {T E P : Type 0} (result : Result T E) → P → OnErr result P
on_err (Ok value) h = tt
on_err (Err error) h = h

-- something came of it, so the test held
pub some_if : {A : Type 0} (b : Bool) (x y : A) → (if b then Some x else None) ≡ Some y → b ≡ true
some_if true x y e = refl
some_if false x y e = absurd (cc)
