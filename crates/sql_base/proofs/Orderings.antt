-- Facts of orderings and of keys in their order that several crates need.
use Rattle.std.proofs.Common.{◌∙◌, ◌≡◌, Bool, List, ap, arith, false, refl, sym, true, ℕ}
use Rattle.std.proofs.lemmas.Bool.{false≢true}
use Rattle.std.proofs.lemmas.Bool.Decides.{nat_tests}
use Rattle.std.proofs.lemmas.Cmp.{nat_list_cmp_total}
use Rattle.std.proofs.lemmas.Map.Text.{is_eq-slice_cmp}
use Rattle.std.proofs.lemmas.Slice.Eq.{bytes_eq-Decides}
use Rattle.std.specs.Cmp.Lexicographic.{slice_cmp}
use Rattle.std.specs.Ordering.{is_eq, is_lt, nat_cmp, ordering_reverse, ordering_then}
use Rattle.std.specs.declared.cmp.Ordering.{Ordering}
use Rattle.std.specs.declared.cmp.Ordering.TheVariants.{Equal, Greater, Less}
use Rattle.sql_base.proofs.KeyOrders.{key_le-refl, le_from_lt, not_lt_from_le}
use Rattle.sql_base.specs.Keys.{key_eq, key_le, key_lt}

pub key_lt-itself : (key : List ℕ) → key_lt key key ≡ false
key_lt-itself key = not_lt_from_le key key (key_le-refl key)

pub less-is : (o : Ordering) → is_lt o ≡ true → o ≡ Less
less-is Less h = refl
less-is Equal h = absurd (false≢true h)
less-is Greater h = absurd (false≢true h)

pub reversed : (o : Ordering) → is_lt o ≡ false → is_eq o ≡ false → is_lt (ordering_reverse o) ≡ true
reversed Less h k = absurd (false≢true (sym h))
reversed Equal h k = absurd (false≢true (sym k))
reversed Greater h k = refl

-- a key that is neither below another nor equal to it is above it
pub key_lt-other : (a b : List ℕ) → key_lt a b ≡ false → key_eq a b ≡ false → key_lt b a ≡ true
key_lt-other a b h k = ap is_lt (nat_list_cmp_total.antisymm b a) ∙ reversed (slice_cmp nat_cmp a b) h k

pub equal-is : (o : Ordering) → is_eq o ≡ true → o ≡ Equal
equal-is Less h = absurd (false≢true h)
equal-is Equal h = refl
equal-is Greater h = absurd (false≢true h)

pub then-same : (x y : ℕ) (r : Ordering) → x ≡ y → ordering_then (nat_cmp x y) r ≡ r
then-same x y r e = grind (arith, nat_tests)

pub then-differ : (x y : ℕ) (r : Ordering) → (x ≡ y → ⊥) → ordering_then (nat_cmp x y) r ≡ nat_cmp x y
then-differ x y r e = grind (arith, nat_tests)

pub less-differs : (o : Ordering) → is_lt o ≡ true → is_eq o ≡ false
less-differs Less h = refl
less-differs Equal h = absurd (false≢true h)
less-differs Greater h = refl

-- equal keys are one
pub key_eq-same : (a b : List ℕ) → key_eq a b ≡ true → a ≡ b
key_eq-same a b e = (bytes_eq-Decides a b).0 (sym (is_eq-slice_cmp a b) ∙ e)

pub key_lt-differs : (a b : List ℕ) → key_lt a b ≡ true → key_eq a b ≡ false
key_lt-differs a b h = less-differs (slice_cmp nat_cmp a b) h

pub reverse-equal : (o : Ordering) → is_lt (ordering_reverse o) ≡ true → is_eq o ≡ false
reverse-equal Less h = absurd (false≢true h)
reverse-equal Equal h = absurd (false≢true h)
reverse-equal Greater h = refl

pub key_gt-differs : (a b : List ℕ) → key_lt b a ≡ true → key_eq a b ≡ false
key_gt-differs a b h = reverse-equal (slice_cmp nat_cmp a b) (sym (ap is_lt (nat_list_cmp_total.antisymm b a)) ∙ h)

pub key_lt-back : (a b : List ℕ) → key_lt a b ≡ true → key_lt b a ≡ false
key_lt-back a b h = not_lt_from_le a b (le_from_lt a b h)

-- keys that are at most each other are the same
pub key_le-same : (a b : List ℕ) → key_le a b ≡ true → key_le b a ≡ true → a ≡ b
key_le-same a b h k = at (key_eq a b) refl
  where
    at : (v : Bool) → key_eq a b ≡ v → a ≡ b
    at true e = key_eq-same a b e
    at false e = absurd (false≢true (sym (not_lt_from_le a b h) ∙ key_lt-other a b (not_lt_from_le b a k) e))

pub reverse-differs : (o : Ordering) → is_lt o ≡ true → is_eq (ordering_reverse o) ≡ false
reverse-differs Less h = refl
reverse-differs Equal h = absurd (false≢true h)
reverse-differs Greater h = absurd (false≢true h)

pub key_eq-swapped : (a b : List ℕ) → key_eq a b ≡ key_eq b a
key_eq-swapped a b = ap is_eq (nat_list_cmp_total.antisymm a b) ∙ turned (slice_cmp nat_cmp b a)
  where
    turned : (o : Ordering) → is_eq (ordering_reverse o) ≡ is_eq o
    turned Less = refl
    turned Equal = refl
    turned Greater = refl
