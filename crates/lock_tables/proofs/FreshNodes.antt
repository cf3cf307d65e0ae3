-- The nodes of the tree over a table in order: a lock adds those that the next one doesn't have.
use Rattle.std.proofs.Common.{Bor, ◌≡◌, ℕ, zero, suc, ◌+◌, ◌-◌, ◌≤◌, ◌<◌, List, [], ◌∷◌, append-nil, drop, get_or, length, map, filter, not, Bool, true, false, cond, Option, None, Some, refl, ap, sym, ◌∙◌, eqb, arith}
use Rattle.std.specs.Prelude.{◌||◌, IfSome, is_some, nat_eq, nat_lt, option_copied, slice_get}
use Rattle.std.specs.List.{common_prefix_len, list_any, starts_with, AllByRecursion}
use Rattle.std.specs.Cmp.Lexicographic.{slice_cmp}
use Rattle.std.specs.Ordering.{is_le, is_lt, nat_cmp}
use Rattle.std.proofs.lemmas.Bool.{and_from, and_parts, eq-eqb, eqb-true, false≢true}
use Rattle.std.proofs.lemmas.Bool.Decides.{nat_tests}
use Rattle.std.proofs.lemmas.List.{length-append, length-map}
use Rattle.std.proofs.lemmas.List.Sums.{common_prefix_len-le}
use Rattle.std.proofs.lemmas.Option.{slice_get_past, slice_get_read}
use Rattle.sql_base.specs.Locks.{lock_cmp, InTableOrder}
use Rattle.sql_base.specs.declared.lock_names.Lock.{Lock}
use Rattle.sql_base.proofs.ListFacts.{all-map, all-weaker, all_of, filter-same, filter-whole}
use Rattle.sql_base.proofs.ListSearches.{any-none}
use Rattle.sql_base.proofs.Orderings.{then-same}
use Rattle.sql_base.proofs.Truths.{if_not_true}
use Rattle.lock_tables.specs.Nodes.{fresh, nodes, prefixes}
use Rattle.lock_tables.proofs.Descending.{le-number, then-le}
use Rattle.lock_tables.proofs.TableOrders.{above-all, order-rest}

-- what two granules begin with, those between them begin with as well
between : (path a b c : List ℕ) → is_le (slice_cmp nat_cmp a b) ≡ true → is_le (slice_cmp nat_cmp b c) ≡ true
    → starts_with nat_eq a path ≡ true → starts_with nat_eq c path ≡ true → starts_with nat_eq b path ≡ true
between [] a b c le more h k = refl
between (z ∷ path) [] b c le more h k = absurd (false≢true h)
between (z ∷ path) (x ∷ a) b [] le more h k = absurd (false≢true k)
between (z ∷ path) (x ∷ a) [] (y ∷ c) le more h k = absurd (false≢true le)
between (z ∷ path) (x ∷ a) (w ∷ b) (y ∷ c) le more h k =
    let one = and_parts (eqb z x) (starts_with nat_eq a path) h in
    let two = and_parts (eqb z y) (starts_with nat_eq c path) k in
    let zx : z ≡ x = eqb-true z x one.0 in
    let zy : z ≡ y = eqb-true z y two.0 in
    let xw : x ≤ w = le-number x w (slice_cmp nat_cmp a b) le in
    let wy : w ≤ y = le-number w y (slice_cmp nat_cmp b c) more in
    let zw : z ≡ w = omega (arith, zx, zy, xw, wy) in
    let same : x ≡ w = sym zx ∙ zw in
    let last : w ≡ y = sym zw ∙ zy in
    and_from (eqb z w) (starts_with nat_eq b path) (eq-eqb z w zw)
    (between path a b c (ap is_le (sym (then-same x w (slice_cmp nat_cmp a b) same)) ∙ le) (ap is_le (sym (then-same w y (slice_cmp nat_cmp b c) last)) ∙ more) one.1 two.1)

-- of locks in table order behind one that begins so, some begin so only where the first does
first_begins : (path a : List ℕ) (m : Lock) (locks : List Lock) → starts_with nat_eq a path ≡ true → is_le (slice_cmp nat_cmp a m.prefix) ≡ true
    → AllByRecursion (λ b. is_le (slice_cmp nat_cmp m.prefix b.prefix) ≡ true) locks
    → list_any (λ l. starts_with nat_eq l.prefix path) (m ∷ locks) ≡ starts_with nat_eq m.prefix path
first_begins path a m locks h le above = at (starts_with nat_eq m.prefix path) refl
  where
    not_later : starts_with nat_eq m.prefix path ≡ false → (b : Lock) → is_le (slice_cmp nat_cmp m.prefix b.prefix) ≡ true → starts_with nat_eq b.prefix path ≡ false
    not_later e b more = if_not_true (starts_with nat_eq b.prefix path) (λ k. false≢true (sym e ∙ between path a m.prefix b.prefix le more h k))

    at : (begins : Bool) → starts_with nat_eq m.prefix path ≡ begins → (starts_with nat_eq m.prefix path || list_any (λ l. starts_with nat_eq l.prefix path) locks) ≡ starts_with nat_eq m.prefix path
    at true e = rw e refl
    at false e = rw e (any-none (λ l. starts_with nat_eq l.prefix path) locks (all-weaker _ (λ b. starts_with nat_eq b.prefix path ≡ false) (not_later e) locks above))

-- a granule begins with each of its beginnings, of which there is one more than it has bytes
begins_all : (a : List ℕ) → AllByRecursion (λ path. starts_with nat_eq a path ≡ true) (prefixes a)
begins_all [] = (refl, tt)
begins_all (x ∷ a) = (
  refl,
  all-map (λ path. starts_with nat_eq (x ∷ a) path ≡ true) (λ path. x ∷ path) (prefixes a)
      (all-weaker (λ path. starts_with nat_eq a path ≡ true) _ (λ path h. and_from (eqb x x) (starts_with nat_eq a path) (eq-eqb x x refl) h) (prefixes a) (begins_all a)),
)

length-prefixes : (a : List ℕ) → length (prefixes a) ≡ length a + 1
length-prefixes [] = refl
length-prefixes (x ∷ a) = let more = length-map (prefixes a) (λ path. x ∷ path) in let rest = length-prefixes a in omega (arith, more, rest)

filter-alike : {X : Type 0} (p q : X → Bool) (xs : List X) → AllByRecursion (λ x. p x ≡ q x) xs → filter p xs ≡ filter q xs
filter-alike p q [] h = refl
filter-alike p q (x ∷ xs) h = rw h.0 (ap (λ ys. cond (q x) (x ∷ ys) ys) (filter-alike p q xs h.1))

kept_behind : (p : List ℕ → Bool) (x : ℕ) (paths : List (List ℕ)) → length (filter p (map (λ path. x ∷ path) paths)) ≡ length (filter (λ path. p (x ∷ path)) paths)
kept_behind p x [] = refl
kept_behind p x (path ∷ paths) = at (p (x ∷ path)) refl (kept_behind p x paths)
  where
    at : (b : Bool) → p (x ∷ path) ≡ b → length (filter p (map (λ path. x ∷ path) paths)) ≡ length (filter (λ path. p (x ∷ path)) paths)
        → length (filter p (map (λ path. x ∷ path) (path ∷ paths))) ≡ length (filter (λ path. p (x ∷ path)) (path ∷ paths))
    at true e rest = rw e (ap suc rest)
    at false e rest = rw e rest

-- those that another granule doesn't begin with are longer than what the two have in common
others : (a m : List ℕ) → length (filter (λ path. not (starts_with nat_eq m path)) (prefixes a)) ≡ length a - common_prefix_len nat_eq a m
others [] m = let le = common_prefix_len-le nat_eq [] m in omega (arith, le.0)
others (x ∷ a) [] =
    let kept = kept_behind (λ path. not (starts_with nat_eq [] path)) x (prefixes a) in
    let all = ap length (filter-whole (λ path. true) (prefixes a) (all_of (λ path. true ≡ true) (λ path. refl) (prefixes a))) in
    let many = length-prefixes a in
    omega (arith, kept, all, many)
others (x ∷ a) (y ∷ m) = at (eqb x y) refl (others a m)
  where
    at : (b : Bool) → eqb x y ≡ b → length (filter (λ path. not (starts_with nat_eq m path)) (prefixes a)) ≡ length a - common_prefix_len nat_eq a m
        → length (filter (λ path. not (starts_with nat_eq (y ∷ m) path)) (prefixes (x ∷ a))) ≡ length (x ∷ a) - common_prefix_len nat_eq (x ∷ a) (y ∷ m)
    at true e rest =
        let kept = kept_behind (λ path. not (starts_with nat_eq (y ∷ m) path)) x (prefixes a) in
        let alike = ap length (filter-same (λ path. not (starts_with nat_eq (y ∷ m) (x ∷ path))) (λ path. not (starts_with nat_eq m path)) (λ path. rw e refl) (prefixes a)) in
        let le = common_prefix_len-le nat_eq a m in
        rw e (kept ∙ alike ∙ omega (arith, rest, le.0))
    at false e rest =
        let kept = kept_behind (λ path. not (starts_with nat_eq (y ∷ m) path)) x (prefixes a) in
        let alike = ap length (filter-whole (λ path. not (starts_with nat_eq (y ∷ m) (x ∷ path))) (prefixes a) (all_of _ (λ path. rw e refl) (prefixes a))) in
        let many = length-prefixes a in
        rw e (kept ∙ alike ∙ omega (arith, many))

-- one lock more, before the others
one_more : (l : Lock) (locks : List Lock) → InTableOrder (l ∷ locks) → length (nodes (l ∷ locks)) ≡ fresh l.prefix (slice_get locks 0) + length (nodes locks)
one_more l [] order =
    let own = ap length (filter-whole (λ path. true) (prefixes l.prefix) (all_of (λ path. true ≡ true) (λ path. refl) (prefixes l.prefix))) in
    let many = length-prefixes l.prefix in
    let joined = ap length (append-nil (filter (λ path. true) (prefixes l.prefix))) in
    omega (arith, own, many, joined)
one_more l (m ∷ locks) order =
    let above = all-weaker (λ b. is_lt (lock_cmp m b) ≡ true) (λ b. is_le (slice_cmp nat_cmp m.prefix b.prefix) ≡ true) (λ b h. then-le (slice_cmp nat_cmp m.prefix b.prefix) _ h) locks (above-all m locks order.1) in
    let next = then-le (slice_cmp nat_cmp l.prefix m.prefix) _ order.0 in
    let later : List ℕ → Bool = λ path. list_any (λ b. starts_with nat_eq b.prefix path) (m ∷ locks) in
    let alike = filter-alike (λ path. not (later path)) (λ path. not (starts_with nat_eq m.prefix path)) (prefixes l.prefix)
    (all-weaker (λ path. starts_with nat_eq l.prefix path ≡ true) _ (λ path h. ap not (first_begins path l.prefix m locks h next above)) (prefixes l.prefix) (begins_all l.prefix)) in
    let joined = length-append (filter (λ path. not (later path)) (prefixes l.prefix)) (nodes (m ∷ locks)) in
    joined ∙ ap (λ n. n + length (nodes (m ∷ locks))) (ap length alike ∙ others l.prefix m.prefix)

-- the lock at a place adds its own to those of the locks behind it
pub fresh_at : (locks : List Lock) (i : ℕ) (d : Lock) → InTableOrder locks → i < length locks
    → length (nodes (drop i locks)) ≡ fresh (get_or locks i d).prefix (slice_get locks (i + 1)) + length (nodes (drop (i + 1) locks))
fresh_at [] i d order lt = absurd (omega arith)
fresh_at (l ∷ locks) zero d order lt = one_more l locks order
fresh_at (l ∷ locks) (suc i) d order lt =
    let next : suc i + 1 ≡ suc (i + 1) = omega arith in
    fresh_at locks i d (order-rest l locks order) (omega arith)
    ∙ ap (λ n. fresh (get_or locks i d).prefix (slice_get (l ∷ locks) n) + length (nodes (drop n (l ∷ locks)))) (sym next)

-- what is found at a place is what stands there
pub found_at : {X : Type 0} (xs : List X) (i : ℕ) (r : Option (Bor X)) → is_some r ≡ nat_lt i (length xs) → IfSome r (λ x. x.now ≡ get_or xs i x.now) → option_copied r ≡ slice_get xs i
found_at xs i None none within = sym (slice_get_past xs i (grind (arith, nat_tests)))
found_at xs i (Some x) some within = sym (slice_get_read xs (length xs) i x.now refl (grind (arith, nat_tests)) within)
