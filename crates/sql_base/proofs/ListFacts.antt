-- Facts of lists that several crates need.
use Rattle.std.proofs.Common.{Bool, List, None, Option, Some, [], ap, arith, cond, drop, false, filter, get_or, inl, inr, length, map, refl, subst, suc, sym, take, true, zero, ℕ, ◌&&◌, ◌++◌, ◌+◌, ◌<◌, ◌||◌, ◌∙◌, ◌∷◌, ◌≡◌, ◌≤◌, ◌⊎◌}
use Rattle.std.proofs.lemmas.Bool.{eq-eqb, false≢true}
use Rattle.std.proofs.lemmas.List.Elements.{All-contains, All-from_recursion}
use Rattle.std.specs.List.{AllByRecursion, AllZip, cons_option, list_any, range_with_len, starts_with}
use Rattle.std.specs.Prelude.{Contains, filter, find, nat_eq, option_to_list, slice_get, slice_set, unwrap_or}
use Rattle.std.proofs.lemmas.List.{drop_more}

pub zip_length : {A B : Type 0} (R : A → B → Type 0) (xs : List A) (ys : List B) → AllZip R xs ys → length xs ≡ length ys
zip_length R [] [] h = refl
zip_length R [] (y ∷ ys) h = absurd h
zip_length R (x ∷ xs) [] h = absurd h
zip_length R (x ∷ xs) (y ∷ ys) h = let rest = zip_length R xs ys h.1 in omega (arith, rest)

pub Contains-further : {X : Type 0} (x y : X) (xs : List X) → Contains xs y → Contains (x ∷ xs) y
Contains-further x y xs h = (suc h.0, omega (arith, h.1), h.2)

pub slice_get-last : {X : Type 0} (xs : List X) (x : X) → slice_get (xs ++ x ∷ []) (length xs) ≡ Some x
slice_get-last [] x = refl
slice_get-last (y ∷ xs) x = slice_get-last xs x

pub all_places : {X : Type 0} (P : X → Type 0) (xs : List X) → ((i : ℕ) (x : X) → slice_get xs i ≡ Some x → P x) → AllByRecursion P xs
all_places P [] to = tt
all_places P (x ∷ xs) to = (to zero x refl, all_places P xs (λ i y at. to (suc i) y at))

pub none-there : {A : Type 0} (xs : List A) (i : ℕ) → slice_get xs i ≡ None → i < length xs → ⊥
none-there [] i e lt = omega arith
none-there (x ∷ xs) zero e lt = cc
none-there (x ∷ xs) (suc i) e lt = none-there xs i e (omega arith)

pub map_set : {A B : Type 0} (f : A → B) (xs : List A) (i : ℕ) (x : A) → map f (slice_set xs i x) ≡ slice_set (map f xs) i (f x)
map_set f [] i x = refl
map_set f (y ∷ ys) zero x = refl
map_set f (y ∷ ys) (suc i) x = ap (λ zs. f y ∷ zs) (map_set f ys i x)

pub all_joined : {X : Type 0} (P : X → Type 0) (xs ys : List X) → AllByRecursion P xs → AllByRecursion P ys → AllByRecursion P (xs ++ ys)
all_joined P [] ys h k = k
all_joined P (x ∷ xs) ys h k = (h.0, all_joined P xs ys h.1 k)

pub all_left : {X : Type 0} (P : X → Type 0) (xs ys : List X) → AllByRecursion P (xs ++ ys) → AllByRecursion P xs
all_left P [] ys h = tt
all_left P (x ∷ xs) ys h = (h.0, all_left P xs ys h.1)

pub all_right : {X : Type 0} (P : X → Type 0) (xs ys : List X) → AllByRecursion P (xs ++ ys) → AllByRecursion P ys
all_right P [] ys h = h
all_right P (x ∷ xs) ys h = all_right P xs ys h.1

pub all-push : {X : Type 0} (P : X → Type 0) (xs : List X) (x : X) → AllByRecursion P xs → P x → AllByRecursion P (xs ++ x ∷ [])
all-push P [] x h hx = (hx, tt)
all-push P (y ∷ xs) x h hx = (h.0, all-push P xs x h.1 hx)

pub starts_with-itself : (k : List ℕ) → starts_with nat_eq k k ≡ true
starts_with-itself [] = refl
starts_with-itself (x ∷ k) = rw (eq-eqb x x refl) (starts_with-itself k)

pub all-take : {A : Type 0} (P : A → Type 0) (n : ℕ) (xs : List A) → AllByRecursion P xs → AllByRecursion P (take n xs)
all-take P zero xs h = tt
all-take P (suc n) [] h = tt
all-take P (suc n) (x ∷ xs) h = (h.0, all-take P n xs h.1)

-- what holds of all holds at a place
pub all_at : {A : Type 0} (P : A → Type 0) (xs : List A) (i : ℕ) (x : A) → AllByRecursion P xs → slice_get xs i ≡ Some x → P x
all_at P [] i x h e = absurd (cc)
all_at P (y ∷ xs) zero x h e = let same : y ≡ x = cc in subst P same h.0
all_at P (y ∷ xs) (suc i) x h e = all_at P xs i x h.1 e

pub some-at : {X : Type 0} (xs : List X) (i : ℕ) → i < length xs → (x : X) × (slice_get xs i ≡ Some x)
some-at [] i lt = absurd (omega (arith, lt))
some-at (x ∷ xs) zero lt = (x, refl)
some-at (x ∷ xs) (suc i) lt = some-at xs i (omega (arith, lt))

pub all_in : {X : Type 0} (P : X → Type 0) (x : X) (xs : List X) → Contains xs x → AllByRecursion P xs → P x
all_in P x xs there h = All-contains P xs x (All-from_recursion P xs h) there

-- what was found passes
pub found_passes : {X : Type 0} (q : X → Bool) (xs : List X) (x : X) → find q xs ≡ Some x → q x ≡ true
found_passes q [] x h = absurd (cc)
found_passes q (y ∷ xs) x h = first_passes (q y) refl h (λ g. found_passes q xs x g)
  where
    first_passes : (b : Bool) → q y ≡ b → cond b (Some y) (find q xs) ≡ Some x → (find q xs ≡ Some x → q x ≡ true) → q x ≡ true
    first_passes true e h rest = let same : y ≡ x = cc in ap q (sym same) ∙ e
    first_passes false e h rest = rest h

-- what holds of each element holds of each of those that a filter keeps
pub all-filter : {X : Type 0} (P : X → Type 0) (p : X → Bool) (xs : List X) → AllByRecursion P xs → AllByRecursion P (filter p xs)
all-filter P p [] h = tt
all-filter P p (x ∷ xs) h =
    elim (p x) as (λ b. AllByRecursion P (cond b (x ∷ filter p xs) (filter p xs))) [ true ↦ (h.0, all-filter P p xs h.1) | false ↦ all-filter P p xs h.1 ]

-- one more element through two filters
pub filter-twice_at : {X : Type 0} (q : X → Bool) (x : X) (b : Bool) (kept both : List X) → filter q kept ≡ both → filter q (cond b (x ∷ kept) kept) ≡ cond (b && q x) (x ∷ both) both
filter-twice_at q x true kept both e = ap (λ xs. cond (q x) (x ∷ xs) xs) e
filter-twice_at q x false kept both e = e

-- two filters one behind the other keep what passes both
pub filter-twice : {X : Type 0} (p q r : X → Bool) → ((x : X) → (p x && q x) ≡ r x) → (xs : List X) → filter q (filter p xs) ≡ filter r xs
filter-twice p q r h [] = refl
filter-twice p q r h (x ∷ xs) = filter-twice_at q x (p x) (filter p xs) (filter r xs) (filter-twice p q r h xs) ∙ ap (λ b. cond b (x ∷ filter r xs) (filter r xs)) (h x)

pub filter-none : {X : Type 0} (q : X → Bool) (xs : List X) → AllByRecursion (λ x. q x ≡ false) xs → filter q xs ≡ []
filter-none q [] h = refl
filter-none q (x ∷ xs) h = rw h.0 (filter-none q xs h.1)

-- what a filter passes, passes its test
pub filter-passes : {X : Type 0} (p : X → Bool) (xs : List X) → AllByRecursion (λ x. p x ≡ true) (filter p xs)
filter-passes p [] = tt
filter-passes p (x ∷ xs) = passes_at p x xs (p x) refl (filter-passes p xs)
  where
    passes_at : {X : Type 0} (p : X → Bool) (x : X) (xs : List X) (b : Bool) → p x ≡ b → AllByRecursion (λ y. p y ≡ true) (filter p xs) → AllByRecursion (λ y. p y ≡ true) (filter p (x ∷ xs))
    passes_at p x xs true e rest = rw e (e, rest)
    passes_at p x xs false e rest = rw e rest

pub all-weaker : {X : Type 0} (P Q : X → Type 0) → ((x : X) → P x → Q x) → (xs : List X) → AllByRecursion P xs → AllByRecursion Q xs
all-weaker P Q to [] h = tt
all-weaker P Q to (x ∷ xs) h = (to x h.0, all-weaker P Q to xs h.1)

pub range-length : (n low : ℕ) → length (range_with_len low n) ≡ n
range-length zero low = refl
range-length (suc n) low = let rest = range-length n (low + 1) in omega arith

-- two facts of each element hold together
pub all_and : {X : Type 0} (P Q : X → Type 0) → (xs : List X) → AllByRecursion P xs → AllByRecursion Q xs → AllByRecursion (λ x. P x × Q x) xs
all_and P Q [] h k = tt
all_and P Q (x ∷ xs) h k = ((h.0, k.0), all_and P Q xs h.1 k.1)

-- what two facts of an element give, holds of each that has both
pub all_of_both : {X : Type 0} (P Q R : X → Type 0) → ((x : X) → P x → Q x → R x) → (xs : List X) → AllByRecursion P xs → AllByRecursion Q xs → AllByRecursion R xs
all_of_both P Q R to [] h k = tt
all_of_both P Q R to (x ∷ xs) h k = (to x h.0 k.0, all_of_both P Q R to xs h.1 k.1)

-- what holds of everything
pub all_of : {X : Type 0} (P : X → Type 0) → ((x : X) → P x) → (xs : List X) → AllByRecursion P xs
all_of P to [] = tt
all_of P to (x ∷ xs) = (to x, all_of P to xs)

-- a filter that all elements pass leaves the list as it is
pub filter-whole : {X : Type 0} (p : X → Bool) → (xs : List X) → AllByRecursion (λ x. p x ≡ true) xs → filter p xs ≡ xs
filter-whole p [] h = refl
filter-whole p (x ∷ xs) h = rw h.0 (ap (λ ys. x ∷ ys) (filter-whole p xs h.1))

-- what holds of the elements that pass, holds of each where it passes
passed : {X : Type 0} (p : X → Bool) (P : X → Type 0) (x : X) (xs : List X) (b : Bool) → p x ≡ b → AllByRecursion P (filter p (x ∷ xs)) → (p x ≡ true → P x) × AllByRecursion P (filter p xs)
passed p P x xs true e h = let g : AllByRecursion P (x ∷ filter p xs) = rw e at h in (λ _. g.0, g.1)
passed p P x xs false e h = let g : AllByRecursion P (filter p xs) = rw e at h in (λ t. absurd (false≢true (sym e ∙ t)), g)

pub all_passed : {X : Type 0} (p : X → Bool) (P : X → Type 0) (xs : List X) → AllByRecursion P (filter p xs) → AllByRecursion (λ x. p x ≡ true → P x) xs
all_passed p P [] h = tt
all_passed p P (x ∷ xs) h = let g = passed p P x xs (p x) refl h in (g.0, all_passed p P xs g.1)

-- and so the other way round
pub all_through : {X : Type 0} (q : X → Bool) (P : X → Type 0) (xs : List X) → AllByRecursion (λ x. q x ≡ true → P x) xs → AllByRecursion P (filter q xs)
all_through q P [] h = tt
all_through q P (x ∷ xs) h = by_test (q x) refl (all_through q P xs h.1)
  where
    by_test : (b : Bool) → q x ≡ b → AllByRecursion P (filter q xs) → AllByRecursion P (cond b (x ∷ filter q xs) (filter q xs))
    by_test true e g = (h.0 e, g)
    by_test false e g = g

-- what holds of each element and of another one holds of what is found at a place
pub all_slice : {X : Type 0} (P : X → Type 0) (other : X) → P other → (xs : List X) (k : ℕ) → AllByRecursion P xs → P (unwrap_or (slice_get xs k) other)
all_slice P other o [] k h = o
all_slice P other o (x ∷ xs) zero h = h.0
all_slice P other o (x ∷ xs) (suc k) h = all_slice P other o xs k h.1

-- what holds of the images of each element
pub all-map : {X Y : Type 0} (P : Y → Type 0) (f : X → Y) (xs : List X) → AllByRecursion (λ x. P (f x)) xs → AllByRecursion P (map f xs)
all-map P f [] h = tt
all-map P f (x ∷ xs) h = (h.0, all-map P f xs h.1)

-- an element that is there is the first one or stands behind it
pub first_or_behind : {X : Type 0} (d e : X) (ds : List X) → Contains (d ∷ ds) e → (d ≡ e) ⊎ Contains ds e
first_or_behind d e ds (zero, lt, is) = inl is
first_or_behind d e ds (suc k, lt, is) = inr (k, omega (arith, lt), is)

-- some element passes, of two lists joined, where one of the first does, or one of the second
pub any-push_left : {X : Type 0} (p : X → Bool) (xs ys : List X) → list_any p xs ≡ true → list_any p (xs ++ ys) ≡ true
any-push_left p [] ys h = absurd (false≢true h)
any-push_left p (x ∷ xs) ys h = at (p x) h (λ e. any-push_left p xs ys e)
  where
    at : (b : Bool) → (b || list_any p xs) ≡ true → (list_any p xs ≡ true → list_any p (xs ++ ys) ≡ true) → (b || list_any p (xs ++ ys)) ≡ true
    at true h rest = refl
    at false h rest = rest h

pub any-push_right : {X : Type 0} (p : X → Bool) (xs ys : List X) → list_any p ys ≡ true → list_any p (xs ++ ys) ≡ true
any-push_right p [] ys h = h
any-push_right p (x ∷ xs) ys h = or-right (p x) (list_any p (xs ++ ys)) (any-push_right p xs ys h)
  where
    or-right : (a b : Bool) → b ≡ true → (a || b) ≡ true
    or-right true b h = refl
    or-right false b h = h

-- none passes where none did before, and the new one doesn't
pub any-none_more : {X : Type 0} (p : X → Bool) (xs : List X) (x : X) → list_any p xs ≡ false → p x ≡ false → list_any p (xs ++ x ∷ []) ≡ false
any-none_more p [] x h not = rw not refl
any-none_more p (y ∷ xs) x h not = at (p y) h (λ e. any-none_more p xs x e not)
  where
    at : (b : Bool) → (b || list_any p xs) ≡ false → (list_any p xs ≡ false → list_any p (xs ++ x ∷ []) ≡ false) → (b || list_any p (xs ++ x ∷ [])) ≡ false
    at true h rest = h
    at false h rest = rest h

-- what is found at a place stands within the list
pub place-within : {X : Type 0} (xs : List X) (i : ℕ) (x : X) → slice_get xs i ≡ Some x → i < length xs
place-within [] i x h = absurd cc
place-within (y ∷ xs) zero x h = omega arith
place-within (y ∷ xs) (suc i) x h = let rest = place-within xs i x h in omega (arith, rest)

-- filters that agree leave the same
pub filter-same : {X : Type 0} (p q : X → Bool) → ((x : X) → p x ≡ q x) → (xs : List X) → filter p xs ≡ filter q xs
filter-same p q same [] = refl
filter-same p q same (x ∷ xs) = rw (same x) (ap (λ ys. cond (q x) (x ∷ ys) ys) (filter-same p q same xs))

-- one element set
pub all-set : {X : Type 0} (P : X → Type 0) (xs : List X) (i : ℕ) (x : X) → P x → AllByRecursion P xs → AllByRecursion P (slice_set xs i x)
all-set P [] i x is h = tt
all-set P (y ∷ xs) zero x is h = (is, h.1)
all-set P (y ∷ xs) (suc i) x is h = (h.0, all-set P xs i x is h.1)

pub length-set : {X : Type 0} (xs : List X) (i : ℕ) (x : X) → length (slice_set xs i x) ≡ length xs
length-set [] i x = refl
length-set (y ∷ xs) zero x = refl
length-set (y ∷ xs) (suc i) x = ap suc (length-set xs i x)

-- the rest of a list begins with the element at its place
pub drop-at : {X : Type 0} (xs : List X) (i : ℕ) (x : X) → slice_get xs i ≡ Some x → drop i xs ≡ x ∷ drop (i + 1) xs
drop-at [] n x is = absurd (cc is)
drop-at {X = X} (y ∷ ys) zero x is = let same : y ≡ x = cc is in ap (λ (z : X). z ∷ ys) same
drop-at (y ∷ ys) (suc n) x is = let next : suc n + 1 ≡ suc (n + 1) = omega arith in drop-at ys n x is ∙ ap (λ k. x ∷ drop k (y ∷ ys)) (sym next)

-- nothing is left behind the end
pub drop-past : {X : Type 0} (xs : List X) (n : ℕ) → length xs ≤ n → drop n xs ≡ []
drop-past [] zero h = refl
drop-past [] (suc n) h = refl
drop-past (x ∷ xs) zero h = absurd (omega arith)
drop-past (x ∷ xs) (suc n) h = drop-past xs n (omega (arith, h))

-- one pair more
pub zip-push : {A B : Type 0} (R : A → B → Type 0) (xs : List A) (ys : List B) (x : A) (y : B) → AllZip R xs ys → R x y → AllZip R (xs ++ x ∷ []) (ys ++ y ∷ [])
zip-push R [] [] x y h r = (r, tt)
zip-push R [] (b ∷ ys) x y h r = absurd h
zip-push R (a ∷ xs) [] x y h r = absurd h
zip-push R (a ∷ xs) (b ∷ ys) x y h r = (h.0, zip-push R xs ys x y h.1 r)

pub map-push : {A B : Type 0} (f : A → B) (xs : List A) (x : A) → map f (xs ++ x ∷ []) ≡ map f xs ++ f x ∷ []
map-push f [] x = refl
map-push f (y ∷ xs) x = ap (λ ys. f y ∷ ys) (map-push f xs x)

-- an optional element as a list
pub option-as_list : {X : Type 0} (o : Option X) → option_to_list o ≡ cons_option o []
option-as_list None = refl
option-as_list (Some x) = refl

-- what holds of each image
pub all-images : {A B : Type 0} (P : B → Type 0) (f : A → B) → ((x : A) → P (f x)) → (xs : List A) → AllByRecursion P (map f xs)
all-images P f is [] = tt
all-images P f is (x ∷ xs) = (is x, all-images P f is xs)

-- numbers counted on by one
pub range-push : (a n : ℕ) → range_with_len a (n + 1) ≡ range_with_len a n ++ (a + n) ∷ []
range-push a zero = let same : a ≡ a + 0 = omega arith in ap (λ m. m ∷ []) same
range-push a (suc n) =
    let long : suc n + 1 ≡ suc (n + 1) = omega arith in
    let last : (a + 1) + n ≡ a + suc n = omega arith in
    ap (range_with_len a) long ∙ ap (λ ms. a ∷ ms) (range-push (a + 1) n ∙ ap (λ m. range_with_len (a + 1) n ++ m ∷ []) last)

-- what is left of a list from a place on begins with the element there
pub drop-within : {X : Type 0} (xs : List X) (i : ℕ) (x : X) → i < length xs → x ≡ get_or xs i x → drop i xs ≡ x ∷ drop (i + 1) xs
drop-within xs i x within is = drop_more xs i x within ∙ ap (λ y. y ∷ drop (i + 1) xs) (sym is)

-- a list of one element has no other
pub only-one : {X : Type 0} (x y : X) → Contains (x ∷ []) y → y ≡ x
only-one x y (zero, lt, is) = sym is
only-one x y (suc k, lt, is) = absurd (omega (arith, lt))
