-- How many cells stand before a place.
use Rattle.std.proofs.Common.{◌≡◌, ℕ, zero, suc, ◌<◌, ◌≤◌, List, [], ◌∷◌, length, Bool, true, false, Option, Some, None, slice_index_or, refl, ap, sym, ◌∙◌, arith}
use Rattle.std.specs.Prelude.{slice_get, if◌then◌else◌}
use Rattle.std.specs.List.{prefix_len}
use Rattle.std.specs.List.Sorted.{IsPartitionPoint, IsPartitionedBy}
use Rattle.std.specs.Cmp.Lexicographic.{slice_cmp}
use Rattle.std.specs.Ordering.{nat_cmp, ordering_reverse}
use Rattle.std.specs.declared.cmp.Ordering.{Ordering}
use Rattle.std.specs.declared.cmp.Ordering.TheVariants.{Less, Equal, Greater}
use Rattle.std.proofs.lemmas.Bool.{false≢true}
use Rattle.std.proofs.lemmas.Cmp.{nat_list_cmp_total}
use Rattle.std.proofs.lemmas.List.Sums.{prefix_len_is}
use Rattle.sql_base.specs.Keys.{key_lt, key_eq}
use Rattle.key_sequenced.specs.Cells.{AreCells, find_cell}
use Rattle.key_sequenced.specs.Files.{is_key_of}
use Rattle.key_sequenced.specs.declared.Cell.{Cell}
use Rattle.sql_base.proofs.KeyOrders.{lt-trans}
use Rattle.sql_base.proofs.Truths.{plus-one}
use Rattle.sql_base.proofs.Orderings.{less-is}

pub cells-rest : (c : Cell) (cells : List Cell) → AreCells (c ∷ cells) → AreCells cells
cells-rest c [] h = tt
cells-rest c (x ∷ cells) h = h.1

pub cells-without : (a b : Cell) (cells : List Cell) → AreCells (a ∷ b ∷ cells) → AreCells (a ∷ cells)
cells-without a b [] h = tt
cells-without a b (c ∷ cells) h = (lt-trans a.key b.key c.key h.0 h.1.0, h.1.1)

first-below : (c : Cell) (cells : List Cell) → AreCells (c ∷ cells) → (j : ℕ) (d : Cell) → j < length cells → key_lt c.key (slice_index_or cells j d).key ≡ true
first-below c [] h j d lt = absurd (omega arith)
first-below c (x ∷ cells) h zero d lt = h.0
first-below c (x ∷ cells) h (suc j) d lt = first-below c cells (cells-without c x cells h) j d (omega arith)

pub no_cell : Cell
no_cell = record { key = []; now = None; was = None; writer = None }

-- a test that holds below each key at which it holds splits the cells
pub parted : (q : List ℕ → Bool) → ((a b : List ℕ) → key_lt a b ≡ true → q b ≡ true → q a ≡ true) → (cells : List Cell) → AreCells cells → IsPartitionedBy (λ c. q c.key) cells
parted q down [] h i j d le lt e = absurd (omega arith)
parted q down (c ∷ cells) h zero zero d le lt e = e
parted q down (c ∷ cells) h zero (suc j) d le lt e = down c.key (slice_index_or cells j d).key (first-below c cells h j d (omega arith)) e
parted q down (c ∷ cells) h (suc i) zero d le lt e = absurd (omega arith)
parted q down (c ∷ cells) h (suc i) (suc j) d le lt e = parted q down cells (cells-rest c cells h) i j d (omega arith) (omega arith) e

pub count-is : {X : Type 0} (d : X) (q : X → Bool) (xs : List X) (i : ℕ) → i ≤ length xs → IsPartitionPoint (λ x. q x ≡ true) (λ x. q x ≡ false) xs i → i ≡ prefix_len q xs
count-is d q xs i le point =
    sym (prefix_len_is q xs i d le (λ k lt. point.0 k d (omega arith) lt) (λ lt. point.1 i d (omega arith) lt))

above-too : (key a b : List ℕ) → key_lt a b ≡ true → slice_cmp nat_cmp a key ≡ Greater → slice_cmp nat_cmp b key ≡ Greater
above-too key a b h e =
    let under : slice_cmp nat_cmp key a ≡ Less = nat_list_cmp_total.antisymm key a ∙ ap ordering_reverse e in
    nat_list_cmp_total.antisymm b key ∙ ap ordering_reverse (nat_list_cmp_total.trans key a b under (less-is (slice_cmp nat_cmp a b) h))

pub none-above : (key : List ℕ) (c : Cell) (cells : List Cell) → AreCells (c ∷ cells) → slice_cmp nat_cmp c.key key ≡ Greater → find_cell key cells ≡ None
none-above key c [] h e = refl
none-above key c (x ∷ cells) h e =
    let above : slice_cmp nat_cmp x.key key ≡ Greater = above-too key c.key x.key h.0 e in
    rw above (none-above key x cells h.1 above)

-- the cell of a key stands behind those below it
abbrev pub here : List ℕ → Option Cell → Option Cell
here key None = None
here key (Some c) = if key_eq c.key key then Some c else None

pub find-here : (key : List ℕ) (cells : List Cell) → AreCells cells → find_cell key cells ≡ here key (slice_get cells (prefix_len (λ c. key_lt c.key key) cells))
find-here key [] h = refl
find-here key (c ∷ cells) h = at (slice_cmp nat_cmp c.key key) refl (find-here key cells (cells-rest c cells h))
  where
    at : (o : Ordering) → slice_cmp nat_cmp c.key key ≡ o → find_cell key cells ≡ here key (slice_get cells (prefix_len (λ x. key_lt x.key key) cells)) → find_cell key (c ∷ cells) ≡ here key (slice_get (c ∷ cells) (prefix_len (λ x. key_lt x.key key) (c ∷ cells)))
    at Less e rest = rw (e, plus-one (prefix_len (λ x. key_lt x.key key) cells)) rest
    at Equal e rest = rw (e, e) refl
    at Greater e rest = rw (e, e) (none-above key c cells h e)

here-there : (key : List ℕ) (o : Option Cell) → is_key_of key o ≡ true → o ≡ here key o
here-there key None h = absurd (false≢true h)
here-there key (Some c) h = rw h refl

here-nowhere : (key : List ℕ) (o : Option Cell) → is_key_of key o ≡ false → None ≡ here key o
here-nowhere key None h = refl
here-nowhere key (Some c) h = rw h refl

pub find-at : (key : List ℕ) (cells : List Cell) (i : ℕ) → i ≡ prefix_len (λ c. key_lt c.key key) cells → AreCells cells → is_key_of key (slice_get cells i) ≡ true → slice_get cells i ≡ find_cell key cells
find-at key cells i e h k = here-there key (slice_get cells i) k ∙ ap (λ n. here key (slice_get cells n)) e ∙ sym (find-here key cells h)

pub find-none : (key : List ℕ) (cells : List Cell) (i : ℕ) → i ≡ prefix_len (λ c. key_lt c.key key) cells → AreCells cells → is_key_of key (slice_get cells i) ≡ false → None ≡ find_cell key cells
find-none key cells i e h k = here-nowhere key (slice_get cells i) k ∙ ap (λ n. here key (slice_get cells n)) e ∙ sym (find-here key cells h)
