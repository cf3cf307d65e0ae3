-- The block to which a key belongs: what stands before it is below the key, and what stands behind it is above.
use Rattle.std.proofs.Common.{◌≡◌, ℕ, zero, suc, ◌+◌, ◌-◌, ◌<◌, List, [], ◌∷◌, ◌++◌, length, take, drop, Bool, true, false, cond, refl, arith}
use Rattle.std.specs.Prelude.{slice_index_or}
use Rattle.std.specs.List.{AllByRecursion}
use Rattle.std.specs.List.Sorted.{IsPartitionedBy}
use Rattle.std.proofs.lemmas.List.Sums.{prefix_len-le-length}
use Rattle.sql_base.specs.Keys.{key_lt, key_le}
use Rattle.sql_base.proofs.KeyOrders.{key_le-trans, le_from_lt, lt-trans, lt_from_not_le, lt_le-trans}
use Rattle.sql_base.proofs.ListFacts.{all_joined, all_right, all-weaker}
use Rattle.sql_base.proofs.Truths.{plus-one}
use Rattle.key_sequenced.specs.Blocks.{begins_by, begun_by, home, joined, AreBlocks, HasCells}
use Rattle.key_sequenced.specs.Cells.{AreCells}
use Rattle.key_sequenced.specs.declared.Cell.{Cell}
use Rattle.key_sequenced.proofs.Counts.{cells-rest, cells-without}

abbrev pub AreBelow : List ℕ → List Cell → Type 0
AreBelow key cells = AllByRecursion (λ c. key_lt c.key key ≡ true) cells

abbrev pub AreAbove : List ℕ → List Cell → Type 0
AreAbove key cells = AllByRecursion (λ c. key_lt key c.key ≡ true) cells

below-more : (a b : List ℕ) (cells : List Cell) → key_le a b ≡ true → AreBelow a cells → AreBelow b cells
below-more a b cells le h = all-weaker (λ (c : Cell). key_lt c.key a ≡ true) (λ c. key_lt c.key b ≡ true) (λ c lt. lt_le-trans c.key a b lt le) cells h

pub above-more : (a b : List ℕ) (cells : List Cell) → key_lt a b ≡ true → AreAbove b cells → AreAbove a cells
above-more a b cells lt h = all-weaker (λ (c : Cell). key_lt b c.key ≡ true) (λ c. key_lt a c.key ≡ true) (λ c k. lt-trans a b c.key lt k) cells h

-- the cells behind the first have greater keys
pub above-first : (c : Cell) (cells : List Cell) → AreCells (c ∷ cells) → AreAbove c.key cells
above-first c [] h = tt
above-first c (x ∷ cells) h = (h.0, above-first c cells (cells-without c x cells h))

-- the cells before one have lesser keys
pub below-first : (front : List Cell) (c : Cell) (cells : List Cell) → AreCells (front ++ c ∷ cells) → AreBelow c.key front
below-first [] c cells h = tt
below-first (x ∷ front) c cells h =
    let first = all_right (λ (y : Cell). key_lt x.key y.key ≡ true) front (c ∷ cells) (above-first x (front ++ c ∷ cells) h) in
    (first.0, below-first front c cells (cells-rest x (front ++ c ∷ cells) h))

pub cells-back : (front cells : List Cell) → AreCells (front ++ cells) → AreCells cells
cells-back [] cells h = h
cells-back (x ∷ front) cells h = cells-back front cells (cells-rest x (front ++ cells) h)

pub cells-front : (front cells : List Cell) → AreCells (front ++ cells) → AreCells front
cells-front [] cells h = tt
cells-front (x ∷ []) cells h = tt
cells-front (x ∷ y ∷ front) cells h = (h.0, cells-front (y ∷ front) cells h.1)

one_more : (key : List ℕ) (block : List Cell) (blocks : List (List Cell)) (b : Bool) → begins_by key block ≡ b → begun_by key (block ∷ blocks) ≡ cond b (suc (begun_by key blocks)) 0
one_more key block blocks true e = rw e (plus-one (begun_by key blocks))
one_more key block blocks false e = rw e refl

-- the cells of the blocks that begin above the key
pub behind-begun : (key : List ℕ) (blocks : List (List Cell)) → AreCells (joined blocks) → AllByRecursion HasCells blocks → AreAbove key (joined (drop (begun_by key blocks) blocks))
behind-begun key [] rise filled = tt
behind-begun key ([] ∷ blocks) rise filled = absurd (omega (arith, filled.0))
behind-begun key ((c ∷ cells) ∷ blocks) rise filled = at (key_le c.key key) refl (behind-begun key blocks (cells-back (c ∷ cells) (joined blocks) rise) filled.1)
  where
    at : (b : Bool) → key_le c.key key ≡ b → AreAbove key (joined (drop (begun_by key blocks) blocks)) → AreAbove key (joined (drop (begun_by key ((c ∷ cells) ∷ blocks)) ((c ∷ cells) ∷ blocks)))
    at true e rest = rw (one_more key (c ∷ cells) blocks true e) rest
    at false e rest =
        let first : key_lt key c.key ≡ true = lt_from_not_le c.key key e in
        rw (one_more key (c ∷ cells) blocks false e) (first, above-more key c.key (cells ++ joined blocks) first (above-first c (cells ++ joined blocks) rise))

-- all blocks but the last that begins by the key are below it
pub before-begun : (key : List ℕ) (block : List Cell) (blocks : List (List Cell)) → AreCells (block ++ joined blocks) → AllByRecursion HasCells blocks → AreBelow key (joined (take (begun_by key blocks) (block ∷ blocks)))
before-begun key block [] rise filled = tt
before-begun key block ([] ∷ blocks) rise filled = absurd (omega (arith, filled.0))
before-begun key block ((c ∷ cells) ∷ blocks) rise filled = at (key_le c.key key) refl (before-begun key (c ∷ cells) blocks (cells-back block ((c ∷ cells) ++ joined blocks) rise) filled.1)
  where
    at : (b : Bool) → key_le c.key key ≡ b → AreBelow key (joined (take (begun_by key blocks) ((c ∷ cells) ∷ blocks))) → AreBelow key (joined (take (begun_by key ((c ∷ cells) ∷ blocks)) (block ∷ (c ∷ cells) ∷ blocks)))
    at true e rest =
        let first : AreBelow key block = below-more c.key key block e (below-first block c (cells ++ joined blocks) rise) in
        rw (one_more key (c ∷ cells) blocks true e) (all_joined (λ (x : Cell). key_lt x.key key ≡ true) block (joined (take (begun_by key blocks) ((c ∷ cells) ∷ blocks))) first rest)
    at false e rest = rw (one_more key (c ∷ cells) blocks false e) tt

pub home-within : (key : List ℕ) (block : List Cell) (blocks : List (List Cell)) → home key (block ∷ blocks) < length (block ∷ blocks)
home-within key block blocks = omega (arith, prefix_len-le-length (begins_by key) (block ∷ blocks))

-- what stands round the block to which a key belongs
pub record IsHome (key : List ℕ) (blocks : List (List Cell)) (place : ℕ) : Type 0 where
  pub below : AreBelow key (joined (take place blocks))
  pub above : AreAbove key (joined (drop (place + 1) blocks))

above-later : (key : List ℕ) (n : ℕ) (blocks : List (List Cell)) → AreAbove key (joined (drop n blocks)) → AreAbove key (joined (drop (n - 1 + 1) blocks))
above-later key zero [] h = tt
above-later key zero (block ∷ blocks) h = all_right (λ (c : Cell). key_lt key c.key ≡ true) block (joined blocks) h
above-later key (suc n) blocks h = let e : suc n - 1 + 1 ≡ suc n = omega arith in rw e h

below-home : (key : List ℕ) (blocks : List (List Cell)) → AreBlocks blocks → AreBelow key (joined (take (home key blocks) blocks))
below-home key [] h = tt
below-home key (block ∷ blocks) h = at (begins_by key block) refl (before-begun key block blocks h.rise h.filled.1)
  where
    at : (b : Bool) → begins_by key block ≡ b → AreBelow key (joined (take (begun_by key blocks) (block ∷ blocks))) → AreBelow key (joined (take (home key (block ∷ blocks)) (block ∷ blocks)))
    at true e rest =
        let less : home key (block ∷ blocks) ≡ begun_by key blocks = omega (arith, one_more key block blocks true e) in rw less rest
    at false e rest =
        let none : home key (block ∷ blocks) ≡ 0 = omega (arith, one_more key block blocks false e) in rw none tt

pub at_home : (key : List ℕ) (blocks : List (List Cell)) → AreBlocks blocks → IsHome key blocks (home key blocks)
at_home key blocks h = record {
  below = below-home key blocks h;
  above = above-later key (begun_by key blocks) blocks (behind-begun key blocks h.rise h.filled);
}

-- the index is in order: a block before one that begins by a key begins by it too
begins-before : (key : List ℕ) (block next : List Cell) (blocks : List (List Cell)) → AreBlocks (block ∷ next ∷ blocks) → begins_by key next ≡ true → begins_by key block ≡ true
begins-before key [] next blocks h e = absurd (omega (arith, h.filled.0))
begins-before key (c ∷ cells) [] blocks h e = absurd (omega (arith, h.filled.1.0))
begins-before key (c ∷ cells) (x ∷ next) blocks h e =
    let lt : key_lt c.key x.key ≡ true = (below-first (c ∷ cells) x (next ++ joined blocks) h.rise).0 in
    key_le-trans c.key x.key key (le_from_lt c.key x.key lt) e

blocks-rest : (block : List Cell) (blocks : List (List Cell)) → AreBlocks (block ∷ blocks) → AreBlocks blocks
blocks-rest block blocks h = record { rise = cells-back block (joined blocks) h.rise; filled = h.filled.1 }

first-begins : (key : List ℕ) (block : List Cell) (blocks : List (List Cell)) → AreBlocks (block ∷ blocks) → (j : ℕ) (d : List Cell) → j < length blocks → begins_by key (slice_index_or blocks j d) ≡ true → begins_by key block ≡ true
first-begins key block [] h j d lt e = absurd (omega arith)
first-begins key block (next ∷ blocks) h zero d lt e = begins-before key block next blocks h e
first-begins key block (next ∷ blocks) h (suc j) d lt e = begins-before key block next blocks h (first-begins key next blocks (blocks-rest block (next ∷ blocks) h) j d (omega arith) e)

pub parted_blocks : (key : List ℕ) (blocks : List (List Cell)) → AreBlocks blocks → IsPartitionedBy (begins_by key) blocks
parted_blocks key [] h i j d le lt e = absurd (omega arith)
parted_blocks key (block ∷ blocks) h zero zero d le lt e = e
parted_blocks key (block ∷ blocks) h zero (suc j) d le lt e = first-begins key block blocks h j d (omega arith) e
parted_blocks key (block ∷ blocks) h (suc i) zero d le lt e = absurd (omega arith)
parted_blocks key (block ∷ blocks) h (suc i) (suc j) d le lt e = parted_blocks key blocks (blocks-rest block blocks h) i j d (omega arith) (omega arith) e

-- two halves of a block
pub below-half : (key : List ℕ) (front back : List Cell) → AreCells (front ++ back) → begins_by key back ≡ true → AreBelow key front
below-half key front [] h e = absurd (cc)
below-half key front (c ∷ back) h e = below-more c.key key front e (below-first front c back h)

pub above-half : (key : List ℕ) (front back : List Cell) → AreCells (front ++ back) → begins_by key back ≡ false → AreAbove key back
above-half key front [] h e = tt
above-half key front (c ∷ back) h e =
    let first : key_lt key c.key ≡ true = lt_from_not_le c.key key e in
    (first, above-more key c.key back first (above-first c back (cells-back front (c ∷ back) h)))
