-- Cells whose keys rise, and how many stand before a place.
use Rattle.std.proofs.Common.{◌≡◌, ℕ, zero, suc, ◌<◌, ◌≤◌, List, [], ◌∷◌, length, map, Bool, true, false, ◌&&◌, Some, slice_index_or, refl, arith}
use Rattle.std.specs.List.Sorted.{IsPartitionedBy, IsPartitionPoint}
use Rattle.sql_base.specs.Keys.{is_within, key_le, key_lt, Rise}
use Rattle.sql_base.proofs.KeyOrders.{lt-trans, le_from_not_lt, not_le_from_lt}
use Rattle.sql_base.specs.declared.key_ranges.KeyRange.{KeyRange}
use Rattle.one_thread.specs.Scaffold.Windows.{IsWindow}
use Rattle.one_thread.specs.declared.cells.Cell.{Cell}

abbrev pub keys : List Cell → List (List ℕ)
keys cells = map (λ cell. cell.key) cells

pub rise-rest : (c : Cell) (cells : List Cell) → Rise (keys (c ∷ cells)) → Rise (keys cells)
rise-rest c [] h = tt
rise-rest c (x ∷ cells) h = h.1

rise-without : (a b : Cell) (cells : List Cell) → Rise (keys (a ∷ b ∷ cells)) → Rise (keys (a ∷ cells))
rise-without a b [] h = tt
rise-without a b (c ∷ cells) h = (lt-trans a.key b.key c.key h.0 h.1.0, h.1.1)

pub first-below : (c : Cell) (cells : List Cell) → Rise (keys (c ∷ cells)) → (j : ℕ) (d : Cell) → j < length cells → key_lt c.key (slice_index_or cells j d).key ≡ true
first-below c [] h j d lt = absurd (omega arith)
first-below c (x ∷ cells) h zero d lt = h.0
first-below c (x ∷ cells) h (suc j) d lt = first-below c cells (rise-without c x cells h) j d (omega arith)

-- a test that holds below each key at which it holds splits the cells
pub parted : (q : List ℕ → Bool) → ((a b : List ℕ) → key_lt a b ≡ true → q b ≡ true → q a ≡ true) → (cells : List Cell) → Rise (keys cells) → IsPartitionedBy (λ c. q c.key) cells
parted q down [] h i j d le lt e = absurd (omega arith)
parted q down (c ∷ cells) h zero zero d le lt e = e
parted q down (c ∷ cells) h zero (suc j) d le lt e = down c.key (slice_index_or cells j d).key (first-below c cells h j d (omega arith)) e
parted q down (c ∷ cells) h (suc i) zero d le lt e = absurd (omega arith)
parted q down (c ∷ cells) h (suc i) (suc j) d le lt e = parted q down cells (rise-rest c cells h) i j d (omega arith) (omega arith) e

-- a key from low on and up to high lies within them, and no other does
pub lies : (low high key : List ℕ) → key_lt key low ≡ false → key_le key high ≡ true → is_within low high key ≡ true
lies low high key h k = rw (le_from_not_lt low key h, k) refl

pub below_low : (low high key : List ℕ) → key_lt key low ≡ true → is_within low high key ≡ false
below_low low high key h = rw (not_le_from_lt low key h) refl

pub above_high : (low high key : List ℕ) → key_le key high ≡ false → is_within low high key ≡ false
above_high low high key h = by (key_le low key) h
  where
    by : (b : Bool) → key_le key high ≡ false → (b && key_le key high) ≡ false
    by true h = h
    by false h = refl

-- the cells between the first that isn't below `low` and the last that isn't above `high`
pub window_is : (range : KeyRange) (cells : List Cell) (first up end : ℕ) → first ≤ end → end ≤ length cells → ((k : ℕ) → first ≤ k → k < end → k < up) → ((k : ℕ) → end ≤ k → up ≤ k)
    → IsPartitionPoint (λ c. key_lt c.key range.low ≡ true) (λ c. key_lt c.key range.low ≡ false) cells first
    → IsPartitionPoint (λ c. key_le c.key range.high ≡ true) (λ c. key_le c.key range.high ≡ false) cells up
    → IsWindow (Some range) cells first end
window_is range cells first up end order within inside behind lows highs = record {
  order = order;
  within = within;
  before = λ k d le lt. below_low range.low range.high (slice_index_or cells k d).key (lows.0 k d le lt);
  inside = λ k d le lt. lies range.low range.high (slice_index_or cells k d).key (lows.1 k d le (omega arith)) (highs.0 k d (omega arith) (inside k le lt));
  behind = λ k d le lt. above_high range.low range.high (slice_index_or cells k d).key (highs.1 k d (behind k le) lt);
}
