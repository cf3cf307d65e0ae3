-- The cells that a transaction hasn't changed.
use Rattle.std.specs.Prelude.{◌≡◌, ◌≤◌, ◌<◌, ℕ, List, length, get_or}
use Rattle.one_thread.specs.declared.cells.Before.TheVariants.{Same}
use Rattle.one_thread.specs.declared.cells.Cell.{Cell}

-- below the first place and from the end on, the cells are as before the transaction
pub record AreSame (first end : ℕ) (cells : List Cell) : Type 0 where
  pub below : (k : ℕ) (d : Cell) → k < first → k < length cells → (get_or cells k d).before ≡ Same
  pub behind : (k : ℕ) (d : Cell) → end ≤ k → k < length cells → (get_or cells k d).before ≡ Same
