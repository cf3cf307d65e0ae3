-- The cells whose keys lie in a range.
use Rattle.std.specs.Prelude.{◌≡◌, ◌≤◌, ℕ, List, length, Option, true, false}
use Rattle.std.specs.List.{AllWithin}
use Rattle.sql_base.specs.declared.key_ranges.KeyRange.{KeyRange}
use Rattle.range_finder.specs.Range.{is_in}
use Rattle.one_thread.specs.declared.cells.Cell.{Cell}

-- they are just those from the first place to below the end
pub record IsWindow (range : Option KeyRange) (cells : List Cell) (first end : ℕ) : Type 0 where
  pub order : first ≤ end
  pub within : end ≤ length cells
  pub before : AllWithin (λ cell. is_in range cell.key ≡ false) cells 0 first
  pub inside : AllWithin (λ cell. is_in range cell.key ≡ true) cells first end
  pub behind : AllWithin (λ cell. is_in range cell.key ≡ false) cells end (length cells)
