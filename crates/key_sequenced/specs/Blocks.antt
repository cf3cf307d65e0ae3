-- A file as blocks of cells, and the block to which a key belongs.
use Rattle.std.specs.Prelude.{◌≡◌, ℕ, ◌-◌, ◌<◌, min, List, [], ◌∷◌, ◌++◌, length, map, Bool, false, true, Option, None, Vec, vec_len, vec_capacity}
use Rattle.std.specs.List.{prefix_len, AllByRecursion}
use Rattle.sql_base.specs.Keys.{key_le}
use Rattle.sql_base.specs.declared.key_ranges.Start.{Start}
use Rattle.sql_base.specs.declared.key_ranges.Start.TheVariants.{At, After}
use Rattle.key_sequenced.specs.Cells.{AreCells}
use Rattle.key_sequenced.specs.Files.{Held}
use Rattle.key_sequenced.specs.declared.Cell.{Cell}

-- the most cells of a block
abbrev pub most_cells : ℕ
most_cells = 64

-- the cells that a full block keeps when it is split
abbrev pub kept_cells : ℕ
kept_cells = 32

-- the cells of all blocks, one block after the other
abbrev pub joined : List (List Cell) → List Cell
joined [] = []
joined (block ∷ blocks) = block ++ joined blocks

-- a block whose mark is off has no cell with a writer
abbrev pub IsMarked : Bool → List Cell → Type 0
IsMarked written cells = written ≡ false → AllByRecursion (λ c. c.writer ≡ None) cells

abbrev pub HasCells : List Cell → Type 0
HasCells block = 0 < length block

abbrev pub has_cells : List Cell → Bool
has_cells [] = false
has_cells (cell ∷ cells) = true

-- no block is empty, and the keys rise from the first cell to the last
pub record AreBlocks (blocks : List (List Cell)) : Type 0 where
  pub rise : AreCells (joined blocks)
  pub filled : AllByRecursion HasCells blocks

-- the first key of the block isn't above the key
abbrev pub begins_by : List ℕ → List Cell → Bool
begins_by key [] = false
begins_by key (cell ∷ cells) = key_le cell.key key

-- how many blocks begin with the key or below it
abbrev pub begun_by : List ℕ → List (List Cell) → ℕ
begun_by key blocks = prefix_len (begins_by key) blocks

-- the place of the block to which the key belongs: the last that begins with the key or below it, or else the first
abbrev pub home : List ℕ → List (List Cell) → ℕ
home key blocks = begun_by key blocks - 1

abbrev pub start_key : Start → List ℕ
start_key (At key) = key
start_key (After key) = key

-- blocks that wait for cells
abbrev pub AreEmpty : List (List Cell) → Type 0
AreEmpty blocks = AllByRecursion (λ block. length block ≡ 0) blocks

-- the cells of the blocks; each new one may need an empty block and a place among the others
abbrev pub held_in : {Z : Type 0} → Vec (List Cell) Z → Vec (List Cell) Z → Held
held_in blocks empty = record {
  cells = joined blocks.items;
  spare = min (vec_len empty) (vec_capacity blocks - vec_len blocks);
  sizes = map length blocks.items;
}
