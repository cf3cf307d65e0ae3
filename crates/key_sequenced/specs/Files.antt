-- A file: its cells, and the room that is left.
use Rattle.std.specs.Prelude.{ℕ, ◌≤◌, List, [], ◌∷◌, Bool, false, Option, Some, None, unwrap_or, if◌then◌else◌}
use Rattle.sql_base.specs.Keys.{key_lt, key_eq}
use Rattle.sql_base.specs.declared.lock_names.TxnName.{TxnName}
use Rattle.sql_base.specs.declared.values.Value.{Value}
use Rattle.key_sequenced.specs.Cells.{ending, rewritten}
use Rattle.key_sequenced.specs.declared.Cell.{Cell}

-- the cells, how many more there is room for, and how many of them lie in each block
pub record Held : Type 0 where
  pub cells : List Cell
  pub spare : ℕ
  pub sizes : List ℕ

-- the cell behind those up to its key
abbrev pub with_cell : Cell → List Cell → List Cell
with_cell cell [] = cell ∷ []
with_cell cell (c ∷ cells) = if key_lt cell.key c.key then cell ∷ c ∷ cells else c ∷ with_cell cell cells

-- a cell that holds a row, with nothing pending
abbrev pub loaded_cell : List ℕ → List Value → Cell
loaded_cell key row = record { key = key; now = Some row; was = None; writer = None }

-- the key is that of the cell
abbrev pub is_key_of : List ℕ → Option Cell → Bool
is_key_of key None = false
is_key_of key (Some cell) = key_eq cell.key key

-- the cell of the key, rewritten by t
abbrev pub rewritten_at : TxnName → List ℕ → Option (List Value) → List Cell → List Cell
rewritten_at t key now [] = []
rewritten_at t key now (cell ∷ cells) = if key_eq cell.key key then rewritten t now cell ∷ cells else cell ∷ rewritten_at t key now cells

-- the cell that stays after the end of t
abbrev pub cell_ended : TxnName → (Cell → Option (List Value)) → Cell → Cell
cell_ended t kept cell = unwrap_or (ending t kept cell cell.writer) cell

-- how many cells a block may have
abbrev pub IsSize : ℕ → Type 0
IsSize size = (1 ≤ size) × (size ≤ 64)
