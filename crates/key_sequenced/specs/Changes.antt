-- What transactions have changed of the cells, and what is committed of them.
use Rattle.std.specs.Prelude.{ℕ, List, [], ◌∷◌, map, filter, filter_map, find, fold, Option, Some, None, option_map, option_and_then, Bool, false, if◌then◌else◌}
use Rattle.sql_base.specs.Keys.{key_lt, key_eq}
use Rattle.sql_base.specs.Locks.{same_txn}
use Rattle.sql_base.specs.declared.lock_names.TxnName.{TxnName}
use Rattle.sql_base.specs.declared.values.Value.{Value}
use Rattle.key_sequenced.specs.Cells.{Keyed, before_first, find_cell}
use Rattle.key_sequenced.specs.declared.Cell.{Cell}

-- what became of a key: a row, or none where it was deleted
pub record Change : Type 0 where
  pub key : List ℕ
  pub now : Option (List Value)

abbrev pub is_written_by : TxnName → Option TxnName → Bool
is_written_by t None = false
is_written_by t (Some writer) = same_txn writer t

-- the changes that t has made and not ended
abbrev pub pending_in : TxnName → List Cell → List Change
pending_in t cells = map (λ cell. record { key = cell.key; now = cell.now }) (filter (λ cell. is_written_by t cell.writer) cells)

-- a record at its place in key order, in the place of one with its key
abbrev pub put : List ℕ → List Value → List Keyed → List Keyed
put key row [] = record { key = key; row = row } ∷ []
put key row (k ∷ ks) =
    if key_lt key k.key
    then record { key = key; row = row } ∷ k ∷ ks
    else if key_eq key k.key then record { key = key; row = row } ∷ ks else k ∷ put key row ks

abbrev pub removed : List ℕ → List Keyed → List Keyed
removed key [] = []
removed key (k ∷ ks) = if key_eq key k.key then ks else k ∷ removed key ks

abbrev pub changed : List Keyed → List ℕ → Option (List Value) → List Keyed
changed held key (Some row) = put key row held
changed held key None = removed key held

-- changes laid over records
abbrev pub laid : List Keyed → List Change → List Keyed
laid held changes = fold (λ rows change. changed rows change.key change.now) held changes

-- the row of a key among records
abbrev pub row_at : List ℕ → List Keyed → Option (List Value)
row_at key held = option_map (λ k. k.row) (find (λ k. key_eq k.key key) held)

-- what stands of a cell without what is pending
abbrev pub standing : Cell → Option (List Value)
standing cell = before_first cell cell.writer

abbrev pub keyed : List ℕ → Option (List Value) → Option Keyed
keyed key row = option_map (λ row. record { key = key; row = row }) row

-- the records with every writer's change undone
abbrev pub committed_in : List Cell → List Keyed
committed_in cells = filter_map (λ cell. keyed cell.key (standing cell)) cells

-- what t sees of a cell: its own change, and nothing that another has under way
abbrev pub seen_by : TxnName → Cell → Option (List Value)
seen_by t cell = if is_written_by t cell.writer then cell.now else standing cell

abbrev pub records_for : TxnName → List Cell → List Keyed
records_for t cells = filter_map (λ cell. keyed cell.key (seen_by t cell)) cells

-- who has written the cell of a key
abbrev pub writer_in : List ℕ → List Cell → Option TxnName
writer_in key cells = option_and_then (λ c. c.writer) (find_cell key cells)
