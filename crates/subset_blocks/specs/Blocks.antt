-- The subsets under way, by their numbers.
use Rattle.std.specs.Prelude.{◌≡◌, ℕ, ◌+◌, ◌==◌, List, [], ◌∷◌, ◌++◌, length, map, find, filter, Option, unwrap_or, false, not, ◌&&◌, if◌then◌else◌}
use Rattle.std.specs.List.{list_any, range_with_len}
use Rattle.sql_base.specs.Locks.{same_txn}
use Rattle.sql_base.specs.declared.lock_names.TxnName.{TxnName}
use Rattle.sql_base.specs.declared.key_ranges.Start.TheVariants.{After}
use Rattle.subset_blocks.specs.declared.Block.{Block}
use Rattle.subset_blocks.specs.declared.Numbered.{Numbered}

-- how many blocks a partition has room for
abbrev pub most_blocks : ℕ
most_blocks = 64

-- the least number from 1 that no block has
abbrev pub free_number : {W : Type 0} → List (Numbered W) → ℕ
free_number blocks = unwrap_or (find (λ n. not (list_any (λ b. b.number == n) blocks)) (range_with_len 1 (length blocks + 1))) 0

-- the transaction's block of that number
abbrev pub find_block : {W : Type 0} → ℕ → TxnName → List (Numbered W) → Option (Numbered W)
find_block number holder blocks = find (λ b. (b.number == number) && same_txn b.block.holder holder) blocks

abbrev pub opened : {W : Type 0} → Block W → List (Numbered W) → List (Numbered W)
opened block blocks = blocks ++ record { number = free_number blocks; block = block } ∷ []

-- the block of that number goes on after the key
abbrev pub gone_on : {W : Type 0} → ℕ → List ℕ → Numbered W → Numbered W
gone_on number last b = if b.number == number then record b { block = record b.block { start = After last } } else b

abbrev pub advanced : {W : Type 0} → ℕ → List ℕ → List (Numbered W) → List (Numbered W)
advanced number last blocks = map (gone_on number last) blocks

abbrev pub closed : {W : Type 0} → ℕ → List (Numbered W) → List (Numbered W)
closed number blocks = filter (λ b. not (b.number == number)) blocks

abbrev pub closed_of : {W : Type 0} → TxnName → List (Numbered W) → List (Numbered W)
closed_of holder blocks = filter (λ b. not (same_txn b.block.holder holder)) blocks

-- no two blocks have one number
abbrev pub NumbersDiffer : {W : Type 0} → List (Numbered W) → Type 0
NumbersDiffer [] = Unit {0}
NumbersDiffer (b ∷ blocks) = (list_any (λ c. c.number == b.number) blocks ≡ false) × NumbersDiffer blocks
