-- The tree over a table of locks: each node is the run of those whose granules begin with its bytes.
use Rattle.std.specs.Prelude.{◌≡◌, ℕ, ◌+◌, List, Option, None, Some, Bool, true, nat_eq, nat_lt, slice_get}
use Rattle.std.specs.List.{starts_with, AllByRecursion}
use Rattle.sql_base.specs.Locks.{InTableOrder}
use Rattle.sql_base.specs.declared.lock_names.Lock.{Lock}

-- 0 where a granule ends, else one more than its next byte
abbrev pub branch_of : Option ℕ → ℕ
branch_of None = 0
branch_of (Some byte) = byte + 1

-- the branch on which a lock goes on behind so many bytes
abbrev pub branch : ℕ → Lock → ℕ
branch depth lock = branch_of (slice_get lock.prefix depth)

-- the locks whose granules end behind so many bytes
abbrev pub ends_at : ℕ → Lock → Bool
ends_at depth lock = nat_lt (branch depth lock) 1

-- the locks whose granules go on with the byte
abbrev pub goes_on_by : ℕ → ℕ → Lock → Bool
goes_on_by depth byte lock = nat_eq (branch depth lock) (byte + 1)

-- the granule begins with these bytes
abbrev pub IsUnder : List ℕ → Lock → Type 0
IsUnder path lock = starts_with nat_eq lock.prefix path ≡ true

-- locks in table order whose granules begin with these bytes
abbrev pub IsNode : List ℕ → List Lock → Type 0
IsNode path run = AllByRecursion (IsUnder path) run × InTableOrder run
