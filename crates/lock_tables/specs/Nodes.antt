-- How many nodes the tree over a table of locks has: one for each byte list that some granule begins with.
use Rattle.std.specs.Prelude.{ℕ, ◌+◌, ◌-◌, List, [], ◌∷◌, ◌++◌, Option, None, Some, length, map, filter, not, nat_eq}
use Rattle.std.specs.List.{common_prefix_len, list_any, starts_with}
use Rattle.sql_base.specs.declared.lock_names.Lock.{Lock}

-- the byte lists that a granule begins with, the shortest first
abbrev pub prefixes : List ℕ → List (List ℕ)
prefixes [] = [] ∷ []
prefixes (byte ∷ bytes) = [] ∷ map (λ path. byte ∷ path) (prefixes bytes)

-- each byte list that the granule of some lock begins with, once: at the last lock whose granule does
abbrev pub nodes : List Lock → List (List ℕ)
nodes [] = []
nodes (lock ∷ locks) = filter (λ path. not (list_any (λ later. starts_with nat_eq later.prefix path) locks)) (prefixes lock.prefix) ++ nodes locks

-- how many of a granule's no lock behind it in table order has: all that the next one, if there is one, doesn't have
abbrev pub fresh : List ℕ → Option Lock → ℕ
fresh bytes None = length bytes + 1
fresh bytes (Some next) = length bytes - common_prefix_len nat_eq bytes next.prefix
