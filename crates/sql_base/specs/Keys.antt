-- Byte strings and their order.
use Rattle.std.specs.Prelude.{◌≡◌, ℕ, List, [], ◌∷◌, take, nat_eq, Bool, true, ◌&&◌, if◌then◌else◌}
use Rattle.std.specs.List.{common_prefix_len}
use Rattle.std.specs.Ordering.{is_eq, is_lt, is_le, nat_cmp}
use Rattle.std.specs.Cmp.Lexicographic.{slice_cmp}
use Rattle.sql_base.specs.declared.key_ranges.Start.{Start}
use Rattle.sql_base.specs.declared.key_ranges.Start.TheVariants.{At, After}

-- byte order, a prefix before its extensions
abbrev pub key_lt : List ℕ → List ℕ → Bool
key_lt a b = is_lt (slice_cmp nat_cmp a b)

abbrev pub key_le : List ℕ → List ℕ → Bool
key_le a b = is_le (slice_cmp nat_cmp a b)

abbrev pub key_eq : List ℕ → List ℕ → Bool
key_eq a b = is_eq (slice_cmp nat_cmp a b)

-- the greater and the lesser of two keys
abbrev pub key_max : List ℕ → List ℕ → List ℕ
key_max a b = if key_lt a b then b else a

abbrev pub key_min : List ℕ → List ℕ → List ℕ
key_min a b = if key_lt b a then b else a

-- the key lies from low to high, both included
abbrev pub is_within : List ℕ → List ℕ → List ℕ → Bool
is_within low high key = key_le low key && key_le key high

-- the key isn't before the start
abbrev pub is_from : Start → List ℕ → Bool
is_from (At start) key = key_le start key
is_from (After last) key = key_lt last key

-- the keys strictly rise
abbrev pub Rise : List (List ℕ) → Type 0
Rise [] = Unit {0}
Rise (a ∷ []) = Unit {0}
Rise (a ∷ b ∷ keys) = (key_lt a b ≡ true) × Rise (b ∷ keys)

-- the longest common prefix
abbrev pub common_prefix : List ℕ → List ℕ → List ℕ
common_prefix a b = take (common_prefix_len nat_eq a b) a
