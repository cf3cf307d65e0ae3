-- Granules and locks.
use Rattle.std.specs.Prelude.{◌≡◌, ℕ, List, [], ◌∷◌, Option, Bool, true, false, not, ◌&&◌, ◌||◌, nat_eq, ◌==◌, find, filter, if◌then◌else◌}
use Rattle.std.specs.List.{starts_with, list_any}
use Rattle.std.specs.declared.cmp.Ordering.{Ordering}
use Rattle.std.specs.Ordering.{is_lt, nat_cmp, ordering_then}
use Rattle.std.specs.Cmp.Lexicographic.{slice_cmp}
use Rattle.sql_base.specs.declared.lock_names.Lock.{Lock}
use Rattle.sql_base.specs.declared.lock_names.TxnName.{TxnName}
use Rattle.sql_base.specs.declared.lock_names.Mode.{Mode}
use Rattle.sql_base.specs.declared.lock_names.Mode.TheVariants.{S, X}

-- one granule is a prefix of the other
abbrev pub overlaps : List ℕ → List ℕ → Bool
overlaps a b = starts_with nat_eq a b || starts_with nat_eq b a

abbrev pub same_txn : TxnName → TxnName → Bool
same_txn a b = (a.session == b.session) && (a.ordinal == b.ordinal)

abbrev pub is_exclusive : Mode → Bool
is_exclusive S = false
is_exclusive X = true

-- the holders differ, the granules overlap and one mode is X
abbrev pub conflicts : Lock → Lock → Bool
conflicts a b = not (same_txn a.holder b.holder) && (overlaps a.prefix b.prefix && (is_exclusive a.mode || is_exclusive b.mode))

-- the first lock of a list in table order that conflicts with t's lock of the prefix in the mode
abbrev pub first_conflict : List Lock → TxnName → List ℕ → Mode → Option Lock
first_conflict locks t prefix mode = find (conflicts (record { holder = t; prefix = prefix; mode = mode })) locks

abbrev pub mode_cmp : Mode → Mode → Ordering
mode_cmp a b = nat_cmp (place a) (place b)
  where
    place : Mode → ℕ
    place S = 0
    place X = 1

-- table order: by prefix bytes, a prefix before its extensions, then by holder, then S before X
abbrev pub lock_cmp : Lock → Lock → Ordering
lock_cmp a b =
    ordering_then (slice_cmp nat_cmp a.prefix b.prefix)
    (ordering_then (nat_cmp a.holder.session b.holder.session)
    (ordering_then (nat_cmp a.holder.ordinal b.holder.ordinal) (mode_cmp a.mode b.mode)))

-- the locks stand in table order, each once
abbrev pub InTableOrder : List Lock → Type 0
InTableOrder [] = Unit {0}
InTableOrder (a ∷ []) = Unit {0}
InTableOrder (a ∷ b ∷ locks) = (is_lt (lock_cmp a b) ≡ true) × InTableOrder (b ∷ locks)

-- an own lock on a prefix of the granule, in X or in the same mode
abbrev pub covers : Lock → Lock → Bool
covers own wanted = same_txn own.holder wanted.holder && (starts_with nat_eq wanted.prefix own.prefix && (is_exclusive own.mode || not (is_exclusive wanted.mode)))

-- the lock at its place in table order
abbrev pub placed : Lock → List Lock → List Lock
placed lock [] = lock ∷ []
placed lock (l ∷ locks) = if is_lt (lock_cmp lock l) then lock ∷ l ∷ locks else l ∷ placed lock locks

-- after a grant, which adds nothing where an own lock covers it
abbrev pub granted : Lock → List Lock → List Lock
granted lock locks = if list_any (λ own. covers own lock) locks then locks else placed lock locks

-- without the locks of t
abbrev pub released : TxnName → List Lock → List Lock
released t locks = filter (λ lock. not (same_txn lock.holder t)) locks
