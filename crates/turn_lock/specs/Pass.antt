-- What contracts see of a lock and of its passes.
use Rattle.std.specs.Prelude.{◌≡◌, ◌≤◌, ◌⊎◌, ℕ, ◌+◌, List, [], ◌∷◌, ◌++◌, length, Option, Some, Bool, true, false, slice_get}
use Rattle.std.specs.List.{AllByRecursion, flat_map, enumerate_from}
use Rattle.std.specs.List.Sorted.{IsPermutation}
use Rattle.atomic_table.specs.Seated.{TableId}

-- which lock it is, since no two have one table, and how many passes it was made with
pub record LockId : Type 0 where
  pub table : TableId
  pub passes : ℕ

-- the lock with this table, made with so many passes
abbrev pub lock_id : TableId → ℕ → LockId
lock_id table passes = record { table = table; passes = passes }

-- a pass to a history of entries E that began from a root R
pub record PassState (E R : Type 0) : Type 0 where
  pub lock : LockId
  pub number : ℕ
  -- the root of the value handed to `new`; no pass is without
  pub root : Option R
  -- a beginning of the history
  pub seen : List E
  -- its own entries, each with its place in the history
  pub mine : List (ℕ × E)
  -- whether it holds the turn
  pub holds : Bool
  -- for each turn that it took, the state in which it found the value
  pub found : List R
  -- for each take that it lost, the number of the pass that held the turn
  pub losses : List ℕ

-- a pass that has seen nothing yet
abbrev pub new_pass : {E R : Type 0} → LockId → R → ℕ → PassState E R
new_pass lock root number = record { lock = lock; number = number; root = Some root; seen = []; mine = []; holds = false; found = []; losses = [] }

-- the value handed to `new` had this root
abbrev pub HasRoot : {E R : Type 0} → PassState E R → R → Type 0
HasRoot pass root = pass.root ≡ Some root

-- the history is this one, with at most one entry behind it
abbrev pub AddsAtMostOne : {E : Type 0} → List E → List E → Type 0
AddsAtMostOne {E} seen history = (history ≡ seen) ⊎ ((entry : E) × (history ≡ seen ++ entry ∷ []))

module _ {E R : Type 0} where
  -- the pass, once it has taken the turn, seen this history, and found the value in this state
  abbrev pub with_turn : PassState E R → List E → R → PassState E R
  with_turn pass history state = record pass { seen = history; holds = true; found = pass.found ++ state ∷ [] }

  -- once it has lost a take to the pass with this number
  abbrev pub with_loss : PassState E R → ℕ → PassState E R
  with_loss pass holder = record pass { losses = pass.losses ++ holder ∷ [] }

  -- once it has added this entry behind all that it had seen
  abbrev pub with_entry : PassState E R → E → PassState E R
  with_entry pass entry = record pass { seen = pass.seen ++ entry ∷ []; mine = pass.mine ++ (length pass.seen, entry) ∷ [] }

  -- once it has given the turn back
  abbrev pub without_turn : PassState E R → PassState E R
  without_turn pass = record pass { holds = false }

-- the history is made of just these passes' own entries, each once, at its place
abbrev pub IsMadeOf : {E R : Type 0} → List E → List (PassState E R) → Type 0
IsMadeOf history passes = IsPermutation (flat_map (λ p. p.mine) passes) (enumerate_from 0 history)

-- the places of the entries rise, from this one on
abbrev pub RisesFrom : {E : Type 0} → ℕ → List (ℕ × E) → Type 0
RisesFrom least [] = Unit {0}
RisesFrom least (own ∷ rest) = (least ≤ own.0) × RisesFrom (own.0 + 1) rest

-- these entries stand in this history at their places, which rise
pub record StandIn {E : Type 0} (mine : List (ℕ × E)) (history : List E) : Type 0 where
  pub rise : RisesFrom 0 mine
  pub stand : AllByRecursion (λ own. slice_get history own.0 ≡ Some own.1) mine
