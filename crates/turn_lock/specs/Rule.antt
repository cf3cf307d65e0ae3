-- The rule of the lock's table, and what each step tells. Word 0 is the turn, word 1 the length of the history, word 2 how many numbers were drawn.
use Rattle.std.specs.Prelude.{◌≡◌, ◌≢◌, ℕ, ◌+◌, ◌^◌, ◌<◌, ◌≤◌, List, [], ◌∷◌, ◌++◌, length, Option, Some, true, false}
use Rattle.std.specs.List.{AllByRecursion, flat_map, enumerate_from, range_with_len}
use Rattle.std.specs.List.Sorted.{IsPermutation}
use mathlib.Core.List.{IsPrefix}
use mathlib.Core.Option.{some, none}
use lib.ListN.{get_elem?}
use Rattle.atomic_table.specs.Table.{State, Me, Step, rest}
use Rattle.turn_lock.specs.declared.view.Start.{Start}
use Rattle.turn_lock.specs.declared.view.View.{View}
use Rattle.turn_lock.specs.View.{own, holding, lost_to, entered, given, drawn_as}

-- what the rule says of one view, of the history and the turn
pub record Fits {E R : Type 0} (start : Start R) (log : List E) (turn : ℕ) (v : View E R) : Type 0 where
  pub seen : IsPrefix v.seen log
  pub merged : AllByRecursion (λ xs. IsPrefix xs log) v.merged
  pub starts : AllByRecursion (λ x. x ≡ start) v.starts
  pub turn_is : v.holds ≡ true → turn ≡ own v.numbers + 1
  pub seen_all : v.holds ≡ true → v.seen ≡ log
  pub no_number : v.numbers ≡ [] → (v.mine ≡ []) × (v.holds ≡ false)

module _ {V E R : Type 0} (history : V → List E) (root_of : V → R) where
  -- the value is in the slot, and has this root and this history
  pub record IsHome (root : R) (log : List E) (homes : List (mathlib.Core.Option.Option (Option V))) : Type 0 where
    pub value : V
    pub at_home : get_elem? homes 0 ≡ some (some (Some value))
    pub history_is : history value ≡ log
    pub root_is : root_of value ≡ root

  -- what holds between any two steps
  pub record Kept (start : Start R) (s : State (Option V) (View E R)) : Type 0 where
    pub log : List E
    pub turn : ℕ
    pub drawn : ℕ
    pub words : s.words ≡ turn ∷ length log ∷ drawn ∷ []
    pub few : (drawn ≤ start.passes) × (start.passes < 2 ^ 32)
    pub free : turn ≡ 0 → IsHome start.root log s.homes
    pub taken : turn ≢ 0 → (j : ℕ) × (v : View E R) × (get_elem? s.views j ≡ some v) × (v.holds ≡ true)
    pub fits : (j : ℕ) (v : View E R) → get_elem? s.views j ≡ some v → Fits start log turn v
    -- each number below `drawn` is in one view, once, and no other is
    pub numbers : IsPermutation (flat_map (λ v. v.numbers) s.views) (range_with_len 0 drawn)
    -- each entry of the history is in one view, once, with its place, and no other is
    pub entries : IsPermutation (flat_map (λ v. v.mine) s.views) (enumerate_from 0 log)

  -- a seat's view, and the slots that it has out
  abbrev pub SeatState : Type 0
  SeatState = Me (Option V) (View E R)

  -- a take that found the turn free has the value; another was lost to the pass that holds the turn
  abbrev pub took : (V → R) → Step (Option V) → SeatState → ℕ → SeatState → Type 0
  took state_of step before found after =
      (found ≡ 0 → (value : V)
      × (after ≡ (holding before.0 (history value) (state_of value), (0, Some value) ∷ before.1))
      × IsPrefix before.0.seen (history value)
      × AllByRecursion (λ start. root_of value ≡ start.root) before.0.starts)
      × (found ≢ 0 → (holder : ℕ)
      × (found ≡ holder + 1)
      × (after ≡ (lost_to before.0 holder, before.1))
      × (holder ≢ own before.0.numbers)
      × (holder < 2 ^ 32)
      × AllByRecursion (λ start. holder < start.passes) before.0.starts)

  -- a holder's count is the length of what it has seen
  abbrev pub counted : Step (Option V) → SeatState → ℕ → SeatState → Type 0
  counted step before found after = (after ≡ before) × (found ≡ length before.0.seen)

  -- the holder adds the entry by which the value, which it has out, goes on
  abbrev pub added : Step (Option V) → SeatState → ℕ → SeatState → Type 0
  added step before stored after = (value : V) (entry : E) → before.1 ≡ (0, Some value) ∷ rest before.1
      → history value ≡ before.0.seen ++ entry ∷ [] → after ≡ (entered before.0 entry, before.1)

  -- the holder gives the turn back, and with it the slot that it has out
  abbrev pub gave : Step (Option V) → SeatState → ℕ → SeatState → Type 0
  gave step before stored after = after ≡ (given before.0, rest before.1)

  -- a draw that found the number that it asked for has it
  abbrev pub drew : Step (Option V) → SeatState → ℕ → SeatState → Type 0
  drew step before found after = (found ≡ step.first → after ≡ (drawn_as before.0 step.first, before.1)) × (found ≢ step.first → after ≡ before)
