-- What a seat knows, and how its knowledge changes.
use Rattle.std.specs.Prelude.{◌≡◌, ℕ, List, [], ◌∷◌, ◌++◌, length, Option, Some, None, Bool, true, false, if◌then◌else◌, nat_le}
use Rattle.atomic_table.specs.Table.{Me}
use Rattle.turn_lock.specs.declared.view.Opening.{Opening}
use Rattle.turn_lock.specs.declared.view.Start.{Start}
use Rattle.turn_lock.specs.declared.view.View.{View}
use Rattle.turn_lock.specs.Pass.{LockId, PassState, StandIn}

-- what a lock that began so tells its seats
abbrev pub start_of : {V R : Type 0} → (V → R) → Opening V → Start R
start_of root opening = record { root = root opening.value.value; passes = opening.passes }

-- the own number, which stands first, or 0
abbrev pub own : List ℕ → ℕ
own [] = 0
own (x ∷ xs) = x

-- the longer one, or the first of two that are as long
abbrev pub longer : {E : Type 0} → List E → List E → List E
longer xs ys = if nat_le (length ys) (length xs) then xs else ys

-- the root that is told first, if any is
abbrev pub first_root : {R : Type 0} → List (Start R) → Option R
first_root [] = None
first_root (start ∷ starts) = Some start.root

module _ {E R : Type 0} where
  -- a seat with no number
  abbrev pub fresh : List (Start R) → View E R
  fresh starts = record { numbers = []; seen = []; mine = []; holds = false; found = []; losses = []; merged = []; starts = starts }

  -- the first seat, which has number 0
  abbrev pub first_view : Start R → View E R
  first_view start = record { numbers = 0 ∷ []; seen = []; mine = []; holds = false; found = []; losses = []; merged = []; starts = start ∷ [] }

  -- the number n was drawn
  abbrev pub drawn_as : View E R → ℕ → View E R
  drawn_as v n = record v { numbers = n ∷ [] }

  -- the turn was taken, the whole history seen, and the value found in this state
  abbrev pub holding : View E R → List E → R → View E R
  holding v log state = record v { seen = log; holds = true; found = v.found ++ state ∷ [] }

  -- a take was lost to the pass of this number
  abbrev pub lost_to : View E R → ℕ → View E R
  lost_to v holder = record v { losses = v.losses ++ holder ∷ [] }

  -- an entry was added behind all that was seen
  abbrev pub entered : View E R → E → View E R
  entered v e = record v { seen = v.seen ++ e ∷ []; mine = v.mine ++ (length v.seen, e) ∷ [] }

  -- the turn was given back
  abbrev pub given : View E R → View E R
  given v = record v { holds = false }

  -- one seat has taken in another
  abbrev pub rejoined : View E R → View E R → View E R
  rejoined v w = record v {
    numbers = v.numbers ++ w.numbers;
    seen = longer v.seen w.seen;
    mine = v.mine ++ w.mine;
    merged = (v.merged ++ w.merged) ++ v.seen ∷ w.seen ∷ [];
    starts = v.starts ++ w.starts;
  }

  -- what contracts see of the pass with this seat
  abbrev pub shown : LockId → ℕ → View E R → PassState E R
  shown lock number v = record { lock = lock; number = number; root = first_root v.starts; seen = v.seen; mine = v.mine; holds = v.holds; found = v.found; losses = v.losses }

-- the slot that a pass has out while it holds the turn, which is empty, since the value was taken from it
abbrev pub carried_if : {V : Type 0} → Bool → List (ℕ × Option V)
carried_if true = (0, None) ∷ []
carried_if false = []

-- the seat of the pass with this number, of so many
pub record IsSeatOf {V E R : Type 0} (number passes : ℕ) (me : Me (Option V) (View E R)) : Type 0 where
  pub numbered : me.0.numbers ≡ number ∷ []
  pub start : Start R
  pub started : me.0.starts ≡ start ∷ []
  pub counted : start.passes ≡ passes
  pub carries : me.1 ≡ carried_if me.0.holds
  pub own : StandIn me.0.mine me.0.seen
