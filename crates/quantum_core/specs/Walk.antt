-- The row that a verdict gives, and the room that it takes in the buffer.
use Rattle.std.specs.Prelude.{ℕ, ◌+◌, List, [], ◌∷◌, length, Option, Some, None}
use Rattle.quantum_core.specs.Quantum.{row_of}
use Rattle.quantum_core.specs.declared.verdicts.Verdict.{Verdict}

-- the row that a verdict gives, as a list
abbrev pub option_list : {A : Type 0} → Option A → List A
option_list None = []
option_list (Some x) = x ∷ []

abbrev pub given_rows : Verdict → List (List ℕ)
given_rows verdict = option_list (row_of verdict)

-- its bytes, with 2 more for its length
abbrev pub room_of_row : Option (List ℕ) → ℕ
room_of_row None = 0
room_of_row (Some row) = length row + 2

abbrev pub room_for : Verdict → ℕ
room_for verdict = room_of_row (row_of verdict)
