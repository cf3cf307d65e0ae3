-- Numbers in lines of a width.
use Rattle.std.specs.Prelude.{ℕ, ◌+◌, ◌%◌, List, [], ◌∷◌, ◌++◌, ◌==◌, if◌then◌else◌, decimal}

-- what follows the number at a place, counted from 0: a line break at the end of a line, else a blank
abbrev pub separator : ℕ → ℕ → ℕ
separator width place = if (place + 1) % width == 0 then 0x0A else 0x20

-- the numbers from a place on
abbrev pub rows_from : ℕ → ℕ → List ℕ → List ℕ
rows_from width place [] = []
rows_from width place (n ∷ numbers) = decimal n ++ separator width place ∷ rows_from width (place + 1) numbers

abbrev pub rows_text : ℕ → List ℕ → List ℕ
rows_text width numbers = rows_from width 0 numbers
