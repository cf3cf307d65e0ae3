-- Lines and columns.
use Rattle.std.specs.Prelude.{ℕ, ◌+◌, List, take, count_by, not, ◌==◌}
use Rattle.std.specs.List.{suffix_len}
use Rattle.statement_draft.specs.declared.faults.Reason.{Reason}
use Rattle.statement_reader.specs.declared.faults.ScriptFault.{ScriptFault}

-- the line of the byte at a place, counted from 1, each line ending at its LF
abbrev pub line_number : List ℕ → ℕ → ℕ
line_number text at = 1 + count_by (λ b. b == 10) (take at text)

-- its column: how many bytes the line has up to it, with it
abbrev pub column_of : List ℕ → ℕ → ℕ
column_of text at = 1 + suffix_len (λ b. not (b == 10)) (take at text)

-- a fault of the byte at a place, or of the one that would follow the last
abbrev pub fault_at : List ℕ → ℕ → Reason → ScriptFault
fault_at text at reason = record { line = line_number text at; column = column_of text at; reason = reason }
