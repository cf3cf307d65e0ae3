use Rattle.std.proofs.Common.{◌≡◌, map, take}
use Rattle.partition_state.specs.State.{new_cell}
use Rattle.partition_core.proofs.openings.new_file.Given as goal

-- the rows so far are loaded
abbrev pub invariant-loop-row : goal.invariant-loop-row
invariant-loop-row l = l.file.cells ≡ map (new_cell l.table) (take l.row-index l.rows)
