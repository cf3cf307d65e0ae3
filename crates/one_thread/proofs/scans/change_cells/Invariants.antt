use Rattle.std.proofs.Common.{◌≡◌, ◌≤◌, ◌++◌, drop, map, take}
use Rattle.std.specs.Prelude.{count_by}
use Rattle.one_thread.specs.Scaffold.Scans.{change_abort, changed, first_abort, is_changed}
use Rattle.one_thread.proofs.scans.change_cells.Given as goal

-- the cells so far are changed, and none of them fails
abbrev pub invariant-loop-cell : goal.invariant-loop-cell
invariant-loop-cell l =
    (l.cells ≡ map (changed l.table l.statement) (take l.cell-index l.fn.cells) ++ drop l.cell-index l.fn.cells)
    × (l.count ≡ count_by (is_changed l.table l.statement) (take l.cell-index l.fn.cells)) × (l.count ≤ l.cell-index)
    × (first_abort (change_abort l.table l.statement) l.fn.cells ≡ first_abort (change_abort l.table l.statement) (drop l.cell-index l.fn.cells))
