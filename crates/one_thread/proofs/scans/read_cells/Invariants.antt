use Rattle.std.proofs.Common.{◌≡◌, drop, take}
use Rattle.std.specs.List.{filter_map}
use Rattle.one_thread.specs.Scaffold.Scans.{first_abort, read_abort, shown}
use Rattle.one_thread.proofs.scans.read_cells.Given as goal

-- the cells so far are read, and none of them fails
abbrev pub invariant-loop-cell : goal.invariant-loop-cell
invariant-loop-cell l =
    (l.rows ≡ filter_map (shown l.columns l.filter) (take l.cell-index l.cells))
    × (first_abort (read_abort l.filter) l.cells ≡ first_abort (read_abort l.filter) (drop l.cell-index l.cells))
