use Rattle.std.proofs.Common.{◌≡◌, ◌++◌, map, take}
use Rattle.one_thread.specs.Scaffold.Loading.{cell_of}
use Rattle.one_thread.proofs.loading.add_rows.Given as goal

-- the rows so far are added
abbrev pub invariant-loop-row : goal.invariant-loop-row
invariant-loop-row l = l.cells.items ≡ l.fn.cells.items ++ map (cell_of l.table) (take l.row-index l.rows)
