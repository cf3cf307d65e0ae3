use Rattle.std.proofs.Common.{◌≡◌, map, take}
use Rattle.one_thread.specs.Scaffold.Loading.{cell_of}
use Rattle.one_thread.specs.One.{load_rows}
use Rattle.one_thread.proofs.loading.load_table.Given as goal

-- the loads so far
abbrev pub invariant-loop-load : goal.invariant-loop-load
invariant-loop-load l = l.cells.items ≡ map (cell_of l.table) (load_rows (take l.load-index l.loads) l.place)
