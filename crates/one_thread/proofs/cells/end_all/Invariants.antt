use Rattle.std.proofs.Common.{◌≡◌}
use Rattle.one_thread.specs.Scaffold.Cells.{ended}
use Rattle.one_thread.proofs.Written.{so_far}
use Rattle.one_thread.proofs.cells.end_all.Given as goal

-- the cells so far are ended
abbrev pub invariant-loop-cell : goal.invariant-loop-cell
invariant-loop-cell l = l.cells ≡ so_far (ended l.commit) l.fn.cells l.cell-index
