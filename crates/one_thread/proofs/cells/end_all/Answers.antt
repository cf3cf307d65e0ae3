use Rattle.one_thread.specs.Scaffold.Cells.{ended}
use Rattle.one_thread.proofs.Written.{written}
use Rattle.one_thread.proofs.cells.end_all.Goals as goal

pub loop-cell-preserved : goal.loop-cell-preserved
loop-cell-preserved c = written (ended c.args.commit) c.args.cells.now c.loop-cell.cells c.loop-cell.cell-index c.cell-item.result c.end.new.self c.loop-cell-test.true c.loop-cell.invariant c.end.ensures
