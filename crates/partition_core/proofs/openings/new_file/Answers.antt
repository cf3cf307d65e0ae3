use Rattle.std.proofs.Common.{◌++◌, ◌∷◌, [], List, sym, subst}
use Rattle.key_sequenced.specs.Cells.{AreCells}
use Rattle.key_sequenced.specs.declared.Cell.{Cell}
use Rattle.partition_state.specs.State.{new_cell}
use Rattle.partition_core.proofs.Opened.{rise-more}
use Rattle.partition_core.proofs.openings.new_file.Goals as goal

pub load_row-requires-clause-above : goal.load_row-requires-clause-above
load_row-requires-clause-above c =
    let table = c.args.table.now in
    let row = c.row-item.result in
    subst (λ (cells : List Cell). AreCells (cells ++ new_cell table row ∷ [])) (sym c.loop-row.invariant) (rise-more table c.args.rows.now c.loop-row.row-index row c.loop-row-test.true c.row-item.is c.requires.rows.1)
