use Rattle.std.proofs.Common.{List, ap, ◌∙◌}
use Rattle.sql_base.specs.declared.values.Value.{Value}
use Rattle.key_sequenced.specs.Cells.{find_cell}
use Rattle.key_sequenced.specs.Files.{loaded_cell, with_cell}
use Rattle.key_sequenced.specs.declared.Cell.{Cell}
use Rattle.key_sequenced.proofs.Laying.{laid-last}
use Rattle.partition_state.specs.State.{new_cell}
use Rattle.partition_core.proofs.Opened.{below, none-below}
use Rattle.partition_core.proofs.openings.load_row.Goals as goal

pub load-requires-clause-free : goal.load-requires-clause-free
load-requires-clause-free c =
    let cells = c.args.file.now.cells in
    let cell = new_cell c.args.table.now c.args.row.now in
    ap (λ (cs : List Cell). find_cell c.in_ok-key.key cs) c.in_ok-reserve.ensures.same
    ∙ ap (λ (k : List _). find_cell k cells) c.in_ok-key.ensures
    ∙ none-below cell.key cells (below cells cell c.requires.above)

pub returns : goal.returns
returns c =
    let cells = c.args.file.now.cells in
    let cell = new_cell c.args.table.now c.args.row.now in
    c.load.ensures.cells
    ∙ ap (with_cell (loaded_cell c.in_ok-key.key c.in_ok-copy.copy)) c.in_ok-reserve.ensures.same
    ∙ ap (λ k. with_cell (loaded_cell k c.in_ok-copy.copy) cells) c.in_ok-key.ensures
    ∙ ap (λ (row : List Value). with_cell (loaded_cell cell.key row) cells) c.in_ok-copy.ensures
    ∙ laid-last cell cells (below cells cell c.requires.above)
