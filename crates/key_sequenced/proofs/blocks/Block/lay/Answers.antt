use Rattle.std.proofs.Common.{◌<◌, length, sym, subst, arith}
use Rattle.key_sequenced.specs.Blocks.{most_cells, IsMarked}
use Rattle.key_sequenced.specs.Files.{with_cell}
use Rattle.key_sequenced.proofs.Writers.{marked-laid}
use Rattle.key_sequenced.proofs.blocks.Block.lay.Goals as goal

pub invariant_of-self : goal.invariant_of-self
invariant_of-self c =
    let before = c.self.inside.cells.items in
    let mark = subst (λ b. IsMarked b (with_cell c.args.cell before)) (sym c.marked-self-inside.ensures) (marked-laid c.self.inside.written c.args.cell before c.self.invariant.2) in
    let room : length before < most_cells = subst (λ cells. length cells < most_cells) (sym c.self.view_is) c.requires.room in
    (omega (arith, c.lay.ensures.one, room, c.self.inside.cells.ok.0), rw c.lay.ensures.capacity c.self.invariant.1, subst (IsMarked c.marked-self-inside.result) (sym c.lay.ensures.items) mark)
