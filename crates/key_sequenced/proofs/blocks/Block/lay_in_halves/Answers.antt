use Rattle.std.proofs.Common.{◌≡◌, ◌++◌, ap, sym, ◌∙◌, subst, arith}
use Rattle.key_sequenced.specs.Blocks.{begins_by}
use Rattle.key_sequenced.specs.Cells.{AreCells}
use Rattle.key_sequenced.specs.Files.{with_cell}
use Rattle.key_sequenced.proofs.Belonging.{above-half, below-half, cells-back, cells-front}
use Rattle.key_sequenced.proofs.Joining.{laid-before, laid-behind, laid-some}
use Rattle.key_sequenced.proofs.Writers.{marked-back, marked-front}
use Rattle.key_sequenced.proofs.blocks.Block.lay_in_halves.Goals as goal

pub lay-requires-clause-cells : goal.lay-requires-clause-cells
lay-requires-clause-cells c =
    let both : c.halve.new.full.items ++ c.halve.new.behind.items ≡ c.args.self.now = c.halve.ensures.cells ∙ c.self.view_is in
    cells-back c.halve.new.full.items c.halve.new.behind.items (subst AreCells (sym both) c.requires.cells)

pub lay-requires-else-begins_by-clause-cells : goal.lay-requires-else-begins_by-clause-cells
lay-requires-else-begins_by-clause-cells c =
    let both : c.halve.new.full.items ++ c.halve.new.behind.items ≡ c.args.self.now = c.halve.ensures.cells ∙ c.self.view_is in
    cells-front c.halve.new.full.items c.halve.new.behind.items (subst AreCells (sym both) c.requires.cells)

pub returns-then-begins_by-clause-cells : goal.returns-then-begins_by-clause-cells
returns-then-begins_by-clause-cells c =
    let full = c.halve.new.full.items in
    let behind = c.halve.new.behind.items in
    let both : full ++ behind ≡ c.args.self.now = c.halve.ensures.cells ∙ c.self.view_is in
    let begins = ap (λ k. begins_by k behind) (sym c.bytes.ensures) ∙ sym c.begins_by.ensures ∙ c.if-begins_by.true in
    let below = below-half c.args.cell.key full behind (subst AreCells (sym both) c.requires.cells) begins in
    ap (λ cs. full ++ cs) c.lay.ensures ∙ sym (laid-behind c.args.cell full behind below) ∙ ap (with_cell c.args.cell) both

pub returns-else-begins_by-clause-cells : goal.returns-else-begins_by-clause-cells
returns-else-begins_by-clause-cells c =
    let full = c.halve.new.full.items in
    let behind = c.halve.new.behind.items in
    let both : full ++ behind ≡ c.args.self.now = c.halve.ensures.cells ∙ c.self.view_is in
    let begins = ap (λ k. begins_by k behind) (sym c.bytes.ensures) ∙ sym c.begins_by.ensures ∙ c.if-begins_by.false in
    let above = above-half c.args.cell.key full behind (subst AreCells (sym both) c.requires.cells) begins in
    ap (λ cs. cs ++ behind) c.lay-else-begins_by.ensures ∙ sym (laid-before c.args.cell full behind above) ∙ ap (with_cell c.args.cell) both

pub returns-else-begins_by-clause-front : goal.returns-else-begins_by-clause-front
returns-else-begins_by-clause-front c = rw c.lay-else-begins_by.ensures (laid-some c.args.cell c.halve.new.full.items)

pub invariant_of-self : goal.invariant_of-self
invariant_of-self c = (
  omega (arith, c.halve.ensures.front),
  rw c.halve.ensures.capacity c.self.invariant.1,
  marked-front c.self.inside.written c.halve.new.full.items c.halve.new.behind.items c.self.inside.cells.items c.halve.ensures.cells c.self.invariant.2,
)

pub invariant_of-self-else-begins_by : goal.invariant_of-self-else-begins_by
invariant_of-self-else-begins_by c = (
  omega (arith, c.halve.ensures.front),
  rw c.halve.ensures.capacity c.self.invariant.1,
  marked-front c.self.inside.written c.halve.new.full.items c.halve.new.behind.items c.self.inside.cells.items c.halve.ensures.cells c.self.invariant.2,
)

pub invariant_of-behind : goal.invariant_of-behind
invariant_of-behind c = (
  omega (arith, c.halve.ensures.back),
  omega (arith, c.halve.ensures.capacity_behind, c.behind.invariant.1),
  marked-back c.self.inside.written c.halve.new.full.items c.halve.new.behind.items c.self.inside.cells.items c.halve.ensures.cells c.self.invariant.2,
)
