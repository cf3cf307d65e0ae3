use Rattle.std.proofs.Common.{◌≡◌, is_some, sym, subst, arith}
use Rattle.std.specs.List.{list_any}
use Rattle.key_sequenced.specs.Blocks.{IsMarked}
use Rattle.key_sequenced.specs.Cells.{restored}
use Rattle.key_sequenced.proofs.Writers.{ended-free, marked-found}
use Rattle.key_sequenced.proofs.blocks.Block.restore.Goals as goal

pub invariant_of-self : goal.invariant_of-self
invariant_of-self c =
    let cells = c.restore.new.cells.items in (
      omega (arith, c.restore.ensures.len, c.self.invariant.0),
      rw c.restore.ensures.capacity c.self.invariant.1,
      subst (λ b. IsMarked b cells) (sym c.is_written-self-inside.ensures) (subst (λ xs. IsMarked (list_any (λ x. is_some x.writer) xs) cells) (sym c.deref.ensures.value) (marked-found cells)),
    )

pub returns-else-self : goal.returns-else-self
returns-else-self c =
    let same : restored c.args.t c.self.inside.cells.items ≡ c.self.inside.cells.items = ended-free c.args.t (λ x. x.was) c.self.inside.cells.items (c.self.invariant.2 c.if-self.false) in
    subst (λ xs. xs ≡ restored c.args.t xs) c.self.view_is (sym same)
