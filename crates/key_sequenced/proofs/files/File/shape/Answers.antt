use Rattle.std.proofs.Common.{◌≡◌, length, map, take, sum, ap, ◌∙◌, arith}
use Rattle.std.proofs.lemmas.Grind.{common_steps}
use Rattle.key_sequenced.specs.Blocks.{joined}
use Rattle.key_sequenced.specs.Files.{Held}
use Rattle.key_sequenced.proofs.Joining.{sizes-sum}
use Rattle.key_sequenced.proofs.files.File.shape.Goals as goal

pub returns-clause-sum : goal.returns-clause-sum
returns-clause-sum c =
    let blocks = c.deref-block-items.result.now in
    let all : take c.loop-block.block-index blocks ≡ blocks = grind (arith, common_steps, c.loop-block-test.false) in
    ap sum (c.loop-block.invariant.1 ∙ ap (map length) all) ∙ sizes-sum blocks ∙ ap (λ bs. length (joined bs)) c.deref-block-items.ensures.value
    ∙ ap (λ (h : Held). length h.cells) c.self.view_is
