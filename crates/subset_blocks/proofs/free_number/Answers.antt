use Rattle.std.proofs.Common.{arith, sym, ◌∙◌}
use Rattle.subset_blocks.proofs.FreeNumbers.{search-found, search-more}
use Rattle.subset_blocks.proofs.free_number.Goals as goal

pub returns-then-not-has_number : goal.returns-then-not-has_number
returns-then-not-has_number g c =
    search-found c.args.blocks.now c.loop-below.below (omega arith) c.loop-below.invariant (sym c.has_number.ensures ∙ c.if-not-has_number.true)

pub loop-below-preserved : goal.loop-below-preserved
loop-below-preserved g c = search-more c.args.blocks.now c.loop-below.below (omega arith) c.loop-below.invariant (sym c.has_number.ensures ∙ c.if-not-has_number.false)
