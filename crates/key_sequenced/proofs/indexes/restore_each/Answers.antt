use Rattle.std.proofs.Common.{arith}
use Rattle.std.proofs.lemmas.Grind.{common_steps}
use Rattle.std.proofs.lemmas.List.Edits.{map_over_more}
use Rattle.key_sequenced.specs.Cells.{restored}
use Rattle.key_sequenced.proofs.indexes.restore_each.Goals as goal

pub loop-block-preserved : goal.loop-block-preserved
loop-block-preserved c = grind (arith, common_steps, map_over_more (restored c.args.t))
