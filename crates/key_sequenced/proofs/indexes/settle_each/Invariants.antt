use Rattle.std.proofs.Common.{◌≡◌, ◌++◌, map, take, drop}
use Rattle.key_sequenced.specs.Cells.{cells_settled}
use Rattle.key_sequenced.proofs.indexes.settle_each.Given as goal

-- the blocks before have ended
abbrev pub invariant-loop-block : goal.invariant-loop-block
invariant-loop-block l = l.block-items ≡ map (cells_settled l.t) (take l.block-index l.fn.blocks.items) ++ drop l.block-index l.fn.blocks.items
