use Rattle.std.proofs.Common.{◌≡◌, ◌++◌, map, take, drop}
use Rattle.key_sequenced.specs.Cells.{restored}
use Rattle.key_sequenced.proofs.indexes.restore_each.Given as goal

-- the blocks before have ended
abbrev pub invariant-loop-block : goal.invariant-loop-block
invariant-loop-block l = l.block-items ≡ map (restored l.t) (take l.block-index l.fn.blocks.items) ++ drop l.block-index l.fn.blocks.items
