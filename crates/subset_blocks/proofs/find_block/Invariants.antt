use Rattle.std.proofs.Common.{◌≡◌, drop}
use Rattle.subset_blocks.specs.Blocks.{find_block}
use Rattle.subset_blocks.proofs.find_block.Given as goal

-- none of those before is the one
abbrev pub invariant-loop-numbered : goal.invariant-loop-numbered
invariant-loop-numbered g l = find_block l.number l.holder l.blocks ≡ find_block l.number l.holder (drop l.numbered-index l.blocks)
