use Rattle.std.proofs.Common.{◌≡◌, map, length, take}
use Rattle.std.specs.List.{AllByRecursion}
use Rattle.key_sequenced.specs.Files.{IsSize}
use Rattle.key_sequenced.proofs.files.File.shape.Given as goal

-- the sizes of the blocks so far
abbrev pub invariant-loop-block : goal.invariant-loop-block
invariant-loop-block l = AllByRecursion IsSize l.sizes × (l.sizes ≡ map length (take l.block-index l.block-items))
