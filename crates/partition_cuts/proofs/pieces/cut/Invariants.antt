use Rattle.std.proofs.Common.{◌≡◌}
use Rattle.std.specs.Prelude.{filter_map}
use Rattle.std.specs.List.{range_with_len}
use Rattle.partition_map.specs.Map.{piece_of}
use Rattle.partition_cuts.proofs.pieces.cut.Given as goal

-- the pieces of the partitions so far
abbrev pub invariant-loop-part : goal.invariant-loop-part
invariant-loop-part l = l.pieces ≡ filter_map (piece_of l.table l.range) (range_with_len 0 l.part)
