use Rattle.std.proofs.Common.{◌≡◌, length, drop}
use Rattle.std.specs.Prelude.{replicate}
use Rattle.std.specs.Cmp.Lexicographic.{slice_cmp}
use Rattle.std.specs.Ordering.{nat_cmp}
use Rattle.partition_cuts.proofs.parts.compare_blanks.Given as goal

-- blanks so far, so the rest decides
abbrev pub invariant-loop-byte : goal.invariant-loop-byte
invariant-loop-byte l = slice_cmp nat_cmp (replicate (length l.rest) 32) l.rest ≡ slice_cmp nat_cmp (replicate (length (drop l.byte-index l.rest)) 32) (drop l.byte-index l.rest)
