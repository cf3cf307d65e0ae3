use Rattle.std.proofs.Common.{◌≡◌, length}
use Rattle.partition_cuts.proofs.Steps.{Lowers}
use Rattle.partition_cuts.proofs.below.just_below.Given as goal

-- the last bytes were 00 and are FF
abbrev pub invariant-loop-back : goal.invariant-loop-back
invariant-loop-back l = (length l.key.items ≡ l.n) × Lowers l.fn.key.items l.key.items l.back
