use Rattle.std.proofs.Common.{◌≡◌, ◌+◌, ◌-◌, length}
use Rattle.std.specs.Prelude.{find, not, ◌==◌}
use Rattle.std.specs.List.{list_any, range_with_len}
use Rattle.subset_blocks.proofs.free_number.Given as goal

-- none of the numbers before is free
abbrev pub invariant-loop-below : goal.invariant-loop-below
invariant-loop-below g l =
    find (λ n. not (list_any (λ b. b.number == n) l.blocks)) (range_with_len 1 (length l.blocks + 1))
    ≡ find (λ n. not (list_any (λ b. b.number == n) l.blocks)) (range_with_len (l.below + 1) (length l.blocks + 1 - l.below))
