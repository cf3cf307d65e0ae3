use Rattle.std.proofs.Common.{◌≡◌, map, take}
use Rattle.partition_core.proofs.openings.copy_kinds.Given as goal

-- the kinds so far
abbrev pub invariant-loop-column : goal.invariant-loop-column
invariant-loop-column l = l.copy ≡ map (λ column. column.kind) (take l.column-index l.column-items)
