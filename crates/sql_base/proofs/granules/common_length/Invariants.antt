use Rattle.std.proofs.Common.{◌≡◌, ◌+◌, drop}
use Rattle.std.specs.Prelude.{nat_eq}
use Rattle.std.specs.List.{common_prefix_len}
use Rattle.sql_base.proofs.granules.common_length.Given as goal

-- as many as so far, and what is left of both has in common
abbrev pub invariant-loop-at : goal.invariant-loop-at
invariant-loop-at l = l.at + common_prefix_len nat_eq (drop l.at l.a) (drop l.at l.b) ≡ common_prefix_len nat_eq l.a l.b
