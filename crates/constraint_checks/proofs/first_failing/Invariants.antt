use Rattle.std.proofs.Common.{◌≡◌, ◌+◌, drop, map}
use Rattle.sql_base.specs.OnRows.{failing_from, first_failing}
use Rattle.constraint_checks.specs.Judging.{tree_of}
use Rattle.constraint_checks.proofs.first_failing.Given as goal

-- what the CHECKs that are left say is what all say
abbrev pub invariant-loop-i : goal.invariant-loop-i
invariant-loop-i l = failing_from (l.i + 1) (map tree_of (drop l.i l.checks)) l.row ≡ first_failing (map tree_of l.checks) l.row
