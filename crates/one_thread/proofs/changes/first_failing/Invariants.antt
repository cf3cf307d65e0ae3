use Rattle.std.proofs.Common.{◌≡◌, ◌+◌, drop}
use Rattle.sql_base.specs.OnRows.{failing_from, first_failing}
use Rattle.one_thread.proofs.changes.first_failing.Given as goal

-- what the CHECKs that are left say is what all say
abbrev pub invariant-loop-i : goal.invariant-loop-i
invariant-loop-i l = failing_from (l.i + 1) (drop l.i l.checks) l.row ≡ first_failing l.checks l.row
