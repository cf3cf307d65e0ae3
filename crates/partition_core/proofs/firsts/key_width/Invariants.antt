use Rattle.std.proofs.Common.{◌≡◌, ◌+◌, drop}
use Rattle.std.specs.Prelude.{sum_by}
use Rattle.sql_base.specs.Rows.{key_kinds, key_width, width}
use Rattle.partition_core.proofs.firsts.key_width.Given as goal

-- with the columns that are left it is the whole width
abbrev pub invariant-loop-at : goal.invariant-loop-at
invariant-loop-at l = l.sum + sum_by width (drop l.at (key_kinds l.table)) ≡ key_width l.table
