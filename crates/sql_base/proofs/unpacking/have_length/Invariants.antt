use Rattle.std.proofs.Common.{◌≡◌, ◌+◌, take}
use Rattle.std.specs.Prelude.{sum_by}
use Rattle.sql_base.specs.Rows.{width}
use Rattle.sql_base.proofs.unpacking.have_length.Given as goal

-- what is left of the length, and what the kinds so far take of it
abbrev pub invariant-loop-kind : goal.invariant-loop-kind
invariant-loop-kind l = l.left + sum_by width (take l.kind-index l.kinds) ≡ l.length
