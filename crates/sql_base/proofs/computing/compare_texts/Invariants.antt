use Rattle.std.proofs.Common.{◌≡◌, max, length, drop}
use Rattle.std.specs.Ordering.{nat_cmp}
use Rattle.std.specs.Cmp.Lexicographic.{slice_cmp}
use Rattle.sql_base.specs.Rows.{padded}
use Rattle.sql_base.specs.Val.{text_cmp}
use Rattle.sql_base.proofs.computing.compare_texts.Given as goal

-- what is left of the padded texts compares as the whole
abbrev pub invariant-loop-i : goal.invariant-loop-i
invariant-loop-i l = let n = max (length l.a) (length l.b) in slice_cmp nat_cmp (drop l.i (padded n l.a)) (drop l.i (padded n l.b)) ≡ text_cmp l.a l.b
