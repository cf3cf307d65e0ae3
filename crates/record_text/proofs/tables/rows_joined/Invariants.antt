use Rattle.std.proofs.Common.{◌≡◌, ◌++◌, drop}
use Rattle.record_text.specs.Scaffold.Reading.{rows_joined}
use Rattle.record_text.proofs.tables.rows_joined.Given as goal

-- the rows of the partitions that are left come behind
abbrev pub invariant-loop-part : goal.invariant-loop-part
invariant-loop-part l = rows_joined l.parts ≡ l.rows ++ rows_joined (drop l.part-index l.parts)
