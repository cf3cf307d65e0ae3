use Rattle.std.proofs.Common.{◌≡◌, take}
use Rattle.sql_base.specs.Rows.{chosen, kinds}
use Rattle.record_text.proofs.finished.kinds_of.Given as goal

-- the kinds of the columns so far
abbrev pub invariant-loop-column : goal.invariant-loop-column
invariant-loop-column l = l.found ≡ chosen (take l.column-index l.columns) (kinds l.table)
