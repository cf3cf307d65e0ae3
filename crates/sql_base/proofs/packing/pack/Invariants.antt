use Rattle.std.proofs.Common.{◌≡◌, take}
use Rattle.sql_base.specs.Rows.{packed}
use Rattle.sql_base.proofs.packing.pack.Given as goal

-- the columns so far are packed
abbrev pub invariant-loop-column : goal.invariant-loop-column
invariant-loop-column l = l.bytes.items ≡ packed (take l.column-index l.columns) l.values
