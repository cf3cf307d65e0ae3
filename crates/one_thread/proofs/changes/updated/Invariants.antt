use Rattle.std.proofs.Common.{◌≡◌, drop}
use Rattle.sql_base.specs.OnRows.{assigned, updated}
use Rattle.one_thread.proofs.changes.updated.Given as goal

-- the SETs that are left make of the row so far what all make of the old one
abbrev pub invariant-loop-set : goal.invariant-loop-set
invariant-loop-set l = assigned l.table l.row (drop l.set-index l.sets) l.values.items ≡ updated l.table l.sets l.row
