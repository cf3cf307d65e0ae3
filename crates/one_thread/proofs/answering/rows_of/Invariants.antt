use Rattle.std.proofs.Common.{◌≡◌, map, take}
use Rattle.one_thread.specs.Scaffold.Cells.{nows}
use Rattle.one_thread.proofs.answering.rows_of.Given as goal

-- the tables so far
abbrev pub invariant-loop-records : goal.invariant-loop-records
invariant-loop-records l = l.rows.items ≡ map nows (take l.records-index l.world)
