use Rattle.std.proofs.Common.{◌≡◌, take}
use Rattle.one_thread.specs.One.{load_rows}
use Rattle.partition_openings.proofs.openings.loaded_rows.Given as goal

-- the rows of the loads so far
abbrev pub invariant-loop-load : goal.invariant-loop-load
invariant-loop-load l = l.rows ≡ load_rows (take l.load-index l.loads) l.table
