use Rattle.std.proofs.Common.{◌≡◌, take}
use Rattle.std.specs.List.{filter_map}
use Rattle.one_thread.specs.Scaffold.Cells.{now_of}
use Rattle.one_thread.proofs.worlds.Records.rows.Given as goal

-- the records so far
abbrev pub invariant-loop-cell : goal.invariant-loop-cell
invariant-loop-cell l = l.rows ≡ filter_map now_of (take l.cell-index l.self)
