use Rattle.std.proofs.Common.{◌≡◌, map}
use Rattle.one_thread.specs.Scaffold.Cells.{ended}
use Rattle.one_thread.proofs.Written.{so_far}
use Rattle.one_thread.proofs.worlds.end_world.Given as goal

-- the tables so far are ended
abbrev pub invariant-loop-records : goal.invariant-loop-records
invariant-loop-records l = l.world ≡ so_far (map (ended l.commit)) l.fn.world l.records-index
