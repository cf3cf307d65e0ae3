use Rattle.std.proofs.Common.{map}
use Rattle.one_thread.specs.Scaffold.Cells.{ended}
use Rattle.one_thread.proofs.Written.{written}
use Rattle.one_thread.proofs.worlds.end_world.Goals as goal

pub loop-records-preserved : goal.loop-records-preserved
loop-records-preserved c =
    written (map (ended c.args.commit)) c.args.world.now c.loop-records.world c.loop-records.records-index c.records-item.result c.end.new.self c.loop-records-test.true c.loop-records.invariant c.end.ensures
