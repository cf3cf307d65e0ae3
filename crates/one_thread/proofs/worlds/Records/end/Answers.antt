use Rattle.std.proofs.Common.{◌≡◌}
use Rattle.one_thread.proofs.Ending.{same_ended}
use Rattle.one_thread.proofs.worlds.Records.end.Goals as goal

pub invariant_of-self : goal.invariant_of-self
invariant_of-self c =
    let none : c.nowhere-self-inside.result.end ≡ 0 = c.nowhere-self-inside.ensures in
    rw (c.end_touched.ensures, none) (same_ended c.args.commit c.self.inside.cells.items c.nowhere-self-inside.result.first)
