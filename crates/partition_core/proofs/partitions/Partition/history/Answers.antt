use Rattle.std.proofs.Common.{subst}
use Rattle.partition_core.specs.Scaffold.Contents.{parts_of}
use Rattle.partition_core.specs.Kept.{AreMarked}
use Rattle.partition_core.proofs.Starving.{marks-above}
use Rattle.partition_core.proofs.partitions.Partition.history.Goals as goal

pub returns-clause-marked : goal.returns-clause-marked
returns-clause-marked c = subst AreMarked c.self.view_is (marks-above (parts_of c.self.inside.contents) c.self.invariant.serving)
