use Rattle.std.proofs.Common.{All, sym, subst}
use mathlib.Core.List.{IsPrefix}
use Rattle.partition_core.specs.Kept.{Kept}
use Rattle.shared_partition.specs.Sharing.{PartitionPass}
use Rattle.shared_partition.proofs.shared.SharedPartition.close_with.Goals as goal

pub returns-clause-begins : goal.returns-clause-begins
returns-clause-begins c = subst (λ (q : Kept). All (λ (p : PartitionPass). IsPrefix p.seen q.history) c.args.passes.items) (sym c.into_partition.ensures) c.close_with.ensures.begins
