use Rattle.std.proofs.Common.{[], rules}
use Rattle.std.proofs.lemmas.List.Sorted.{IsPartitionPoint-from_clause}
use Rattle.key_sequenced.specs.Blocks.{begins_by}
use Rattle.key_sequenced.proofs.Belonging.{parted_blocks}
use Rattle.key_sequenced.proofs.Counts.{count-is}
use Rattle.key_sequenced.proofs.indexes.count_begun.Goals as goal

pub returns-clause-begun : goal.returns-clause-begun
returns-clause-begun c =
    count-is [] (begins_by c.args.key.now) c.args.blocks.now c.partition_point.result c.partition_point.ensures.bound
    (IsPartitionPoint-from_clause (begins_by c.args.key.now) _ _ c.partition_point.ensures.partitioned (parted_blocks c.args.key.now c.args.blocks.now c.requires) (λ a r q k. search rules))
