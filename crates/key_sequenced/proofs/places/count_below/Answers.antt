use Rattle.std.proofs.Common.{rules}
use Rattle.std.proofs.lemmas.List.Sorted.{IsPartitionPoint-from_clause}
use Rattle.sql_base.specs.Keys.{key_lt}
use Rattle.sql_base.proofs.KeyOrders.{lt-trans}
use Rattle.key_sequenced.proofs.Counts.{count-is, no_cell, parted}
use Rattle.key_sequenced.proofs.places.count_below.Goals as goal

pub returns-clause-below : goal.returns-clause-below
returns-clause-below c =
    let split = parted (λ k. key_lt k c.args.key.now) (λ a b h e. lt-trans a b c.args.key.now h e) c.args.cells.now c.requires in
    count-is no_cell (λ x. key_lt x.key c.args.key.now) c.args.cells.now c.partition_point.result c.partition_point.ensures.bound
    (IsPartitionPoint-from_clause (λ x. key_lt x.key c.args.key.now) _ _ c.partition_point.ensures.partitioned split (λ a r q k. search rules))
