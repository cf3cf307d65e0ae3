use Rattle.std.proofs.Common.{rules}
use Rattle.std.proofs.lemmas.List.Sorted.{IsPartitionPoint-from_clause}
use Rattle.sql_base.specs.Keys.{key_le}
use Rattle.sql_base.proofs.KeyOrders.{key_le-trans, le_from_lt}
use Rattle.key_sequenced.proofs.Counts.{count-is, no_cell, parted}
use Rattle.key_sequenced.proofs.places.count_up_to.Goals as goal

pub returns-clause-up_to : goal.returns-clause-up_to
returns-clause-up_to c =
    let split = parted (λ k. key_le k c.args.key.now) (λ a b h e. key_le-trans a b c.args.key.now (le_from_lt a b h) e) c.args.cells.now c.requires in
    count-is no_cell (λ x. key_le x.key c.args.key.now) c.args.cells.now c.partition_point.result c.partition_point.ensures.bound
    (IsPartitionPoint-from_clause (λ x. key_le x.key c.args.key.now) _ _ c.partition_point.ensures.partitioned split (λ a r q k. search rules))
