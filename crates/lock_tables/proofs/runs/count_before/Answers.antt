use Rattle.std.proofs.Common.{nat_lt, rules}
use Rattle.std.proofs.lemmas.List.Sorted.{IsPartitionedBy-ltb, IsPartitionPoint-from_clause}
use Rattle.lock_tables.specs.Runs.{branch}
use Rattle.lock_tables.proofs.Counting.{back-kept, front-kept}
use Rattle.lock_tables.proofs.runs.count_before.Goals as goal

pub returns-clause-front : goal.returns-clause-front
returns-clause-front c =
    front-kept (λ l. nat_lt (branch c.args.depth l) c.args.bound) c.args.run.now c.partition_point.result c.partition_point.ensures.bound
    (IsPartitionPoint-from_clause (λ l. nat_lt (branch c.args.depth l) c.args.bound) _ _ c.partition_point.ensures.partitioned (IsPartitionedBy-ltb (branch c.args.depth) c.args.run.now c.args.bound c.requires) (λ a r q k. search rules))

pub returns-clause-back : goal.returns-clause-back
returns-clause-back c =
    back-kept (λ l. nat_lt (branch c.args.depth l) c.args.bound) c.args.run.now c.partition_point.result c.partition_point.ensures.bound
    (IsPartitionPoint-from_clause (λ l. nat_lt (branch c.args.depth l) c.args.bound) _ _ c.partition_point.ensures.partitioned (IsPartitionedBy-ltb (branch c.args.depth) c.args.run.now c.args.bound c.requires) (λ a r q k. search rules))
