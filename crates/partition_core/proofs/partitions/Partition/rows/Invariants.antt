use Rattle.std.proofs.Common.{◌≡◌, ◌++◌, map}
use Rattle.std.specs.Prelude.{filter_map}
use Rattle.partition_core.proofs.partitions.Partition.rows.Given as goal

-- the rows of the cells so far
abbrev pub invariant-loop-cell : goal.invariant-loop-cell
invariant-loop-cell l =
    goal.iterator-loop-cell.can_next l.cell-iterator × goal.iterator-loop-cell.is_finite l.cell-iterator
    × (map (λ x. x.now) l.yielded ++ l.cell-iterator ≡ l.self.now.cells)
    × (l.rows.items ≡ filter_map (λ cell. cell.now) (map (λ x. x.now) l.yielded))
