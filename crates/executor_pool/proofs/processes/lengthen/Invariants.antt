use Rattle.std.proofs.Common.{◌≡◌, ◌++◌, length, map}
use Rattle.std.specs.Vec.Iter.{into_iter_items}
use Rattle.executor_pool.specs.Dealing.{lengthened}
use Rattle.executor_pool.proofs.processes.lengthen.Given as goal

-- the longer lists so far, and those that the rest makes
abbrev pub invariant-loop-list : goal.invariant-loop-list
invariant-loop-list l =
    (goal.iterator-loop-list).can_next l.list-iterator × (goal.iterator-loop-list).is_finite l.list-iterator
    × (map (λ list. list.items) l.longer.items ++ lengthened (map (λ list. list.items) (into_iter_items l.list-iterator)) (into_iter_items l.more) ≡ lengthened (map (λ list. list.items) l.fn.lists.items) l.fn.more.items)
    × (length (into_iter_items l.more) ≡ length (into_iter_items l.list-iterator))
