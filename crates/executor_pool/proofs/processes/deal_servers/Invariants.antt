use Rattle.std.proofs.Common.{◌≡◌, ◌++◌, length}
use Rattle.std.specs.Vec.Iter.{into_iter_items}
use Rattle.executor_pool.specs.Dealing.{manned}
use Rattle.executor_pool.proofs.processes.deal_servers.Given as goal

-- the servers so far, and those that the rest makes
abbrev pub invariant-loop-pass : goal.invariant-loop-pass
invariant-loop-pass l =
    (goal.iterator-loop-pass).can_next l.pass-iterator × (goal.iterator-loop-pass).is_finite l.pass-iterator
    × (l.servers.items ++ manned l.fn.part (into_iter_items l.pass-iterator) (into_iter_items l.takers) ≡ manned l.fn.part l.fn.passes.items l.fn.takers.items)
    × (length (into_iter_items l.takers) ≡ length (into_iter_items l.pass-iterator))
