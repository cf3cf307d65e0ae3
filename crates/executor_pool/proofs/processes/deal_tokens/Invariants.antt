use Rattle.std.proofs.Common.{◌≡◌, ◌++◌, length}
use Rattle.std.specs.Vec.Iter.{into_iter_items}
use Rattle.executor_pool.specs.Dealing.{bundled}
use Rattle.executor_pool.proofs.processes.deal_tokens.Given as goal

-- the tokens so far, and those that the rest makes
abbrev pub invariant-loop-pass : goal.invariant-loop-pass
invariant-loop-pass l =
    (goal.iterator-loop-pass).can_next l.pass-iterator × (goal.iterator-loop-pass).is_finite l.pass-iterator
    × (l.tokens.items ++ bundled (into_iter_items l.pass-iterator) (into_iter_items l.posters) (into_iter_items l.takers) ≡ bundled l.fn.passes.items l.fn.posters.items l.fn.takers.items)
    × (length (into_iter_items l.posters) ≡ length (into_iter_items l.pass-iterator)) × (length (into_iter_items l.takers) ≡ length (into_iter_items l.pass-iterator))
