use Rattle.std.proofs.Common.{◌≡◌, ◌++◌, map}
use Rattle.std.specs.List.{range_with_len}
use Rattle.std.specs.Vec.Iter.{into_iter_items}
use Rattle.executor_pool.specs.Closing.{column}
use Rattle.executor_pool.proofs.returned.take_apart.Given as goal

-- the parts of the sessions so far
abbrev pub invariant-loop-session : goal.invariant-loop-session
invariant-loop-session g l =
    (map (λ list. list.items) l.columns.items ≡ map (column (map (λ s. s.tokens.items) l.yielded)) (range_with_len 0 l.fn.parts)) × (l.commits.items ≡ map (λ s. s.commits) l.yielded) × (l.requesters.items ≡ map (λ s. s.requester) l.yielded)
    × (l.fn.sessions.items ≡ l.yielded ++ into_iter_items l.session-iterator)
