use Rattle.std.proofs.Common.{◌≡◌, ◌++◌, map}
use Rattle.executor_pool.proofs.returned.with_servers.Given as goal

-- the passes and takers so far
abbrev pub invariant-loop-server : goal.invariant-loop-server
invariant-loop-server l = (l.passes.items ≡ l.fn.rights.passes.items ++ map (λ s. s.pass) l.yielded) × (l.takers.items ≡ l.fn.rights.takers.items ++ map (λ s. s.taker) l.yielded)
