use Rattle.std.proofs.Common.{◌≡◌, map}
use Rattle.executor_pool.proofs.returned.rights_of.Given as goal

-- the passes, posters and takers so far
abbrev pub invariant-loop-own : goal.invariant-loop-own
invariant-loop-own l = (l.passes.items ≡ map (λ t. t.pass) l.yielded) × (l.posters.items ≡ map (λ t. t.poster) l.yielded) × (l.takers.items ≡ map (λ t. t.taker) l.yielded)
