use Rattle.std.proofs.Common.{◌≡◌, [], map}
use Rattle.std.specs.List.{range_with_len}
use Rattle.executor_pool.proofs.processes.no_tokens.Given as goal

-- so many lists with nothing in them
abbrev pub invariant-loop : goal.invariant-loop
invariant-loop l = map (λ row. row.items) l.rows.items ≡ map (λ n. []) (range_with_len 0 l.counter)
