use Rattle.std.proofs.Common.{◌≡◌, ◌++◌, List, Ok, map}
use Rattle.std.specs.List.{flat_map}
use Rattle.std.specs.Vec.Iter.{into_iter_items}
use Rattle.executor_pool.specs.Closing.{server_in, session_in}
use Rattle.executor_pool.specs.declared.jobs.Done.{Done}
use Rattle.executor_pool.proofs.returned.take_back.Given as goal

-- what was handed back so far
abbrev pub invariant-loop-done : goal.invariant-loop-done
invariant-loop-done g l =
    (dones : List (Done g.row.Q.Denot)) × (map Ok dones ++ into_iter_items l.done-iterator ≡ l.fn.ended.items) × (l.returned.sessions.items ≡ flat_map session_in dones) × (l.returned.servers.items ≡ flat_map server_in dones)
