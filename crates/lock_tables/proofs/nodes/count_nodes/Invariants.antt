use Rattle.std.proofs.Common.{◌≡◌, length, drop, ◌+◌, ◌*◌, ◌≤◌, ◌^◌}
use Rattle.lock_tables.specs.Nodes.{nodes}
use Rattle.lock_tables.proofs.nodes.count_nodes.Given as goal

-- those of the locks from here on are still to be counted
abbrev pub invariant-loop-at : goal.invariant-loop-at
invariant-loop-at l =
    (l.count + length (nodes (drop l.at l.locks)) ≡ length (nodes l.locks)) × (l.count ≤ l.at * 2 ^ 64)
