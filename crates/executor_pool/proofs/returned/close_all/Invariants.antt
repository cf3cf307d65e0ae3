use Rattle.std.proofs.Common.{List, map}
use Rattle.std.specs.Vec.Iter.{into_iter_items}
use Rattle.executor_pool.specs.Closing.{AreReady}
use Rattle.executor_pool.specs.Dealing.{Opened}
use Rattle.executor_pool.proofs.Closings.{ClosedSoFar}
use Rattle.executor_pool.proofs.returned.close_all.Given as goal

-- the partitions that are closed so far, and those that are left
abbrev pub invariant-loop-process : goal.invariant-loop-process
invariant-loop-process l =
    (opened : List Opened) → AreReady l.fn.crew 0 opened l.fn.processes.items (map (λ list. list.items) l.fn.columns.items) l.fn.servers.items
    → ClosedSoFar l.fn.crew opened (map (λ list. list.items) l.fn.columns.items) (into_iter_items l.process-iterator) (map (λ list. list.items) (into_iter_items l.columns)) l.servers.items l.partitions.items
