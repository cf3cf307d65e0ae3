use Rattle.std.proofs.Common.{◌≡◌, take}
use Rattle.std.specs.List.{list_any}
use Rattle.sql_base.specs.Locks.{covers}
use Rattle.lock_tables.specs.Runs.{IsNode}
use Rattle.lock_tables.proofs.rows.is_covered.Given as goal

-- the run is the node of the bytes so far, and has a cover where there is one
abbrev pub invariant-loop-depth : goal.invariant-loop-depth
invariant-loop-depth l = IsNode (take l.depth l.prefix) l.run × (list_any (λ own. covers own l.wanted) l.run ≡ list_any (λ own. covers own l.wanted) l.locks)
