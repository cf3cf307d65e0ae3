use Rattle.std.proofs.Common.{◌≡◌, ◌<◌, length}
use Rattle.std.specs.Vec.Iter.{into_iter_items}
use Rattle.quantum_runner.specs.Scaffold.Plans.{granted_by, rewritten_by}
use Rattle.quantum_runner.proofs.stores.carry_out.Given as goal

-- the rest of the changes gives what all give, and there is room for it
abbrev pub invariant-loop-plan : goal.invariant-loop-plan
invariant-loop-plan l =
    (rewritten_by (into_iter_items l.plan-iterator) l.store.file.cells ≡ rewritten_by l.fn.plans l.fn.store.file.cells)
    × (granted_by (into_iter_items l.plan-iterator) l.store.locks.locks ≡ granted_by l.fn.plans l.fn.store.locks.locks)
    × (length (into_iter_items l.plan-iterator) < l.store.locks.spare)
