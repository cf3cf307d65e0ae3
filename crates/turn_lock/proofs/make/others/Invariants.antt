use Rattle.std.proofs.Common.{◌≡◌, ◌-◌, map}
use Rattle.std.specs.List.{range_with_len}
use Rattle.turn_lock.specs.Pass.{lock_id, new_pass}
use Rattle.turn_lock.proofs.make.others.Given as goal

abbrev pub invariant-loop-number : goal.invariant-loop-number
invariant-loop-number g l =
    (l.first.table_id ≡ l.fn.first.table_id)
    × (l.first.me ≡ l.fn.first.me)
    × (l.list.items ≡ map (new_pass (lock_id l.shared.table_id l.opening.passes) (g.V.StandsFor.root l.opening.value.value)) (range_with_len 1 (l.number - 1)))
