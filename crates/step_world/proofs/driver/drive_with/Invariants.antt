use Rattle.std.proofs.Common.{length, map}
use Rattle.driver_laws.specs.Carrying.{Telling}
use Rattle.step_world.specs.Scaffold.Measures.{actions_left}
use Rattle.step_world.proofs.Running.{IsRun}
use Rattle.step_world.proofs.driver.drive_with.Given as goal

-- the run so far
abbrev pub invariant-loop-world : goal.invariant-loop-world
invariant-loop-world g l =
    IsRun g.Q.Requester.asking g.Q.Requester.single g.Q.Requester.allows
    (record { script = l.fn.script; choices = l.fn.schedule; told = map {B = Telling} (λ w. record { first = (goal.Wire-dyn g (w.vtable, w.value)).first w.value; round = (goal.Wire-dyn g (w.vtable, w.value)).round w.value }) l.fn.wires.items })
    l.fn.requesters.items (map {B = Telling} (λ w. record { first = (goal.Wire-dyn g (w.vtable, w.value)).first w.value; round = (goal.Wire-dyn g (w.vtable, w.value)).round w.value }) l.wires.items) (length l.wires.items) l.world

-- what its sessions and partitions may still do
abbrev pub decreases-loop-world : goal.decreases-loop-world
decreases-loop-world g l = actions_left g.Q.Requester.left l.fn.script l.world
