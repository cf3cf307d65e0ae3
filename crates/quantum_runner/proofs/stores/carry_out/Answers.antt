use Rattle.std.proofs.Common.{length, sym, ap, ◌∙◌, arith}
use Rattle.std.specs.Vec.Iter.{into_iter_items}
use Rattle.quantum_runner.specs.Scaffold.Plans.{granted_by, rewritten_by}
use Rattle.quantum_runner.proofs.stores.carry_out.Goals as goal

pub make-requires : goal.make-requires
make-requires c = let at = c.loop-plan.invariant in omega (arith, at.2)

pub loop-plan-preserved : goal.loop-plan-preserved
loop-plan-preserved c =
    let at = c.loop-plan.invariant in
    let rest = into_iter_items c.next.new.self in
    let next = c.in-Some.ensures.steps.0 in (
      ap (rewritten_by rest) c.make.ensures.cells ∙ sym (ap (λ plans. rewritten_by plans c.loop-plan.store.file.cells) next) ∙ at.0,
      ap (granted_by rest) c.make.ensures.locks ∙ sym (ap (λ plans. granted_by plans c.loop-plan.store.locks.locks) next) ∙ at.1,
      omega (arith, at.2, ap length next, c.make.ensures.room),
    )
