use Rattle.std.proofs.Common.{sym, ap, ◌∙◌, ◌++◌, ◌-◌, ◌+◌, filter}
use Rattle.std.specs.List.{range_with_len}
use Rattle.session_laws.specs.Scaffold.Machine.{has_seen}
use Rattle.session_laws.proofs.Ranges.{kept, passed}
use Rattle.requester_fs.proofs.closings.in_order.Goals as goal
use Rattle.requester_fs.proofs.closings.in_order.Goals.{then-has_seen+in_ok-push, else-has_seen}

pub loop-part-preserved : goal.loop-part-preserved
loop-part-preserved c =
    let f = has_seen c.args.seen.now in
    let rest = filter f (range_with_len (c.loop-part.part + 1) (c.args.parts - (c.loop-part.part + 1))) in
    let all = filter f (range_with_len 0 c.args.parts) in
    elim c.if-has_seen.branch [
      | then-has_seen+in_ok-push w ↦
          ap (λ xs. xs ++ rest) (w.list-is ∙ w.in_ok-push.ensures.ok) ∙ kept f c.loop-part.part c.args.parts c.loop-part-test.true c.loop-part.list all c.loop-part.invariant (sym w.if-has_seen.ensures)
      | else-has_seen w ↦
          ap (λ xs. xs ++ rest) w.list-is ∙ passed f c.loop-part.part c.args.parts c.loop-part-test.true c.loop-part.list all c.loop-part.invariant (sym w.if-has_seen.ensures)
    ]
