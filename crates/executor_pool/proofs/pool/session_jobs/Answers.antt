use Rattle.std.proofs.Common.{rules, ◌≡◌, ◌+◌, ◌∷◌, None, length, map, refl, ap, arith}
use Rattle.std.specs.Vec.Iter.{into_iter_items}
use Rattle.executor_pool.proofs.Jobbing.{jobs_more, jobs_start}
use Rattle.executor_pool.proofs.pool.session_jobs.Goals as goal

pub loop-requester-init : goal.loop-requester-init
loop-requester-init g c = (jobs_start _ _ _ _ _ _ _ _ _ _ (search rules) (search rules) (search rules) (search rules) (search rules), search rules, search rules, search rules)

pub loop-requester-preserved : goal.loop-requester-preserved
loop-requester-preserved g c =
    let at = c.loop-requester in
    let wires : into_iter_items at.wires ≡ c.unwrap-wire.result ∷ into_iter_items c.next-in-loop-requester.new.self = search rules in
    let rows : into_iter_items at.tokens ≡ c.unwrap.result ∷ into_iter_items c.next-in-loop-requester-2.new.self = search rules in
    let passes : into_iter_items at.commits ≡ c.unwrap-in-loop-requester.result ∷ into_iter_items c.next-in-loop-requester-3.new.self = search rules in
    let others = ap length c.in-Some.ensures.steps.0 in
    let long_wires = ap length wires in
    let long_rows = ap length rows in
    let long_passes = ap length passes in
    let enough = at.invariant.1 in
    let of_rows = at.invariant.2 in
    let of_passes = at.invariant.3 in (
      jobs_more _ _ _ _ _ _ _ _ _ _ _ _ _ _ _ _ at.invariant.0 (record { number = at.number + 1; requester = c.in-Some.requester; losses = 0; tokens = c.unwrap.result; commits = c.unwrap-in-loop-requester.result; stop = None }) c.start.new.wire
          (record { at_work = c.in_ok-try_clone.field-0 }) _ c.in-Some.ensures.steps.0 (ap (map _) wires) (λ i. record { first = c.start.ensures.first i; round = c.start.ensures.round i }) (ap (map (λ row. row.items)) rows) passes refl refl refl c.in_ok-push.ensures.items,
      omega (arith, others, long_wires, enough),
      omega (arith, others, long_rows, of_rows),
      omega (arith, others, long_passes, of_passes),
    )
