use Rattle.std.proofs.Common.{map, ap, sym, ◌∙◌}
use Rattle.std.proofs.lemmas.Simd.{map-map}
use Rattle.partition_core.specs.Kept.{rows_in}
use Rattle.step_world.specs.Scaffold.Seats.{seen}
use Rattle.step_world.proofs.ending.record.Goals as goal

pub returns-clause-kept : goal.returns-clause-kept
returns-clause-kept g c =
    let rows = c.in_ok-rows.ensures ∙ ap (λ processes. map (λ d. rows_in d.partition) processes) c.as_slice.ensures.value in
    let histories = c.in_ok-histories.ensures in
    let logs = c.in_ok-logs.ensures.logs ∙ sym (map-map (λ s. s.requester.log) (seen g.Q.Requester.asking) c.args.world.seats.items) in
    let journal = c.into_drawn.ensures.drawn in
    λ i. record { histories = histories i; rows = rows i; journal = journal i; logs = logs i; acts = c.args.world.acts }
