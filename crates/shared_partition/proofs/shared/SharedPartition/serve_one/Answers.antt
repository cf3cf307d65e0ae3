use Rattle.std.proofs.Common.{ap, subst, ◌∙◌}
use Rattle.partition_core.specs.Kept.{Kept}
use Rattle.shared_partition.specs.Spelled.{AddsMessage}
use Rattle.shared_partition.proofs.Turns.{Taken, answered_message, message_goes_on}
use Rattle.shared_partition.proofs.shared.SharedPartition.serve_one.Goals as goal

pub returns-clause-served : goal.returns-clause-served
returns-clause-served g c =
    let k = c.turn-held.result.value in
    let k' = c.serve_message-served.new.self in
    let turn : Taken c.args.pass.now c.turn-held.new.pass c.give.new.pass k k' = record {
      losses = c.turn-held.new.pass.losses;
      takes = c.turn-held.ensures.taken;
      begins = c.turn-held.ensures.begins;
      rooted = c.turn-held.ensures.root;
      opening = c.serve_message-served.ensures.opening ∙ ap (λ (q : Kept). q.opening) c.value_mut.ensures.value;
      legal = c.serve_message-served.ensures.legal;
      same = c.give.ensures.same;
      added = c.give.ensures.added;
    } in
    let served = answered_message c.args.pass.now c.turn-held.new.pass c.give.new.pass k k' turn c.in-Some.message c.serve_message-served.result (subst (λ (q : Kept). AddsMessage q c.in-Some.message c.serve_message-served.result k') c.value_mut.ensures.value c.serve_message-served.ensures.served) in
    (c.in-Some.message, c.in-Some.ensures.taken, served)

pub returns-clause-pass : goal.returns-clause-pass
returns-clause-pass g c = let one = returns-clause-served g c in message_goes_on c.args.pass.now c.give.new.pass one.0 c.serve_message-served.result one.2
