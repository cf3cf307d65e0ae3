use Rattle.std.proofs.Common.{ap, subst, ◌∙◌}
use Rattle.partition_core.specs.Kept.{Kept}
use Rattle.shared_partition.specs.Spelled.{AddsMessage}
use Rattle.shared_partition.proofs.Turns.{Taken, answered_message, message_goes_on}
use Rattle.shared_partition.proofs.shared.SharedPartition.try_serve.Goals as goal

pub returns-clause-served : goal.returns-clause-served
returns-clause-served c =
    let k = c.in_ok-held.held.value in
    let k' = c.serve_message-served.new.self in
    let turn : Taken c.args.pass.now c.try_turn.new.pass c.give.new.pass k k' = record {
      losses = c.args.pass.now.losses;
      takes = c.in_ok-held.ensures.taken;
      begins = c.in_ok-held.ensures.begins;
      rooted = c.in_ok-held.ensures.root;
      opening = c.serve_message-served.ensures.opening ∙ ap (λ (q : Kept). q.opening) c.value_mut.ensures.value;
      legal = c.serve_message-served.ensures.legal;
      same = c.give.ensures.same;
      added = c.give.ensures.added;
    } in
    answered_message c.args.pass.now c.try_turn.new.pass c.give.new.pass k k' turn c.args.message.now c.serve_message-served.result
    (subst (λ (q : Kept). AddsMessage q c.args.message.now c.serve_message-served.result k') c.value_mut.ensures.value c.serve_message-served.ensures.served)

pub returns-clause-pass : goal.returns-clause-pass
returns-clause-pass c = message_goes_on c.args.pass.now c.give.new.pass c.args.message.now c.serve_message-served.result (returns-clause-served c)
