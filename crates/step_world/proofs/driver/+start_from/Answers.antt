-- A wire that hears its number tells what it told before.
use Rattle.std.proofs.Common.{◌<◌, length, rules, ◌∙◌}
use Rattle.step_world.proofs.Handed.{process_at}
use Rattle.step_world.proofs.Places.{map_set_same}
use Rattle.step_world.proofs.driver.+start_from.Goals as goal

pub returns-then-at-sessions-clause-told : goal.returns-then-at-sessions-clause-told
returns-then-at-sessions-clause-told g t c =
    let less : c.args.at < length c.args.wires.now.items = search rules in
    c.start_from.ensures.told
    ∙ map_set_same _ c.args.wires.now.items c.args.at c.index_mut.result.now c.start.new.wire (process_at c.args.wires.now.items c.args.at c.index_mut.result.now less c.index_mut.ensures.value)
    (λ i. record { first = c.start.ensures.first i; round = c.start.ensures.round i })
