use Rattle.step_world.proofs.Chosen.{told_at}
use Rattle.step_world.proofs.driver.pass_at.Goals as goal

pub returns : goal.returns
returns g c = told_at _ c.args.wires.now.items c.args.at c.index_mut.result.now c.pass.new.wire c.pass.result c.requires c.index_mut.ensures.value c.pass.ensures.answer c.pass.ensures.same_round
