use Rattle.std.proofs.Common.{◌∙◌}
use Rattle.statement_plans.proofs.Sents.{locks_more}
use Rattle.statement_plans.proofs.plans.lock_table.Goals as goal

pub loop-part-preserved : goal.loop-part-preserved
loop-part-preserved c =
    locks_more c.args.first c.args.mode c.loop-part.sents c.push.new.self c.loop-part.part c.from_vec.result c.in_ok-push.ensures.ok (c.from_vec.ensures ∙ c.new.ensures.items) c.loop-part.invariant
