use Rattle.requester_fs.specs.Scaffold.Stages.{statements_of}
use Rattle.requester_fs.proofs.walking.Planner.after_stamp.Goals as goal

pub closed-requires-clause-stage : goal.closed-requires-clause-stage
closed-requires-clause-stage c = c.in_ok-stage-in-Stamp.ensures.stage (statements_of c.args.works.now c.args.stand.now)
