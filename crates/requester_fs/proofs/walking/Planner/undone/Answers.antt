use Rattle.requester_fs.specs.Scaffold.Stages.{statements_of}
use Rattle.requester_fs.proofs.walking.Planner.undone.Goals as goal

pub closed-requires-clause-stage : goal.closed-requires-clause-stage
closed-requires-clause-stage c = c.in_ok-stage.ensures.stage (statements_of c.args.works.now c.args.stand.now)
