use Rattle.requester_fs.proofs.walking.Planner.begin.Goals as goal

pub returns-in_ok-stage-in-None-clause-stage : goal.returns-in_ok-stage-in-None-clause-stage
returns-in_ok-stage-in-None-clause-stage c = c.in_ok-stage-in-None.ensures.stage c.args.work.now.statements
