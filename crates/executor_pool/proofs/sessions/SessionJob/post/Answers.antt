use Rattle.std.proofs.lemmas.Result.{on_ok_weaker}
use Rattle.executor_pool.specs.Sessions.{seen}
use Rattle.executor_pool.proofs.Stepping.{goes_after, goes_still}
use Rattle.executor_pool.proofs.sessions.SessionJob.post.Goals as goal

pub returns-in-LoseRequest-clause-goes : goal.returns-in-LoseRequest-clause-goes
returns-in-LoseRequest-clause-goes g c = goes_still c.args.shared.now.processes.now.items c.args.shared.now.journal.now (seen g.Q.Requester.asking c.args.self.now)

pub returns-in_ok-post_one-in-Repeat-clause-goes : goal.returns-in_ok-post_one-in-Repeat-clause-goes
returns-in_ok-post_one-in-Repeat-clause-goes g c =
    let twice = c.post_one-in-Repeat-2 in
    on_ok_weaker twice.result (goes_after c.args.shared.now.processes.now.items c.args.shared.now.journal.now (seen g.Q.Requester.asking c.args.self.now) (seen g.Q.Requester.asking c.post_one-in-Repeat.new.self) (seen g.Q.Requester.asking twice.new.self) c.in_ok-post_one-in-Repeat.ensures.goes) twice.ensures.goes
