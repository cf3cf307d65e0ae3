use Rattle.std.proofs.Common.{rules, ◌<◌, length}
use Rattle.executor_pool.specs.Sessions.{seen}
use Rattle.executor_pool.proofs.AtParts.{in_processes, of_part, served_goes}
use Rattle.executor_pool.proofs.sessions.SessionJob.serve_one.Goals as goal

pub index-process-requires : goal.index-process-requires
index-process-requires g c =
    let session = c.requires.session in
    let within : c.args.part < length c.args.shared.now.processes.now.items = in_processes session.0 c.args.shared.now.processes.now.items c.args.shared.now.journal.now (seen g.Q.Requester.asking c.args.self.now) session.1 c.args.part c.requires.part in
    search rules

pub serve_one-requires : goal.serve_one-requires
serve_one-requires g c =
    let session = c.requires.session in
    of_part session.0 c.args.shared.now.processes.now.items c.args.shared.now.journal.now (seen g.Q.Requester.asking c.args.self.now) session.1 c.args.part c.requires.part c.index-process.result.now c.index_mut.result.now c.index-process.ensures c.index_mut.ensures.value

pub returns-then-not-serve_one-clause-goes : goal.returns-then-not-serve_one-clause-goes
returns-then-not-serve_one-clause-goes g c =
    served_goes c.args.shared.now.processes.now.items c.args.shared.now.journal.now (seen g.Q.Requester.asking c.args.self.now) c.args.part c.index_mut.result.now c.serve_one.new.self c.requires.part c.index_mut.ensures.value c.serve_one.ensures

pub returns-else-not-serve_one-clause-goes : goal.returns-else-not-serve_one-clause-goes
returns-else-not-serve_one-clause-goes g c =
    served_goes c.args.shared.now.processes.now.items c.args.shared.now.journal.now (seen g.Q.Requester.asking c.args.self.now) c.args.part c.index_mut.result.now c.serve_one.new.self c.requires.part c.index_mut.ensures.value c.serve_one.ensures
