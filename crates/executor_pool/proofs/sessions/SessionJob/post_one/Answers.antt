use Rattle.std.proofs.Common.{rules, ◌<◌, length}
use Rattle.executor_pool.specs.Sessions.{seen}
use Rattle.executor_pool.proofs.AtParts.{of_part, posted_goes}
use Rattle.executor_pool.proofs.Sends.{part_within}
use Rattle.executor_pool.proofs.sessions.SessionJob.post_one.Goals as goal

pub index_mut-requires : goal.index_mut-requires
index_mut-requires g c =
    let session = c.requires.session in
    let within : c.args.part < length c.args.self.now.tokens.items = (part_within session.0 c.args.shared.now.processes.now.items c.args.shared.now.journal.now (seen g.Q.Requester.asking c.args.self.now) session.1 c.args.part c.args.envelope.now.sync c.args.envelope.now.request c.requires.out.1).1 in
    search rules

pub post-requires : goal.post-requires
post-requires g c =
    let session = c.requires.session in
    let within = (part_within session.0 c.args.shared.now.processes.now.items c.args.shared.now.journal.now (seen g.Q.Requester.asking c.args.self.now) session.1 c.args.part c.args.envelope.now.sync c.args.envelope.now.request c.requires.out.1).1 in
    of_part session.0 c.args.shared.now.processes.now.items c.args.shared.now.journal.now (seen g.Q.Requester.asking c.args.self.now) session.1 c.args.part within c.index-process.result.now c.index_mut.result.now c.index-process.ensures c.index_mut.ensures.value

pub returns-clause-goes : goal.returns-clause-goes
returns-clause-goes g c =
    let session = c.requires.session in
    let within = (part_within session.0 c.args.shared.now.processes.now.items c.args.shared.now.journal.now (seen g.Q.Requester.asking c.args.self.now) session.1 c.args.part c.args.envelope.now.sync c.args.envelope.now.request c.requires.out.1).1 in
    posted_goes c.args.shared.now.processes.now.items c.args.shared.now.journal.now (seen g.Q.Requester.asking c.args.self.now) c.args.part c.index_mut.result.now c.post.new.self within c.index_mut.ensures.value c.args.envelope.now c.in_ok-message.message c.in_ok-message.ensures c.requires.out c.post.ensures
