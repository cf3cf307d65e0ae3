use Rattle.std.proofs.Common.{rules, ◌<◌, length}
use Rattle.executor_pool.specs.Sessions.{seen}
use Rattle.executor_pool.proofs.AtParts.{awaited_sync, awaited_within, heard_at, of_part, served_goes}
use Rattle.executor_pool.proofs.sessions.SessionJob.hear.Goals as goal

pub index_mut-requires : goal.index_mut-requires
index_mut-requires g c =
    let session = c.requires.session in
    let within : c.args.part < length c.args.self.now.tokens.items = awaited_within session.0 c.args.shared.now.processes.now.items c.args.shared.now.journal.now (seen g.Q.Requester.asking c.args.self.now) session.1 c.args.part c.args.sync c.requires.awaits in
    search rules

pub hear-requires-clause-tokens : goal.hear-requires-clause-tokens
hear-requires-clause-tokens g c =
    let session = c.requires.session in
    let within = awaited_within session.0 c.args.shared.now.processes.now.items c.args.shared.now.journal.now (seen g.Q.Requester.asking c.args.self.now) session.1 c.args.part c.args.sync c.requires.awaits in
    of_part session.0 c.args.shared.now.processes.now.items c.args.shared.now.journal.now (seen g.Q.Requester.asking c.args.self.now) session.1 c.args.part within c.index-process.result.now c.index_mut.result.now c.index-process.ensures c.index_mut.ensures.value

pub hear-requires-clause-sync : goal.hear-requires-clause-sync
hear-requires-clause-sync g c =
    let session = c.requires.session in
    awaited_sync session.0 c.args.shared.now.processes.now.items c.args.shared.now.journal.now (seen g.Q.Requester.asking c.args.self.now) session.1 c.args.part c.args.sync c.requires.awaits

pub returns-clause-goes : goal.returns-clause-goes
returns-clause-goes g c =
    let session = c.requires.session in
    let within = awaited_within session.0 c.args.shared.now.processes.now.items c.args.shared.now.journal.now (seen g.Q.Requester.asking c.args.self.now) session.1 c.args.part c.args.sync c.requires.awaits in
    served_goes c.args.shared.now.processes.now.items c.args.shared.now.journal.now (seen g.Q.Requester.asking c.args.self.now) c.args.part c.index_mut.result.now c.hear.new.self within c.index_mut.ensures.value c.hear.ensures.left

pub returns-clause-heard : goal.returns-clause-heard
returns-clause-heard g c =
    let session = c.requires.session in
    let within = awaited_within session.0 c.args.shared.now.processes.now.items c.args.shared.now.journal.now (seen g.Q.Requester.asking c.args.self.now) session.1 c.args.part c.args.sync c.requires.awaits in
    heard_at c.args.self.now.tokens.items c.args.part c.args.self.now.number c.args.sync c.hear.new.self c.hear.result within c.hear.ensures.heard
