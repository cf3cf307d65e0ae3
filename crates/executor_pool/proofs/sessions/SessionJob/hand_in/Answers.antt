use Rattle.std.proofs.Common.{rules, ◌<◌, length}
use Rattle.executor_pool.specs.Sessions.{seen}
use Rattle.executor_pool.proofs.AtParts.{handed_goes, of_part}
use Rattle.executor_pool.proofs.Sends.{part_within, spelled_out}
use Rattle.executor_pool.proofs.sessions.SessionJob.hand_in.Goals as goal

pub index_mut-requires : goal.index_mut-requires
index_mut-requires g c =
    let session = c.requires.session in
    let within : c.args.part < length c.args.self.now.tokens.items = (part_within session.0 c.args.shared.now.processes.now.items c.args.shared.now.journal.now (seen g.Q.Requester.asking c.args.self.now) session.1 c.args.part c.args.envelope.now.sync c.args.envelope.now.request c.requires.out.1).1 in
    search rules

pub serve_by_hand-requires-clause-tokens : goal.serve_by_hand-requires-clause-tokens
serve_by_hand-requires-clause-tokens g c =
    let session = c.requires.session in
    let within = (part_within session.0 c.args.shared.now.processes.now.items c.args.shared.now.journal.now (seen g.Q.Requester.asking c.args.self.now) session.1 c.args.part c.args.envelope.now.sync c.args.envelope.now.request c.requires.out.1).1 in
    of_part session.0 c.args.shared.now.processes.now.items c.args.shared.now.journal.now (seen g.Q.Requester.asking c.args.self.now) session.1 c.args.part within c.index-process.result.now c.index_mut.result.now c.index-process.ensures c.index_mut.ensures.value

pub serve_by_hand-requires-clause-spelled : goal.serve_by_hand-requires-clause-spelled
serve_by_hand-requires-clause-spelled g c =
    let session = c.requires.session in
    spelled_out session.0 c.args.shared.now.processes.now.items c.args.shared.now.journal.now (seen g.Q.Requester.asking c.args.self.now) session.1 c.args.part c.args.envelope.now c.requires.out

pub returns-clause-goes : goal.returns-clause-goes
returns-clause-goes g c =
    let session = c.requires.session in
    let within = (part_within session.0 c.args.shared.now.processes.now.items c.args.shared.now.journal.now (seen g.Q.Requester.asking c.args.self.now) session.1 c.args.part c.args.envelope.now.sync c.args.envelope.now.request c.requires.out.1).1 in
    handed_goes c.args.shared.now.processes.now.items c.args.shared.now.journal.now (seen g.Q.Requester.asking c.args.self.now) c.args.part c.index_mut.result.now c.serve_by_hand.new.self within c.index_mut.ensures.value c.args.envelope.now c.requires.out c.serve_by_hand.ensures
