use Rattle.std.proofs.Common.{sym, ◌∙◌}
use Rattle.std.proofs.lemmas.Result.{on_ok_weaker}
use Rattle.outside.specs.Wire.{is_loss}
use Rattle.executor_pool.specs.Sessions.{seen}
use Rattle.executor_pool.proofs.Sending.{carried_told_on, lost_on, lost_told_on}
use Rattle.executor_pool.proofs.Stepping.{goes_after}
use Rattle.executor_pool.proofs.sessions.SessionJob.send.Goals as goal

pub returns-then-is_loss-clause-goes : goal.returns-then-is_loss-clause-goes
returns-then-is_loss-clause-goes g c =
    let out = c.in_ok-part in
    on_ok_weaker c.note_loss.result (lost_on g.Q.Requester.asking c.args.shared.now.processes.now.items c.args.shared.now.journal.now c.args.self.now c.post.new.self out.field-0 out.ensures c.in_ok-post.ensures.rest (seen g.Q.Requester.asking c.note_loss.new.self) c.in_ok-post.ensures.goes c.requires.going c.requires.turn) c.note_loss.ensures.lost

pub returns-then-is_loss-clause-told : goal.returns-then-is_loss-clause-told
returns-then-is_loss-clause-told g c =
    let out = c.in_ok-part in
    let loss = sym c.is_loss.ensures ∙ c.if-is_loss.true in
    on_ok_weaker c.note_loss.result (lost_told_on g.Q.Requester.asking c.args.shared.now.processes.now.items c.args.shared.now.journal.now c.args.self.now c.post.new.self out.field-0 out.ensures c.in_ok-post.ensures.rest (seen g.Q.Requester.asking c.note_loss.new.self) (is_loss c.args.passage) loss) c.note_loss.ensures.lost

pub returns-clause-goes : goal.returns-clause-goes
returns-clause-goes g c = on_ok_weaker c.await_reply.result (goes_after c.args.shared.now.processes.now.items c.args.shared.now.journal.now (seen g.Q.Requester.asking c.args.self.now) (seen g.Q.Requester.asking c.post.new.self) (seen g.Q.Requester.asking c.await_reply.new.self) c.in_ok-post.ensures.goes) c.await_reply.ensures.goes

pub returns-clause-told : goal.returns-clause-told
returns-clause-told g c =
    let out = c.in_ok-part in
    let loss = sym c.is_loss.ensures ∙ c.if-is_loss.false in
    on_ok_weaker c.await_reply.result (carried_told_on g.Q.Requester.asking c.args.shared.now.processes.now.items c.args.shared.now.journal.now c.args.self.now c.post.new.self out.field-0 out.ensures c.in_ok-post.ensures.rest (seen g.Q.Requester.asking c.await_reply.new.self) (is_loss c.args.passage) loss c.requires.session c.requires.going c.requires.turn) c.await_reply.ensures.told
