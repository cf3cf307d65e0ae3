use Rattle.std.proofs.Common.{sym, ◌∙◌}
use Rattle.std.proofs.lemmas.Result.{on_ok_weaker}
use Rattle.executor_pool.specs.Sessions.{seen}
use Rattle.executor_pool.proofs.Taking.{misfit_goes, reply_comes, reply_goes, reply_told}
use Rattle.executor_pool.proofs.sessions.SessionJob.take_reply.Goals as goal

pub returns-then-not-fits-clause-goes : goal.returns-then-not-fits-clause-goes
returns-then-not-fits-clause-goes g c = λ processes journal script is. misfit_goes script processes journal (seen g.Q.Requester.asking c.args.self.now) is c.args.reply c.requires.heard (sym c.fits.ensures ∙ c.if-not-fits.true)

pub take-requires-clause-comes : goal.take-requires-clause-comes
take-requires-clause-comes g c =
    let session = c.requires.session in
    reply_comes session.0 session.1 session.2 (seen g.Q.Requester.asking c.args.self.now) session.3 c.requires.going c.args.reply c.requires.heard (sym c.fits.ensures ∙ c.if-not-fits.false)

pub returns-clause-goes : goal.returns-clause-goes
returns-clause-goes g c =
    on_ok_weaker c.take.result (λ answered processes journal script is. reply_goes script processes journal (seen g.Q.Requester.asking c.args.self.now) is c.requires.going c.args.reply (seen g.Q.Requester.asking c.take.new.self) c.requires.heard answered) c.take.ensures.answered

pub returns-clause-told : goal.returns-clause-told
returns-clause-told g c =
    on_ok_weaker c.take.result (reply_told (seen g.Q.Requester.asking c.args.self.now) c.args.reply (seen g.Q.Requester.asking c.take.new.self) c.requires.heard) c.take.ensures.answered
