use Rattle.std.proofs.Common.{◌≡◌, ℕ, Option, sym, subst}
use Rattle.std.specs.Prelude.{IfNone, IfSome}
use Rattle.std.proofs.lemmas.Result.{on_ok_weaker}
use Rattle.executor_pool.specs.Jobs.{Refuses}
use Rattle.executor_pool.specs.Sessions.{HasDrawn, seen}
use Rattle.executor_pool.proofs.Taking.{drawn_goes, drawn_told, refused_goes}
use Rattle.executor_pool.proofs.sessions.SessionJob.draw.Goals as goal

pub returns-in-Some-clause-goes : goal.returns-in-Some-clause-goes
returns-in-Some-clause-goes g c =
    let next = c.commit-floor.result in
    let drawn = subst (λ (o : Option ℕ). IfSome o (λ stamp. HasDrawn next.0 next.1 stamp c.args.self.now.commits c.draw.new.pass)) c.in-Some.is c.in_ok-stamp.ensures.drawn in
    on_ok_weaker c.take.result (λ answered processes script is. drawn_goes script processes c.args.journal.now (seen g.Q.Requester.asking c.args.self.now) is c.requires.going next.0 next.1 c.in-Some.stamp c.draw.new.pass (seen g.Q.Requester.asking c.take.new.self) (sym c.commit-floor.ensures) c.draw.ensures.pass drawn answered) c.take.ensures.answered

pub returns-in-Some-clause-told : goal.returns-in-Some-clause-told
returns-in-Some-clause-told g c =
    let session = c.requires.session in
    let next = c.commit-floor.result in
    on_ok_weaker c.take.result (drawn_told session.0 session.1 c.args.journal.now (seen g.Q.Requester.asking c.args.self.now) session.2 c.requires.going next.0 next.1 c.in-Some.stamp c.draw.new.pass (seen g.Q.Requester.asking c.take.new.self) (sym c.commit-floor.ensures)) c.take.ensures.answered

pub returns-in-None-clause-goes : goal.returns-in-None-clause-goes
returns-in-None-clause-goes g c = λ processes script is.
    let next = c.commit-floor.result in
    let refused = subst (λ (o : Option ℕ). IfNone o (Refuses c.draw.new.pass.seen next.0 next.1)) c.in-None.is c.in_ok-stamp.ensures.refused in
    let none = subst (λ (o : Option ℕ). IfNone o (c.draw.new.pass.mine ≡ c.args.self.now.commits.mine)) c.in-None.is c.in_ok-stamp.ensures.none in
    refused_goes script processes c.args.journal.now (seen g.Q.Requester.asking c.args.self.now) is next.0 next.1 c.draw.new.pass (sym c.commit-floor.ensures) c.draw.ensures.pass none refused c.requires.going
