use Rattle.std.proofs.Common.{◌≡◌, subst}
use Rattle.session_grammar.specs.Sessions.{IsSessionOf}
use Rattle.requester_fs.specs.Asking.{Asking, places_of}
use Rattle.requester_fs.specs.Asking.{working}
use Rattle.requester_fs.proofs.Keeping.{exact, one}
use Rattle.requester_fs.proofs.sessions.Session.next.Goals as goal

pub returns-in-Some-clause-one : goal.returns-in-Some-clause-one
returns-in-Some-clause-one c =
    let s = c.self.inside in
    subst (λ (a : Asking). places_of a.way ≡ 1) c.self.view_is (one s.script.now s.number s.parts s.sync s.stand s.log.items c.self.invariant)

pub returns-in-Some-clause-exact : goal.returns-in-Some-clause-exact
returns-in-Some-clause-exact c =
    let s = c.self.inside in
    subst (λ (a : Asking). IsSessionOf a.script a.number (working a)) c.self.view_is (exact s.script.now s.number s.parts s.sync s.stand s.log.items c.self.invariant)

pub returns-in-None-clause-exact : goal.returns-in-None-clause-exact
returns-in-None-clause-exact c =
    let s = c.self.inside in
    subst (λ (a : Asking). IsSessionOf a.script a.number (working a)) c.self.view_is (exact s.script.now s.number s.parts s.sync s.stand s.log.items c.self.invariant)
