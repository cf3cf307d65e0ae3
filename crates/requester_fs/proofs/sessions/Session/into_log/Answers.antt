use Rattle.std.proofs.Common.{◌≡◌, [], ap, sym, subst}
use Rattle.session_grammar.specs.Follows.{in_line}
use Rattle.session_grammar.specs.UnderWay.{Awaiting, UnderWay}
use Rattle.requester_fs.specs.Asking.{Asking, next_at}
use Rattle.requester_fs.proofs.Keeping.{exact}
use Rattle.requester_fs.proofs.sessions.Session.into_log.Goals as goal

pub returns-clause-whole : goal.returns-clause-whole
returns-clause-whole c =
    let s = c.self.inside in
    let contract = exact s.script.now s.number s.parts s.sync s.stand s.log.items c.self.invariant in
    subst (λ (a : Asking). a.way ≡ Awaiting [] → in_line a.script a.number c.from_vec.result) c.self.view_is
    (λ none. subst (in_line s.script.now s.number) (sym c.from_vec.ensures) (contract.ends_where_whole.0 (ap (λ (w : UnderWay). next_at w 0) none)))
