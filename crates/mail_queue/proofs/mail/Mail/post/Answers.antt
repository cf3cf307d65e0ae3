use Rattle.std.proofs.Common.{length, ap, ◌∙◌, arith}
use Rattle.std.proofs.lemmas.Result.{MatchResult-weaker}
use Rattle.mail_queue.proofs.Keeps.{posts, moments, has_number}
use Rattle.mail_queue.proofs.Whole.{only_poster}
use Rattle.mail_queue.proofs.mail.Mail.post.Goals as goal

pub push_as-requires-clause-rule : goal.push_as-requires-clause-rule
push_as-requires-clause-rule g c = (posts _ _ _ _ _ (has_number _ _ c.poster.invariant.posters), moments _ _ _)

pub returns-clause-only_poster : goal.returns-clause-only_poster
returns-clause-only_poster g c =
    let token = c.poster.inside in
    let crew = ap (λ mail. mail.posters) (ap (λ poster. poster.mail) c.poster.view_is ∙ c.requires.mail) in
    MatchResult-weaker c.push_as.result c.push_as.ensures.rule (λ _ _. tt) (λ back told one.
    let bound = only_poster g.M.Letter.spelling token.number _ token.pass c.poster.invariant (crew ∙ one) told.2 in
    let posted = ap (λ poster. length poster.posted) c.poster.view_is in
    omega (arith, c.self.invariant.0))
