use Rattle.std.proofs.Common.{◌≡◌, drop, false, ap, sym, ◌∙◌, subst}
use Rattle.session_grammar.specs.Follows.{asker}
use Rattle.session_laws.specs.Scaffold.Machine.{behind, closing, next, statements_at}
use Rattle.requester_fs.specs.Scaffold.Stages.{IsStage, MayBeStage, out_of, placed, statements_of, trying_of}
use Rattle.requester_fs.proofs.Walks.{commit_here, stands_at, stands_by, statements_there}
use Rattle.requester_fs.proofs.walking.Planner.next_statement.Goals as goal

pub closed-requires-clause-stage : goal.closed-requires-clause-stage
closed-requires-clause-stage c = c.in_ok-stage-in-None.ensures.stage (statements_of c.args.works.now c.args.stand.now)

pub returns-in-Some : goal.returns-in-Some
returns-in-Some c =
    let works = c.args.works.now in
    let s = c.args.stand.now in
    let script = c.args.self.now.script.now in
    let t = trying_of works s in
    let there : c.items.result.now ≡ statements_of works s = c.items.ensures ∙ statements_there works s.work c.index-works-stand.result c.requires.stand.work c.index-works-stand.is in
    let staged = subst (MayBeStage s.ordinal c.items.result.now) c.in-Some.is c.in_ok-stage.ensures.stage in
    stands_at script works (λ r. statements_at r t c.args.seen (drop c.args.from (statements_of works s)) (next r t)) c.at.result s c.args.seen c.in-Some.stage c.at.ensures c.requires.stand.work c.requires.stand.first
    (subst (λ ss. IsStage s.ordinal ss c.in-Some.stage) there staged)
    (λ number.
    let r = asker script number in
    ap (out_of r t c.args.seen (statements_of works s) (next r t)) (sym c.in-Some.is)
    ∙ subst (λ ss. out_of r t c.args.seen ss (next r t) c.in_ok-stage.field-0 ≡ statements_at r t c.args.seen (drop c.args.from ss) (next r t)) there (c.in_ok-stage.ensures.placed number t c.args.seen (next r t)))

pub returns-in_ok-stage-in-None : goal.returns-in_ok-stage-in-None
returns-in_ok-stage-in-None c =
    let works = c.args.works.now in
    let s = c.args.stand.now in
    let script = c.args.self.now.script.now in
    let t = trying_of works s in
    let seen = c.args.seen in
    let there : c.items.result.now ≡ statements_of works s = c.items.ensures ∙ statements_there works s.work c.index-works-stand.result c.requires.stand.work c.index-works-stand.is in
    let shut = c.in_ok-stage-in-None.stage in
    stands_by c.closed.result script works (λ r. placed r t seen (statements_of works s) (behind r t false) shut) (λ r. statements_at r t seen (drop c.args.from (statements_of works s)) (next r t))
    (λ number.
    let r = asker script number in
    ap (λ xs. placed r t xs (statements_of works s) (next r t) shut) (sym c.items-in-None.ensures)
    ∙ c.in_ok-stage-in-None.ensures.placed number t (statements_of works s) (next r t)
    ∙ ap (λ xs. closing r t xs c.index-works-stand.result.commit (next r t)) c.items-in-None.ensures
    ∙ ap (λ b. closing r t seen b (next r t)) (commit_here works s.work c.index-works-stand.result c.requires.stand.work c.index-works-stand.is)
    ∙ ap (out_of r t seen (statements_of works s) (next r t)) (sym c.in-None.is)
    ∙ subst (λ ss. out_of r t seen ss (next r t) c.in_ok-stage.field-0 ≡ statements_at r t seen (drop c.args.from ss) (next r t)) there (c.in_ok-stage.ensures.placed number t seen (next r t)))
    c.closed.ensures
