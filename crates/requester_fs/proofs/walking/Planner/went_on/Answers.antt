use Rattle.std.proofs.Common.{◌≡◌, ◌<◌, ◌+◌, ◌^◌, length, drop, None, Some, refl, ap, sym, ◌∙◌, subst, arith}
use Rattle.std.specs.Prelude.{slice_get, IfSome}
use Rattle.dp_messages.specs.Spelling.{IsAsk}
use Rattle.session_grammar.specs.Follows.{asker}
use Rattle.session_grammar.specs.declared.plans.Sent.{Sent}
use Rattle.session_laws.specs.Scaffold.Machine.{At, next, statements_at, went_on}
use Rattle.requester_fs.specs.Scaffold.Stages.{IsStage, doing_of, plan_at, sents_behind, statements_behind, statements_of, trying_of}
use Rattle.requester_fs.proofs.Walks.{sent_none, sent_open, stands_at, stands_by, statements_here}
use Rattle.requester_fs.proofs.walking.Planner.went_on.Goals as goal
use Rattle.session_grammar.specs.Plans.{sents_of}

pub sent_at-requires-clause-there : goal.sent_at-requires-clause-there
sent_at-requires-clause-there c =
    let there = c.items-statements.ensures ∙ statements_here c.args.works.now c.args.stand.now.work c.index-works-stand.result c.requires.stand.work in
    omega (arith, ap length there, c.requires.turn.1)

pub returns-in-Some : goal.returns-in-Some
returns-in-Some c =
    let works = c.args.works.now in
    let s = c.args.stand.now in
    let u = c.args.turn.now in
    let script = c.args.self.now.script.now in
    let t = trying_of works s in
    let statements = statements_of works s in
    let there : c.items-statements.result.now ≡ statements = c.items-statements.ensures ∙ statements_here works s.work c.index-works-stand.result c.requires.stand.work in
    let sent = c.in-Some.sent in
    let spelled = subst (λ o. IfSome o (λ (x : Sent). IsAsk x.ask)) c.in-Some.is c.in_ok-sent.ensures.spelled in
    let room = subst (λ o. IfSome o (λ (x : Sent). u.sent + 1 + 1 < 2 ^ 64)) c.in-Some.is c.in_ok-sent.ensures.room in
    stands_at script works (λ r. went_on r t c.args.seen u.subset (sents_behind r statements u) (statements_behind statements u)) c.at.result s c.args.seen c.turn-stage.result c.at.ensures c.requires.stand.work c.requires.stand.first
    (subst (IsStage s.ordinal statements) (sym c.turn-stage.ensures) (refl, c.requires.turn.1, c.requires.turn.2, room, spelled))
    (λ number.
    let r = asker script number in
    let found : slice_get (sents_of (plan_at r statements u.statement)) (u.sent + 1) ≡ Some sent =
    ap (λ ss. slice_get (sents_of (plan_at r ss u.statement)) (u.sent + 1)) (sym there) ∙ sym (c.in_ok-sent.ensures.sent number) ∙ c.in-Some.is in
    ap (λ st. At t c.args.seen (doing_of r statements st)) c.turn-stage.ensures
    ∙ sent_open r t c.args.seen statements u.statement (u.sent + 1) u.subset sent (statements_at r t c.args.seen (statements_behind statements u) (next r t)) found)

pub returns-in-None : goal.returns-in-None
returns-in-None c =
    let works = c.args.works.now in
    let s = c.args.stand.now in
    let u = c.args.turn.now in
    let script = c.args.self.now.script.now in
    let t = trying_of works s in
    let statements = statements_of works s in
    let there : c.items-statements.result.now ≡ statements = c.items-statements.ensures ∙ statements_here works s.work c.index-works-stand.result c.requires.stand.work in
    stands_by c.next_statement.result script works (λ r. statements_at r t c.args.seen (drop (u.statement + 1) statements) (next r t))
    (λ r. went_on r t c.args.seen u.subset (sents_behind r statements u) (statements_behind statements u))
    (λ number.
    let r = asker script number in
    let found : slice_get (sents_of (plan_at r statements u.statement)) (u.sent + 1) ≡ None =
    ap (λ ss. slice_get (sents_of (plan_at r ss u.statement)) (u.sent + 1)) (sym there) ∙ sym (c.in_ok-sent.ensures.sent number) ∙ c.in-None.is in
    sym (sent_none r t c.args.seen statements u.statement (u.sent + 1) u.subset (statements_at r t c.args.seen (statements_behind statements u) (next r t)) found))
    c.next_statement.ensures
