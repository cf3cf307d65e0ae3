use Rattle.std.proofs.Common.{◌≡◌, false, ap, sym, ◌∙◌}
use Rattle.std.specs.Prelude.{max}
use Rattle.dp_messages.specs.declared.replies.Reply.TheVariants as reply
use Rattle.session_grammar.specs.Follows.{asker}
use Rattle.session_grammar.specs.declared.logs.Answer.TheVariants.{Reply}
use Rattle.session_laws.specs.Scaffold.Machine.{after_prepare, prepares_at, undone}
use Rattle.requester_fs.specs.Scaffold.Stages.{statements_of, trying_of}
use Rattle.requester_fs.proofs.Walks.{stands_at, stands_by}
use Rattle.requester_fs.proofs.walking.Planner.after_prepare.Goals as goal

pub returns-in_ok-stage-in-Some : goal.returns-in_ok-stage-in-Some
returns-in_ok-stage-in-Some c =
    let works = c.args.works.now in
    let s = c.args.stand.now in
    let script = c.args.self.now.script.now in
    let t = trying_of works s in
    let seen = c.in_ok-seen.seen in
    let parts = c.args.parts.now in
    let floor = c.args.floor in
    let own = c.in-Some.own in
    let answered : c.args.answer.now ≡ Reply (reply.Floor own) = c.floor_in.ensures.some own c.in-Some.is in
    stands_at script works (λ r. after_prepare r t s.seen parts floor c.args.answer.now) c.at.result s seen c.in_ok-stage-in-Some.stage c.at.ensures c.requires.stand.work c.requires.stand.first
    (c.in_ok-stage-in-Some.ensures.stage (statements_of works s))
    (λ number.
    let r = asker script number in
    c.in_ok-stage-in-Some.ensures.placed r t seen (statements_of works s)
    ∙ ap (λ ps. prepares_at t seen ps c.max-greatest.result) c.items-in-Some.ensures ∙ ap (prepares_at t seen parts) c.max-greatest.ensures
    ∙ ap (λ xs. prepares_at t xs parts (max floor own)) (c.in_ok-seen.ensures ∙ c.items.ensures)
    ∙ ap (after_prepare r t s.seen parts floor) (sym answered))

pub returns-in-None : goal.returns-in-None
returns-in-None c =
    let works = c.args.works.now in
    let s = c.args.stand.now in
    let script = c.args.self.now.script.now in
    let t = trying_of works s in
    stands_by c.undone.result script works (λ r. undone r t c.in_ok-seen.seen false) (λ r. after_prepare r t s.seen c.args.parts.now c.args.floor c.args.answer.now)
    (λ number. ap (λ xs. undone (asker script number) t xs false) (c.in_ok-seen.ensures ∙ c.items.ensures) ∙ c.floor_in.ensures.none c.in-None.is (asker script number) t s.seen c.args.parts.now c.args.floor)
    c.undone.ensures
