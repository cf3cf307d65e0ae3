use Rattle.std.proofs.Common.{length, refl, ap, sym, ◌∙◌, subst}
use Rattle.std.specs.Prelude.{slice_get, IfSome}
use Rattle.std.proofs.lemmas.Option.{slice_get_read}
use Rattle.dp_messages.specs.Spelling.{IsAsk}
use Rattle.session_grammar.specs.declared.plans.Sent.{Sent}
use Rattle.session_laws.specs.Scaffold.Machine.{are_subsets}
use Rattle.requester_fs.proofs.Walks.{planned_is, planned_spelled}
use Rattle.requester_fs.proofs.walking.Planner.sent_at.Goals as goal
use Rattle.session_grammar.specs.Plans.{sents_of}

pub returns-in-Subsets-clause-subset : goal.returns-in-Subsets-clause-subset
returns-in-Subsets-clause-subset c number =
    let script = c.args.self.now.script.now in
    let statements = c.args.statements.now in
    let s = c.index-statements-statement.result in
    let here = slice_get_read statements (length statements) c.args.statement s refl c.requires.there c.index-statements-statement.is in
    ap are_subsets (sym c.in-Subsets.is ∙ planned_is script statements c.args.statement s here c.in_ok-sents.field-0 (λ r is. c.in_ok-sents.ensures r (is ∙ sym c.items.ensures)) number)

pub returns-in-Subsets-clause-sent : goal.returns-in-Subsets-clause-sent
returns-in-Subsets-clause-sent c number =
    let script = c.args.self.now.script.now in
    let statements = c.args.statements.now in
    let s = c.index-statements-statement.result in
    let here = slice_get_read statements (length statements) c.args.statement s refl c.requires.there c.index-statements-statement.is in
    c.taken.ensures.sent ∙ ap (λ p. slice_get (sents_of p) c.args.sent)
    (sym c.in-Subsets.is ∙ planned_is script statements c.args.statement s here c.in_ok-sents.field-0 (λ r is. c.in_ok-sents.ensures r (is ∙ sym c.items.ensures)) number)

pub returns-in-Subsets-clause-spelled : goal.returns-in-Subsets-clause-spelled
returns-in-Subsets-clause-spelled c =
    let script = c.args.self.now.script.now in
    let statements = c.args.statements.now in
    let s = c.index-statements-statement.result in
    let here = slice_get_read statements (length statements) c.args.statement s refl c.requires.there c.index-statements-statement.is in
    let all = planned_spelled script statements c.args.statement s here c.in_ok-sents.field-0 (λ r is. c.in_ok-sents.ensures r (is ∙ sym c.items.ensures)) c.args.sent c.requires.planner.is_script c.requires.suit in
    subst (λ o. IfSome o (λ (sent : Sent). IsAsk sent.ask)) (sym (c.taken.ensures.sent ∙ ap (λ p. slice_get (sents_of p) c.args.sent) (sym c.in-Subsets.is))) all

pub returns-in-Singles-clause-subset : goal.returns-in-Singles-clause-subset
returns-in-Singles-clause-subset c number =
    let script = c.args.self.now.script.now in
    let statements = c.args.statements.now in
    let s = c.index-statements-statement.result in
    let here = slice_get_read statements (length statements) c.args.statement s refl c.requires.there c.index-statements-statement.is in
    ap are_subsets (sym c.in-Singles.is ∙ planned_is script statements c.args.statement s here c.in_ok-sents.field-0 (λ r is. c.in_ok-sents.ensures r (is ∙ sym c.items.ensures)) number)

pub returns-in-Singles-clause-sent : goal.returns-in-Singles-clause-sent
returns-in-Singles-clause-sent c number =
    let script = c.args.self.now.script.now in
    let statements = c.args.statements.now in
    let s = c.index-statements-statement.result in
    let here = slice_get_read statements (length statements) c.args.statement s refl c.requires.there c.index-statements-statement.is in
    c.taken-in-Singles.ensures.sent ∙ ap (λ p. slice_get (sents_of p) c.args.sent)
    (sym c.in-Singles.is ∙ planned_is script statements c.args.statement s here c.in_ok-sents.field-0 (λ r is. c.in_ok-sents.ensures r (is ∙ sym c.items.ensures)) number)

pub returns-in-Singles-clause-spelled : goal.returns-in-Singles-clause-spelled
returns-in-Singles-clause-spelled c =
    let script = c.args.self.now.script.now in
    let statements = c.args.statements.now in
    let s = c.index-statements-statement.result in
    let here = slice_get_read statements (length statements) c.args.statement s refl c.requires.there c.index-statements-statement.is in
    let all = planned_spelled script statements c.args.statement s here c.in_ok-sents.field-0 (λ r is. c.in_ok-sents.ensures r (is ∙ sym c.items.ensures)) c.args.sent c.requires.planner.is_script c.requires.suit in
    subst (λ o. IfSome o (λ (sent : Sent). IsAsk sent.ask)) (sym (c.taken-in-Singles.ensures.sent ∙ ap (λ p. slice_get (sents_of p) c.args.sent) (sym c.in-Singles.is))) all
