use Rattle.std.proofs.Common.{ap, sym, ◌∙◌, arith}
use Rattle.session_grammar.specs.Follows.{asker}
use Rattle.session_laws.specs.Scaffold.Machine.{At}
use Rattle.requester_fs.specs.Scaffold.Stages.{doing_of}
use Rattle.requester_fs.proofs.Walks.{walk_here, walk_past}
use Rattle.requester_fs.proofs.walking.Planner.walk.Goals as goal
use Rattle.sql_base.proofs.ListFacts.{some-at}

pub returns-in-Some-clause-placed : goal.returns-in-Some-clause-placed
returns-in-Some-clause-placed c number t seen next =
    let r = asker c.args.self.now.script.now number in
    let statements = c.args.statements.now in
    let i = c.loop-statement.statement in
    let s = some-at statements i c.loop-statement-test.true in
    let found = c.in_ok-subset.ensures in
    ap (λ st. At t seen (doing_of r statements st)) c.turn.ensures
    ∙ walk_here r t seen statements i s.0 next c.in_ok-subset.field-0.subset c.in-Some.sent s.1 (found.subset number) (sym (found.sent number) ∙ c.in-Some.is)
    ∙ c.loop-statement.invariant.1 number t seen next

pub loop-statement-preserved : goal.loop-statement-preserved
loop-statement-preserved c =
    let statements = c.args.statements.now in
    let i = c.loop-statement.statement in
    let s = some-at statements i c.loop-statement-test.true in
    let found = c.in_ok-subset.ensures in (
      omega (arith, c.loop-statement-test.true),
      λ number t seen next.
          walk_past (asker c.args.self.now.script.now number) t seen statements i s.0 next s.1 (sym (found.sent number) ∙ c.in_default.is) ∙ c.loop-statement.invariant.1 number t seen next,
    )
