use Rattle.std.proofs.Common.{rules, ◌≡◌, ◌∷◌, [], ◌<◌, ◌≤◌, ◌+◌, Err, length, drop, get_or, refl, ap, sym, ◌∙◌, subst}
use Rattle.std.proofs.lemmas.List.{drop_all, drop_more}
use Rattle.sql_base.specs.declared.outcomes.Outcome.TheVariants.{Aborted}
use Rattle.one_thread.specs.Scaffold.Runs.{RunsWork}
use Rattle.one_thread.specs.Scaffold.Worlds.{Moves}
use Rattle.one_thread.proofs.Running.{aborts, finishes, Running}
use Rattle.one_thread.proofs.transactions.run_work.Goals as goal

pub returns-in-Err : goal.returns-in-Err
returns-in-Err c =
    let tables = c.args.tables.now in
    let work = c.args.work.now in
    let old = c.args.world.now in
    let world = c.loop-statement.world in
    let new = c.run_one.new.world in
    let given = c.loop-statement.given in
    let i = c.loop-statement.statement-index in
    let d = c.statement-item.result in
    let abort = c.in-Err.abort in
    let lt : i < length work.statements = search rules in
    let is : d ≡ get_or work.statements i d = search rules in
    let running : Running tables work old world given (d ∷ drop (i + 1) work.statements) =
    subst (Running tables work old world given) (drop_more work.statements i d lt ∙ ap (λ s. s ∷ drop (i + 1) work.statements) (sym is)) c.loop-statement.invariant in
    let moved : Moves tables d world new (Err abort) = subst (Moves tables d world new) c.in-Err.is c.in_ok-item.ensures in
    let done = aborts tables work c.args.stamp old world new given d (drop (i + 1) work.statements) abort running moved in
    subst (λ gs. RunsWork tables work c.args.stamp old c.end_world.new.world (record { outcome = Aborted abort; given = gs })) (sym c.new-given-in-Err.ensures)
    (subst (λ w. RunsWork tables work c.args.stamp old w (record { outcome = Aborted abort; given = [] })) (sym c.end_world.ensures) done)

pub returns : goal.returns
returns c =
    let tables = c.args.tables.now in
    let work = c.args.work.now in
    let old = c.args.world.now in
    let world = c.loop-statement.world in
    let given = c.loop-statement.given in
    let past : length work.statements ≤ c.loop-statement.statement-index = search rules in
    let none : drop c.loop-statement.statement-index work.statements ≡ [] = drop_all c.loop-statement.statement-index work.statements past in
    let done = finishes tables work c.args.stamp old world given (record { outcome = c.ended_as-outcome.result; given = given }) work.commit (subst (Running tables work old world given) none c.loop-statement.invariant) refl c.ended_as-outcome.ensures refl in
    subst (λ w. RunsWork tables work c.args.stamp old w (record { outcome = c.ended_as-outcome.result; given = given })) (sym c.end_world-2.ensures) done
