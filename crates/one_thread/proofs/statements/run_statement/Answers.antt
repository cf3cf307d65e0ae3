use Rattle.std.proofs.Common.{subst}
use Rattle.std.specs.Prelude.{IfOk}
use Rattle.one_thread.specs.Scaffold.Statements.{Selects}
use Rattle.one_thread.proofs.Doing.{does}
use Rattle.one_thread.proofs.statements.run_statement.Goals as goal

pub returns-in-Select-clause-does : goal.returns-in-Select-clause-does
returns-in-Select-clause-does c =
    let table = c.args.table.now in
    let cells = c.args.cells.now.items in
    does table c.in-Select.columns c.in-Select.filter c.args.statement.now cells c.in-Select.table c.in-Select.access c.in-Select.is c.requires.now c.select.result
    (subst (λ cs. IfOk c.select.result (λ came. Selects table c.in-Select.columns c.in-Select.filter cs came)) c.as_slice.ensures.value
    (subst (λ columns. IfOk c.select.result (λ came. Selects table columns c.in-Select.filter c.as_slice.result.now came)) c.items.ensures c.select.ensures))
