use Rattle.std.proofs.Common.{◌≡◌, Ok, ap, sym, ◌∙◌, subst}
use Rattle.sql_base.specs.declared.outcomes.Given.TheVariants.{Rows}
use Rattle.range_finder.specs.Range.{range}
use Rattle.one_thread.specs.Scaffold.Cells.{nows}
use Rattle.one_thread.specs.One.{Done}
use Rattle.one_thread.specs.Scaffold.Scans.{ReadsIn}
use Rattle.one_thread.proofs.Doing.{select_done, select_fails}
use Rattle.one_thread.proofs.statements.select.Goals as goal

pub returns-in-Ok : goal.returns-in-Ok
returns-in-Ok c = λ t access.
    let table = c.args.table.now in
    let columns = c.args.columns.now in
    let predicate = c.args.filter.now in
    let found = c.in_ok-range.range in
    let cells = c.args.cells.now in
    let found-is : found ≡ range table predicate = c.in_ok-range.ensures ∙ ap (range table) c.as_ref.ensures.value in
    select_done table columns predicate found cells found-is c.requires.now t access c.in-Ok.rows (subst (ReadsIn columns predicate found cells) c.in-Ok.is c.in_ok-rows.ensures)
    ∙ ap {B = Done} (λ kinds. record { given = Ok (Rows kinds c.in-Ok.rows); records = nows cells }) (sym c.in_ok-kinds-in-Ok.ensures)

pub returns : goal.returns
returns c = λ t access.
    let table = c.args.table.now in
    let columns = c.args.columns.now in
    let predicate = c.args.filter.now in
    let found = c.in_ok-range.range in
    let cells = c.args.cells.now in
    let found-is : found ≡ range table predicate = c.in_ok-range.ensures ∙ ap (range table) c.as_ref.ensures.value in
    select_fails table columns predicate found cells found-is c.requires.now t access c.in-Err.abort (subst (ReadsIn columns predicate found cells) c.in-Err.is c.in_ok-rows.ensures)
