use Rattle.std.proofs.Common.{◌≡◌, ap, ◌∙◌, subst}
use Rattle.range_finder.specs.Range.{range}
use Rattle.one_thread.specs.One.{predicate_of}
use Rattle.one_thread.specs.Scaffold.Scans.{ChangesIn}
use Rattle.one_thread.proofs.Doing.{change_done, change_fails}
use Rattle.one_thread.proofs.statements.change.Goals as goal

pub returns-in-Ok-clause-does : goal.returns-in-Ok-clause-does
returns-in-Ok-clause-does c =
    let table = c.args.table.now in
    let s = c.args.statement.now in
    let found = c.in_ok-range.range in
    let old = c.args.cells.now in
    let new = c.change_range.new.cells in
    let found-is : found ≡ range table (predicate_of s) = c.in_ok-range.ensures ∙ ap (range table) (c.as_ref.ensures.value ∙ c.requires.predicate) in
    change_done table s found old new c.in-Ok.count c.requires.change c.requires.suits found-is c.requires.now (subst (ChangesIn table s found old new) c.in-Ok.is c.in_ok-count.ensures.changes)

pub returns-clause-does : goal.returns-clause-does
returns-clause-does c =
    let table = c.args.table.now in
    let s = c.args.statement.now in
    let found = c.in_ok-range.range in
    let old = c.args.cells.now in
    let new = c.change_range.new.cells in
    let found-is : found ≡ range table (predicate_of s) = c.in_ok-range.ensures ∙ ap (range table) (c.as_ref.ensures.value ∙ c.requires.predicate) in
    change_fails table s found old new c.in-Err.abort c.requires.change found-is c.requires.now (subst (ChangesIn table s found old new) c.in-Err.is c.in_ok-count.ensures.changes)
