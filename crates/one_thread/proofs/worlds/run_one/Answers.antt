use Rattle.std.proofs.Common.{rules, ◌≡◌, ◌<◌, [], length, get_or, Some, refl, ap, sym, ◌∙◌, subst}
use Rattle.std.specs.Prelude.{slice_get, slice_set}
use Rattle.std.proofs.lemmas.Option.{slice_get_read}
use Rattle.sql_base.specs.Tables.{table_of, SuitsTable}
use Rattle.one_thread.specs.Scaffold.Cells.{now_of}
use Rattle.one_thread.specs.Scaffold.Statements.{Does}
use Rattle.one_thread.specs.Scaffold.Worlds.{Moves}
use Rattle.one_thread.proofs.Moving.{all_at, moves}
use Rattle.one_thread.proofs.worlds.run_one.Goals as goal

pub bounds-world-place : goal.bounds-world-place
bounds-world-place c =
    let tables = c.args.tables.now in
    let place = c.place_of-place.result in
    let table = c.in-Some.table.now in
    let is : table ≡ get_or tables place table = search rules in
    let lt : place < length tables = search rules in
    (all_at now_of tables c.args.world.now place table [] c.requires.now (slice_get_read tables (length tables) place table refl lt is)).0

pub run-requires-clause-suits : goal.run-requires-clause-suits
run-requires-clause-suits c =
    let tables = c.args.tables.now in
    let place = c.place_of-place.result in
    let s = c.args.statement.now in
    let table = c.in-Some.table.now in
    let is : table ≡ get_or tables place table = search rules in
    let lt : place < length tables = search rules in
    let at : slice_get tables place ≡ Some table = slice_get_read tables (length tables) place table refl lt is in
    let given = c.requires.statement in
    let same : given.0 ≡ table = cc (sym given.1 ∙ ap (slice_get tables) (sym c.place_of-place.ensures) ∙ at) in
    subst (λ t. SuitsTable t s) same given.2

pub run-requires-clause-now : goal.run-requires-clause-now
run-requires-clause-now c =
    let tables = c.args.tables.now in
    let place = c.place_of-place.result in
    let table = c.in-Some.table.now in
    let is : table ≡ get_or tables place table = search rules in
    let lt : place < length tables = search rules in
    (all_at now_of tables c.args.world.now place table c.index-world-place.result c.requires.now (slice_get_read tables (length tables) place table refl lt is)).1

pub returns : goal.returns
returns c =
    let tables = c.args.tables.now in
    let place = c.place_of-place.result in
    let s = c.args.statement.now in
    let table = c.in-Some.table.now in
    let world = c.args.world.now in
    let d = c.index-world-place.result in
    let new = c.run.new.self in
    let came = c.in_ok-came.came in
    let is : table ≡ get_or tables place table = search rules in
    let lt : place < length tables = search rules in
    let at : slice_get tables (table_of s) ≡ Some table = ap (slice_get tables) (sym c.place_of-place.ensures) ∙ slice_get_read tables (length tables) place table refl lt is in
    let done : Does table s (get_or world (table_of s) d) new came = subst (λ n. Does table s (get_or world n d) new came) c.place_of-place.ensures c.in_ok-came.ensures in
    subst (λ n. Moves tables s world (slice_set world n new) came) (sym c.place_of-place.ensures) (moves tables s world table d new came at c.requires.now done)
