use Rattle.std.proofs.Common.{rules, ◌≡◌, ◌<◌, ◌++◌, length, map, get_or, refl, ap, sym, ◌∙◌, subst}
use Rattle.std.proofs.lemmas.List.{map-append}
use Rattle.std.proofs.lemmas.Option.{slice_get_read}
use Rattle.sql_base.specs.Rows.{AreRecords}
use Rattle.one_thread.specs.One.{load_rows}
use Rattle.partition_core.specs.Kept.{opened_with}
use Rattle.partition_openings.specs.Openings.{table_openings}
use Rattle.partition_openings.proofs.OpenTables.{openings_of, table_more}
use Rattle.partition_openings.proofs.openings.open.Goals as goal
use Rattle.one_thread.proofs.Loaded.{load-records}

pub open_table-requires-clause-rows : goal.open_table-requires-clause-rows
open_table-requires-clause-rows c =
    let script = c.args.script.now in
    let place = c.loop-place.place in
    let table = c.table-item.result in
    let lt : place < length script.tables = search rules in
    let here : table ≡ get_or script.tables place table = search rules in
    let rows : c.items-in-loop-place.result.now ≡ load_rows script.loads place = c.items-in-loop-place.ensures ∙ c.in_ok-rows.ensures ∙ ap (λ ls. load_rows ls place) c.items.ensures in
    subst (AreRecords table) (sym rows) (load-records script.tables script.loads place table (slice_get_read script.tables (length script.tables) place table refl lt here) c.requires.loads c.requires.loads_differ)

pub loop-place-preserved : goal.loop-place-preserved
loop-place-preserved c =
    let script = c.args.script.now in
    let place = c.loop-place.place in
    let table = c.table-item.result in
    let loads = load_rows script.loads in
    let lt : place < length script.tables = search rules in
    let here : table ≡ get_or script.tables place table = search rules in
    let rows : c.items-in-loop-place.result.now ≡ load_rows script.loads place = c.items-in-loop-place.ensures ∙ c.in_ok-rows.ensures ∙ ap (λ ls. load_rows ls place) c.items.ensures in
    let before = openings_of script.limits script.tables loads place in
    c.in_ok-open_table.ensures ∙ (λ i. c.loop-place.invariant i ++ map opened_with (table_openings script.limits table (rows i))) ∙ sym (map-append opened_with before (table_openings script.limits table (loads place)))
    ∙ ap (map opened_with) (table_more script.limits script.tables loads place table lt here)
