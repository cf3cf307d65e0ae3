use Rattle.std.proofs.Common.{◌≡◌, ◌∷◌, ◌++◌, [], ap, sym, ◌∙◌, subst}
use Rattle.sql_base.specs.Rows.{AreRecords}
use Rattle.partition_core.specs.Kept.{opened_with}
use Rattle.partition_state.specs.State.{opening}
use Rattle.run_record.specs.Openings.{rows_in_part}
use Rattle.partition_openings.proofs.OpenTables.{part_more, part_records}
use Rattle.partition_openings.proofs.openings.open_table.Goals as goal

pub new-requires-clause-rows : goal.new-requires-clause-rows
new-requires-clause-rows c =
    subst (AreRecords c.args.table.now) (sym (c.items-in-loop-place.ensures ∙ c.in_ok-own.ensures)) (part_records c.args.limits c.args.table.now c.loop-place.place c.args.rows.now c.requires.rows)

pub loop-place-preserved : goal.loop-place-preserved
loop-place-preserved c =
    let limits = c.args.limits in
    let table = c.args.table.now in
    let rows = c.args.rows.now in
    let place = c.loop-place.place in
    let own : c.items-in-loop-place.result.now ≡ rows_in_part table place rows = c.items-in-loop-place.ensures ∙ c.in_ok-own.ensures in
    let partition = c.in_ok-partition.ensures ∙ ap (λ rs. opened_with (opening table place limits rs)) own in
    c.in_ok-push.ensures.items ∙ (λ i. c.loop-place.invariant i ++ partition i ∷ []) ∙ part_more limits table rows place _
