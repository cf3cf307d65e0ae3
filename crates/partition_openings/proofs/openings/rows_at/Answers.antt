use Rattle.std.proofs.Common.{rules, ◌≡◌, ◌<◌, ◌∷◌, ◌++◌, [], length, get_or, refl, ap, ◌∙◌}
use Rattle.std.proofs.lemmas.Option.{slice_get_read}
use Rattle.sql_base.specs.Rows.{IsRow}
use Rattle.partition_map.specs.Map.{part_of}
use Rattle.ranges_laws.proofs.Ranges.{keys_are_keys}
use Rattle.partition_openings.proofs.OpenTables.{row_elsewhere, row_here}
use Rattle.partition_openings.proofs.openings.rows_at.Goals as goal
use Rattle.partition_openings.proofs.openings.rows_at.Goals.{then-part_of-place+in_ok-copy_of+in_ok-push, else-part_of-place}
use Rattle.sql_base.proofs.ListFacts.{all_at}

pub part_of-requires-clause-long : goal.part_of-requires-clause-long
part_of-requires-clause-long c =
    let rows = c.args.rows.now in
    let lt : c.loop-row.row-index < length rows = search rules in
    let here : c.row-item.result ≡ get_or rows c.loop-row.row-index c.row-item.result = search rules in
    let row = all_at (IsRow c.args.table.now) rows c.loop-row.row-index c.row-item.result c.requires.rows (slice_get_read rows (length rows) c.loop-row.row-index c.row-item.result refl lt here) in
    ap length c.in_ok-key.ensures ∙ (keys_are_keys c.args.table.now c.row-item.result row).0

pub loop-row-preserved : goal.loop-row-preserved
loop-row-preserved c =
    let table = c.args.table.now in
    let rows = c.args.rows.now in
    let i = c.loop-row.row-index in
    let lt : i < length rows = search rules in
    let here : c.row-item.result ≡ get_or rows i c.row-item.result = search rules in
    let its = c.part_of.ensures ∙ ap (part_of table) c.in_ok-key.ensures in
    elim c.if-part_of-place.branch [
      | then-part_of-place+in_ok-copy_of+in_ok-push w ↦
          row_here table c.args.place rows i c.row-item.result lt here c.loop-row.own c.if-part_of-place.own c.part_of.result c.loop-row.invariant its w.if-part_of-place.true
          (w.own-is ∙ w.in_ok-push.ensures.ok ∙ ap (λ r. c.loop-row.own ++ r ∷ []) w.in_ok-copy_of.ensures)
      | else-part_of-place w ↦
          row_elsewhere table c.args.place rows i c.row-item.result lt here c.loop-row.own c.if-part_of-place.own c.part_of.result c.loop-row.invariant its w.if-part_of-place.false
          w.own-is
    ]
