use Rattle.std.proofs.Common.{◌<◌, ◌++◌, get_or, length, refl, ap, sym, ◌∙◌}
use Rattle.std.proofs.lemmas.Option.{slice_get_read}
use Rattle.sql_base.specs.Rows.{packed_value}
use Rattle.sql_base.proofs.Choosing.{packed_more}
use Rattle.sql_base.proofs.packing.pack.Goals as goal

pub loop-column-preserved : goal.loop-column-preserved
loop-column-preserved c =
    let within : get_or c.args.columns.now c.loop-column.column-index 0 < length c.values-values.result.now =
    rw c.values-values.ensures (c.requires c.loop-column.column-index 0 c.loop-column-test.true) in
    c.in_ok-append_value.ensures ∙ ap (λ bytes. bytes ++ packed_value c.index-values-column.result) c.loop-column.invariant
    ∙ sym (packed_more c.args.columns.now c.values-values.result.now c.loop-column.column-index _ c.index-values-column.result c.loop-column-test.true refl (slice_get_read c.values-values.result.now _ _ _ refl within c.index-values-column.is))
