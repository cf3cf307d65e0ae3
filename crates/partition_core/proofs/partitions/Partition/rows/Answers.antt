use Rattle.std.proofs.Common.{◌++◌, ◌∷◌, [], List, append_assoc, map, ap, sym, ◌∙◌}
use Rattle.std.proofs.lemmas.List.{map-append}
use Rattle.key_sequenced.specs.declared.Cell.{Cell}
use Rattle.partition_core.proofs.Finding.{rows_more}
use Rattle.partition_core.proofs.partitions.Partition.rows.Goals as goal

pub loop-cell-preserved : goal.loop-cell-preserved
loop-cell-preserved c =
    let seen : List Cell = map (λ x. x.now) c.loop-cell.yielded in
    let cell : List Cell = c.in-Some.cell.now ∷ [] in
    rw (map-append (λ x. x.now) c.loop-cell.yielded (c.in-Some.cell ∷ [])) (
      tt,
      tt,
      append_assoc seen cell c.next.new.self ∙ ap (λ cs. seen ++ cs) (sym c.in-Some.ensures.steps) ∙ c.loop-cell.invariant.2,
      rows_more seen c.in-Some.cell.now _ _ c.loop-cell.invariant.3 c.in_ok-append_row.ensures,
    )
