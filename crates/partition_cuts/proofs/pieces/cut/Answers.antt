use Rattle.std.proofs.Common.{◌++◌, ap, sym, ◌∙◌}
use Rattle.std.specs.Prelude.{filter_map, option_to_list}
use Rattle.std.specs.List.{range_with_len}
use Rattle.partition_map.specs.Map.{piece_of}
use Rattle.partition_cuts.proofs.Steps.{pieces_more}
use Rattle.partition_cuts.proofs.pieces.cut.Goals as goal

pub loop-part-preserved : goal.loop-part-preserved
loop-part-preserved c =
    let front = filter_map (piece_of c.args.table.now c.args.range.now) (range_with_len 0 c.loop-part.part) in
    c.in_ok-append.ensures ∙ ap (λ ps. ps ++ option_to_list c.in_ok-piece.piece) c.loop-part.invariant ∙ ap (λ o. front ++ option_to_list o) c.in_ok-piece.ensures
    ∙ sym (pieces_more c.args.table.now c.args.range.now c.loop-part.part)
