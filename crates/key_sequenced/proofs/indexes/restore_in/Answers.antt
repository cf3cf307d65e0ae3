use Rattle.std.proofs.Common.{◌≡◌, filter, rules, ap, sym, ◌∙◌, subst}
use Rattle.std.specs.List.{AllByRecursion}
use Rattle.std.proofs.lemmas.Fn.{filter_same}
use Rattle.key_sequenced.specs.Blocks.{has_cells, joined, HasCells}
use Rattle.key_sequenced.specs.Cells.{restored, AreCells}
use Rattle.key_sequenced.proofs.Joining.{ended-joined, filled-filter, joined-filled}
use Rattle.key_sequenced.proofs.Rising.{rise-ended}
use Rattle.key_sequenced.proofs.indexes.restore_in.Goals as goal

pub returns-clause-cells : goal.returns-clause-cells
returns-clause-cells c =
    let left : c.retain.new.self.items ≡ filter has_cells c.restore_each.new.blocks.items = filter_same _ _ _ (λ x b f' k. search rules) _ _ c.retain.ensures.filtered in
    ap joined left ∙ joined-filled c.restore_each.new.blocks.items ∙ ap joined c.restore_each.ensures.items ∙ ended-joined c.args.t (λ x. x.was) c.args.blocks.now.items

pub returns-clause-blocks : goal.returns-clause-blocks
returns-clause-blocks c =
    let left : c.retain.new.self.items ≡ filter has_cells c.restore_each.new.blocks.items = filter_same _ _ _ (λ x b f' k. search rules) _ _ c.retain.ensures.filtered in
    let cells : joined c.retain.new.self.items ≡ restored c.args.t (joined c.args.blocks.now.items) =
    ap joined left ∙ joined-filled c.restore_each.new.blocks.items ∙ ap joined c.restore_each.ensures.items ∙ ended-joined c.args.t (λ x. x.was) c.args.blocks.now.items in
    record {
      rise = subst AreCells (sym cells) (rise-ended c.args.t (λ x. x.was) (joined c.args.blocks.now.items) c.requires.rise);
      filled = subst (AllByRecursion HasCells) (sym left) (filled-filter c.restore_each.new.blocks.items);
    }
