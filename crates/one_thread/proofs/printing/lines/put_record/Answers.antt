use Rattle.std.proofs.Common.{ℕ, List, ◌++◌, ◌∷◌, ap, sym, ◌∙◌}
use Rattle.std.specs.Prelude.{flat_map}
use Rattle.std.proofs.lemmas.List.Folds.{flat_map-map}
use Rattle.sql_base.specs.declared.values.Value.{Value}
use Rattle.one_thread.specs.Text.{value_text}
use Rattle.one_thread.proofs.Lines.{line_written}
use Rattle.one_thread.proofs.printing.lines.put_record.Goals as goal

pub returns : goal.returns
returns c =
    let words = ap (flat_map (λ (value : Value). 0x20 ∷ value_text value)) c.values.ensures ∙ sym (flat_map-map (λ (word : List ℕ). 0x20 ∷ word) value_text c.args.row.now) in
    line_written _ _ _ _ _ _ c.in_ok-extend_from_slice.ensures.items (c.in_ok-put_values.ensures ∙ ap (λ (bytes : List ℕ). c.extend_from_slice.new.self.items ++ bytes) words) c.in_ok-push.ensures.items
