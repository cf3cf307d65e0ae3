use Rattle.std.proofs.Common.{◌++◌, [], ◌∷◌, ap, ◌∙◌, append_assoc}
use Rattle.std.specs.Prelude.{replicate}
use Rattle.std.proofs.lemmas.List.{replicate_more}
use Rattle.key_ranges.proofs.spans.fill.Goals as goal

pub loop-preserved : goal.loop-preserved
loop-preserved c =
    let front = c.args.bytes.now.items in
    c.in_ok-push.ensures.items ∙ ap (λ bytes. bytes ++ c.args.byte ∷ []) c.loop.invariant ∙ append_assoc front (replicate c.loop.counter c.args.byte) (c.args.byte ∷ [])
    ∙ ap (λ bytes. front ++ bytes) (replicate_more c.loop.counter c.args.byte)
