use Rattle.std.proofs.Common.{◌≡◌, ◌-◌, ◌++◌, [], ◌∷◌, length, ap, ◌∙◌, arith, append_assoc}
use Rattle.std.specs.Prelude.{replicate}
use Rattle.std.proofs.lemmas.List.{replicate_more}
use Rattle.partition_core.proofs.firsts.append_padded.Goals as goal

pub loop-preserved : goal.loop-preserved
loop-preserved c =
    let front = c.args.key.now.items ++ c.args.text.now in
    c.in_ok-push.ensures.items ∙ ap (λ bytes. bytes ++ 32 ∷ []) c.loop.invariant ∙ append_assoc front (replicate c.loop.counter 32) (32 ∷ [])
    ∙ ap (λ bytes. front ++ bytes) (replicate_more c.loop.counter 32)

pub returns : goal.returns
returns c =
    let front = c.args.key.now.items in
    let blanks : c.saturating_sub-blanks.result ≡ c.args.width - length c.args.text.now = rw (← c.bytes-bytes.ensures) c.saturating_sub-blanks.ensures in
    let n : c.loop.counter ≡ c.args.width - length c.args.text.now = omega (arith, blanks, c.loop-test.false, c.loop.auto.counter-end) in
    c.loop.invariant ∙ append_assoc front c.args.text.now (replicate c.loop.counter 32) ∙ ap (λ k. front ++ (c.args.text.now ++ replicate k 32)) n
