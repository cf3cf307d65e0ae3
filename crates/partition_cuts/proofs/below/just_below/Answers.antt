use Rattle.std.proofs.Common.{◌≡◌, ◌+◌, ◌-◌, ◌<◌, suc, length, get_or, sym, ◌∙◌, arith}
use Rattle.std.proofs.lemmas.List.{length-set}
use Rattle.partition_cuts.proofs.Steps.{lowered_all, lowered_here, lowers_more, same_read}
use Rattle.partition_cuts.proofs.below.just_below.Goals as goal

pub returns-then-index-gt0 : goal.returns-then-index-gt0
returns-then-index-gt0 c =
    let key = c.loop-back.key.items in
    let back = c.loop-back.back in
    let at = c.len-n.result - 1 - back in
    let r = c.index_mut.result.now in
    let within : back < c.len-n.result = c.loop-back-test.true in
    let long : length key ≡ at + 1 + back = omega (arith, c.loop-back.invariant.0) in
    let same : c.index.result.now ≡ r = same_read key at c.index.result.now r (omega (arith, long)) c.index.ensures c.index_mut.ensures.value in
    let is : get_or key at r ≡ suc (r - 1) = sym c.index_mut.ensures.value ∙ (omega (arith, same, c.if-index-gt0.true)) in
    lowered_here c.args.key.now.items key back at r (r - 1) long is c.loop-back.invariant.1

pub loop-back-preserved : goal.loop-back-preserved
loop-back-preserved c =
    let key = c.loop-back.key.items in
    let back = c.loop-back.back in
    let at = c.len-n.result - 1 - back in
    let r = c.index.result.now in
    let within : back < c.len-n.result = c.loop-back-test.true in
    let long : length key ≡ at + 1 + back = omega (arith, c.loop-back.invariant.0) in
    let is : get_or key at r ≡ 0 = sym c.index.ensures ∙ (omega (arith, c.if-index-gt0.false)) in
    (length-set key at 0xFF ∙ c.loop-back.invariant.0, lowers_more c.args.key.now.items key back at r long is c.loop-back.invariant.1)

pub returns : goal.returns
returns c = lowered_all c.args.key.now.items c.loop-back.key.items c.loop-back.back (omega (arith, c.loop-back.invariant.0, c.loop-back-test.false, c.loop-back.auto.back-end)) c.loop-back.invariant.1
