use Rattle.std.proofs.Common.{◌≡◌, ◌<◌, ◌+◌, arith, max, length, drop, get_or, ap, sym, ◌∙◌}
use Rattle.std.specs.Ordering.{nat_cmp, ordering_then}
use Rattle.std.specs.Cmp.Lexicographic.{slice_cmp}
use Rattle.sql_base.specs.Rows.{padded}
use Rattle.sql_base.proofs.computing.compare_texts.Goals as goal
use Rattle.sql_base.proofs.RowFacts.{texts-step}
use Rattle.sql_base.proofs.Orderings.{then-differ, then-same}

pub returns-then-x-y : goal.returns-then-x-y
returns-then-x-y c =
    let n = max (length c.args.a.now) (length c.args.b.now) in
    let within : c.loop-i.i < n = omega arith in
    let step = texts-step n c.args.a.now c.args.b.now c.loop-i.i (omega arith) (omega arith) within in
    c.cmp.ensures ∙ sym (then-differ c.byte_or_blank-x.result c.byte_or_blank-y.result _ c.if-x-y.true)
    ∙ ap (λ x. ordering_then (nat_cmp x c.byte_or_blank-y.result) (slice_cmp nat_cmp (drop (c.loop-i.i + 1) (padded n c.args.a.now)) (drop (c.loop-i.i + 1) (padded n c.args.b.now)))) c.byte_or_blank-x.ensures
    ∙ ap (λ y. ordering_then (nat_cmp (get_or c.args.a.now c.loop-i.i 32) y) (slice_cmp nat_cmp (drop (c.loop-i.i + 1) (padded n c.args.a.now)) (drop (c.loop-i.i + 1) (padded n c.args.b.now)))) c.byte_or_blank-y.ensures
    ∙ sym step ∙ c.loop-i.invariant

pub loop-i-preserved : goal.loop-i-preserved
loop-i-preserved c =
    let n = max (length c.args.a.now) (length c.args.b.now) in
    let within : c.loop-i.i < n = omega arith in
    let step = texts-step n c.args.a.now c.args.b.now c.loop-i.i (omega arith) (omega arith) within in
    let same : get_or c.args.a.now c.loop-i.i 32 ≡ get_or c.args.b.now c.loop-i.i 32 = sym c.byte_or_blank-x.ensures ∙ c.if-x-y.false ∙ c.byte_or_blank-y.ensures in
    sym (then-same (get_or c.args.a.now c.loop-i.i 32) (get_or c.args.b.now c.loop-i.i 32) _ same) ∙ sym step ∙ c.loop-i.invariant
