use Rattle.std.proofs.Common.{rules, ◌≡◌, ◌-◌, ◌++◌, length, map, take, drop, ap, ◌∙◌, arith}
use Rattle.std.specs.Prelude.{min}
use Rattle.one_thread.specs.Scaffold.Cells.{ended}
use Rattle.one_thread.proofs.Ending.{ended_within, same_behind, same_below}
use Rattle.one_thread.proofs.touched.end_within.Goals as goal

pub returns : goal.returns
returns c =
    let cells = c.args.cells.now in
    let f = ended c.args.commit in
    let high = c.min-end.result in
    let low = c.min-first.result in
    let n = high - low in
    let h : high ≡ min c.args.touched.end (length cells) = search rules in
    let l : low ≡ min c.args.touched.first high = search rules in
    let back : c.split_at_mut-from.result.1.now ≡ drop low cells = c.split_at_mut-from.ensures.back in
    let inside : c.split_at_mut-inside.result.0.now ≡ take n (drop low cells) = c.split_at_mut-inside.ensures.front ∙ ap (take n) back in
    let rest : c.split_at_mut-inside.result.1.now ≡ drop n (drop low cells) = c.split_at_mut-inside.ensures.back ∙ ap (drop n) back in
    ended_within c.args.commit cells _ low high (omega (arith, l)) (omega (arith, h)) (same_below cells c.args.touched.first c.args.touched.end low high c.requires h l) (same_behind cells c.args.touched.first c.args.touched.end low high c.requires h l)
    (ap (λ cs. cs ++ (c.end_all.new.cells ++ c.split_at_mut-inside.result.1.now)) c.split_at_mut-from.ensures.front
    ∙ ap (λ cs. take low cells ++ (cs ++ c.split_at_mut-inside.result.1.now)) (c.end_all.ensures ∙ ap (map f) inside)
    ∙ ap (λ cs. take low cells ++ (map f (take n (drop low cells)) ++ cs)) rest)
