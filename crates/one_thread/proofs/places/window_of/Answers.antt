use Rattle.std.proofs.Common.{◌≡◌, true, false, subst, sym, arith}
use Rattle.std.specs.List.Sorted.{IsPartitionPoint}
use Rattle.sql_base.specs.Keys.{key_le, key_lt}
use Rattle.one_thread.specs.Scaffold.Windows.{IsWindow}
use Rattle.one_thread.proofs.Rising.{window_is}
use Rattle.one_thread.proofs.places.window_of.Goals as goal

pub returns-then-up_to-first : goal.returns-then-up_to-first
returns-then-up_to-first c =
    let cells = c.args.cells.now in
    let first = c.count_below-first.result in
    let up = c.count_up_to-up_to.result in
    subst (λ range. IsWindow range cells first first) (sym c.in-Some.is)
    (window_is c.in-Some.range cells first up first (omega arith) c.count_below-first.ensures.within (λ k le lt. absurd (omega arith)) (λ k le. omega (arith, c.if-up_to-first.true))
    (subst (λ low. IsPartitionPoint (λ x. key_lt x.key low ≡ true) (λ x. key_lt x.key low ≡ false) cells first) c.bytes.ensures c.count_below-first.ensures.below)
    (subst (λ high. IsPartitionPoint (λ x. key_le x.key high ≡ true) (λ x. key_le x.key high ≡ false) cells up) c.bytes-2.ensures c.count_up_to-up_to.ensures.up_to))

pub returns-else-up_to-first : goal.returns-else-up_to-first
returns-else-up_to-first c =
    let cells = c.args.cells.now in
    let first = c.count_below-first.result in
    let up = c.count_up_to-up_to.result in
    subst (λ range. IsWindow range cells first up) (sym c.in-Some.is)
    (window_is c.in-Some.range cells first up up (omega (arith, c.if-up_to-first.false)) c.count_up_to-up_to.ensures.within (λ k le lt. lt) (λ k le. le)
    (subst (λ low. IsPartitionPoint (λ x. key_lt x.key low ≡ true) (λ x. key_lt x.key low ≡ false) cells first) c.bytes.ensures c.count_below-first.ensures.below)
    (subst (λ high. IsPartitionPoint (λ x. key_le x.key high ≡ true) (λ x. key_le x.key high ≡ false) cells up) c.bytes-2.ensures c.count_up_to-up_to.ensures.up_to))
