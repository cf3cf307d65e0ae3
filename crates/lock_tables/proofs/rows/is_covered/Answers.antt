use Rattle.std.proofs.Common.{◌≡◌, List, ℕ, Bool, true, ap, sym, ◌∙◌, arith, subst, false, length}
use Rattle.std.specs.Prelude.{nat_eq}
use Rattle.std.specs.List.{starts_with, list_any}
use Rattle.std.specs.List.Sorted.{IsNonDecreasingBy}
use Rattle.lock_tables.specs.Runs.{branch}
use Rattle.sql_base.specs.Locks.{covers, overlaps}
use Rattle.sql_base.specs.declared.lock_names.Lock.{Lock}
use Rattle.lock_tables.proofs.Steps.{any-first, any-last, any-next, cover-begins, cover-overlaps, node-next, rises-at}
use Rattle.lock_tables.proofs.rows.is_covered.Goals as goal

pub own-requires : goal.own-requires
own-requires c = rises-at c.bytes-prefix.result.now c.loop-depth.depth c.loop-depth.run.now (omega (arith, c.loop-depth-test.true)) c.loop-depth.invariant.0

pub below-run-requires : goal.below-run-requires
below-run-requires c = rises-at c.bytes-prefix.result.now c.loop-depth.depth c.loop-depth.run.now (omega (arith, c.loop-depth-test.true)) c.loop-depth.invariant.0

pub loop-depth-preserved : goal.loop-depth-preserved
loop-depth-preserved c =
    let seek : Lock → Bool = λ own. covers own c.args.wanted.now in
    let meets : (l : Lock) → seek l ≡ true → overlaps c.bytes-prefix.result.now l.prefix ≡ true = λ l e. subst (λ (p : List ℕ). overlaps p l.prefix ≡ true) (sym c.bytes-prefix.ensures) (cover-overlaps c.args.wanted.now l e) in
    let none : list_any seek c.own.result.now ≡ false = sym c.any_covers-in-loop-depth.ensures ∙ c.if-any_covers.false in (
      node-next c.bytes-prefix.result.now c.loop-depth.depth 0 c.loop-depth.run.now c.own.result.now c.below-run.result.now c.loop-depth-test.true c.loop-depth.invariant.0 c.own.ensures.own c.below-run.ensures,
      any-next c.bytes-prefix.result.now c.loop-depth.depth 0 c.loop-depth.run.now c.own.result.now c.below-run.result.now c.loop-depth-test.true c.loop-depth.invariant.0 c.own.ensures.own c.below-run.ensures seek meets none
          ∙ c.loop-depth.invariant.1,
    )

pub own-requires-2 : goal.own-requires-2
own-requires-2 c =
    let end : c.loop-depth.depth ≡ length c.bytes-prefix.result.now = omega (arith, c.loop-depth.auto.depth-end, c.loop-depth-test.false) in
    subst (λ n. IsNonDecreasingBy (branch n) c.loop-depth.run.now) end (rises-at c.bytes-prefix.result.now c.loop-depth.depth c.loop-depth.run.now c.loop-depth.auto.depth-end c.loop-depth.invariant.0)

pub returns-then-any_covers : goal.returns-then-any_covers
returns-then-any_covers c =
    let seek : Lock → Bool = λ own. covers own c.args.wanted.now in
    sym (any-first seek c.own.result.now c.loop-depth.run.now c.own.ensures.front (sym c.any_covers-in-loop-depth.ensures ∙ c.if-any_covers.true)) ∙ c.loop-depth.invariant.1

pub returns : goal.returns
returns c =
    let seek : Lock → Bool = λ own. covers own c.args.wanted.now in
    let begins : (l : Lock) → seek l ≡ true → starts_with nat_eq c.bytes-prefix.result.now l.prefix ≡ true = λ l e. subst (λ (p : List ℕ). starts_with nat_eq p l.prefix ≡ true) (sym c.bytes-prefix.ensures) (cover-begins c.args.wanted.now l e) in
    let end : c.loop-depth.depth ≡ length c.bytes-prefix.result.now = omega (arith, c.loop-depth.auto.depth-end, c.loop-depth-test.false) in
    c.any_covers-2.ensures ∙ ap (list_any seek) c.own-2.ensures.own ∙ any-last seek c.bytes-prefix.result.now c.loop-depth.depth c.loop-depth.run.now begins end c.loop-depth.invariant.0 ∙ c.loop-depth.invariant.1
