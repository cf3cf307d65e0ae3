use Rattle.std.proofs.Common.{ap, sym, ◌∙◌, arith}
use Rattle.std.specs.Option.{option_copied}
use Rattle.sql_base.specs.Locks.{conflicts}
use Rattle.lock_tables.proofs.Steps.{conflict-overlaps, find-first, find-next, node-next, rises-at}
use Rattle.lock_tables.proofs.rows.first_bar.Goals as goal

pub own-requires : goal.own-requires
own-requires c = rises-at c.args.prefix.now c.loop-depth.depth c.loop-depth.run.now (omega (arith, c.loop-depth-test.true)) c.loop-depth.invariant.0

pub below-run-requires : goal.below-run-requires
below-run-requires c = rises-at c.args.prefix.now c.loop-depth.depth c.loop-depth.run.now (omega (arith, c.loop-depth-test.true)) c.loop-depth.invariant.0

pub returns-in-Some : goal.returns-in-Some
returns-in-Some c =
    let seek = conflicts (record { holder = c.args.holder; prefix = c.args.prefix.now; mode = c.args.mode }) in
    find-first seek c.own.result.now c.loop-depth.run.now c.own.ensures.front c.in-Some.bar.now (ap option_copied (sym c.in-Some.is) ∙ c.first_in-in-loop-depth.ensures) ∙ c.loop-depth.invariant.1

pub loop-depth-preserved : goal.loop-depth-preserved
loop-depth-preserved c =
    let seek = conflicts (record { holder = c.args.holder; prefix = c.args.prefix.now; mode = c.args.mode }) in
    let none = sym c.first_in-in-loop-depth.ensures ∙ ap option_copied c.in_default.is in (
      node-next c.args.prefix.now c.loop-depth.depth 0 c.loop-depth.run.now c.own.result.now c.below-run.result.now c.loop-depth-test.true c.loop-depth.invariant.0 c.own.ensures.own c.below-run.ensures,
      find-next c.args.prefix.now c.loop-depth.depth 0 c.loop-depth.run.now c.own.result.now c.below-run.result.now c.loop-depth-test.true c.loop-depth.invariant.0 c.own.ensures.own c.below-run.ensures seek (conflict-overlaps c.args.holder c.args.prefix.now c.args.mode) none
          ∙ c.loop-depth.invariant.1,
    )
