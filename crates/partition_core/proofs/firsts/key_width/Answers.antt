use Rattle.std.proofs.Common.{◌≤◌, length, arith}
use Rattle.sql_base.specs.Rows.{key_kinds}
use Rattle.partition_core.proofs.firsts.key_width.Goals as goal
use Rattle.sql_base.proofs.RowFacts.{widths_done, widths_more}

pub loop-at-preserved : goal.loop-at-preserved
loop-at-preserved c = omega (arith, c.loop-at.invariant, c.width_of-sum.ensures, widths_more (key_kinds c.args.table.now) c.loop-at.at c.key_kind.result c.key_kind.ensures)

pub returns : goal.returns
returns c =
    let table = c.args.table.now in
    let all : length table.key ≤ c.loop-at.at = rw (← c.items-at-end.ensures) (omega (arith, c.loop-at-test.false)) in
    omega (arith, c.loop-at.invariant, widths_done table.columns table.key c.loop-at.at c.requires.key all)
