use Rattle.std.proofs.Common.{ap, arith, length}
use Rattle.range_finder.specs.Range.{key_columns}
use Rattle.key_ranges.specs.Spans.{with_kind}
use Rattle.key_ranges.proofs.Columns.{as_many, total-at, total-end, total-less}
use Rattle.key_ranges.proofs.finding.width_from.Goals as goal
use Rattle.ranges_laws.proofs.Ranges.{key_total}

pub overflow_add-sum : goal.overflow_add-sum
overflow_add-sum c =
    let columns = key_columns c.args.table.now in
    omega (arith, c.loop-at.invariant, total-at columns c.loop-at.at (with_kind c.key_column.result.place c.key_column.result.kind) c.key_column.ensures, c.width_of-sum.ensures, total-less columns c.args.from, key_total c.args.table.now, c.requires.key_bytes)

pub loop-at-preserved : goal.loop-at-preserved
loop-at-preserved c =
    let columns = key_columns c.args.table.now in
    omega (arith, c.loop-at.invariant, total-at columns c.loop-at.at (with_kind c.key_column.result.place c.key_column.result.kind) c.key_column.ensures, c.width_of-sum.ensures)

pub returns : goal.returns
returns c =
    let columns = key_columns c.args.table.now in
    omega (arith, c.loop-at.invariant, total-end columns c.loop-at.at (omega (arith, as_many c.args.table.now c.requires.key, c.loop-at-test.false, ap length c.items-at-end.ensures)))
