-- The next one sees all, or a front.
use Rattle.std.proofs.Common.{◌<◌, length, rules, ap}
use Rattle.run_record.specs.Seen.{seen, seen_parts}
use Rattle.trace_report.proofs.Showing.{collector_cut, collector_more}
use Rattle.trace_report.proofs.reports.show.Goals as goal
use Rattle.sql_base.proofs.Truths.{on_err}

pub returns-in_err-show_all-clause-cut : goal.returns-in_err-show_all-clause-cut
returns-in_err-show_all-clause-cut g c =
    let within : c.loop-at.at < length c.loop-at.collectors.items = search rules in
    on_err c.from_residual.result
    (collector_cut _ (seen c.args.kept.now) _ c.loop-at.collectors.items c.loop-at.at c.index_mut.result.now c.show_all.new.collector (seen_parts 0 c.items.result.now) c.loop-at.invariant.shown within
    c.index_mut.ensures.value (ap (seen_parts 0) c.items.ensures) c.in_err-show_all.ensures.cut)

pub loop-at-preserved : goal.loop-at-preserved
loop-at-preserved g c =
    let within : c.loop-at.at < length c.loop-at.collectors.items = search rules in
    record {
      many = search rules;
      shown = collector_more _ (seen c.args.kept.now) _ c.loop-at.collectors.items c.loop-at.at c.index_mut.result.now c.show_all.new.collector (seen_parts 0 c.items.result.now) c.loop-at.invariant.shown within
          c.index_mut.ensures.value (ap (seen_parts 0) c.items.ensures) c.in_ok-show_all.ensures.shown;
    }
