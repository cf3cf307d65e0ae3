-- Where memory runs out at the texts, all have seen all.
use Rattle.run_record.specs.Seen.{seen}
use Rattle.trace_report.proofs.Showing.{whole_is_front}
use Rattle.trace_report.proofs.reports.report.Goals as goal
use Rattle.sql_base.proofs.Truths.{on_err}

pub returns-clause-cut : goal.returns-clause-cut
returns-clause-cut g c = on_err c.say.result (whole_is_front (seen c.args.kept.now) _ _ c.in_ok-show.ensures.shown)
