-- A legal record can be seen.
use Rattle.nonstop_sql.proofs.Seeable.{can_be_seen}
use Rattle.nonstop_sql.proofs.saying.traced.Goals as goal

pub report-requires : goal.report-requires
report-requires g c = can_be_seen c.args.script.now c.args.kept.now c.requires.legal
