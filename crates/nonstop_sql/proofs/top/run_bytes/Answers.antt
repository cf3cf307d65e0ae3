-- Bytes of which no script was read are refused.
use Rattle.nonstop_sql.proofs.Endings.{reader-refused, Keeps-same}
use Rattle.nonstop_sql.proofs.top.run_bytes.Goals as goal

pub returns-in-Err-clause-ended : goal.returns-in-Err-clause-ended
returns-in-Err-clause-ended g c =
    rw c.refuse.ensures
    (reader-refused c.args.command.now _ c.args.bytes.now c.in-Err.error (g.K.Sink.taken c.args.sink.now) (g.K.Sink.taken c.args.sink.now) (g.K.Sink.faults c.args.sink.now)
    (g.K.Sink.faults c.args.sink.now) c.in-Err.ensures.only c.in-Err.ensures.refused (Keeps-same (g.K.Sink.taken c.args.sink.now)))
