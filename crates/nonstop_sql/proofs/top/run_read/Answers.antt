-- The bytes that were read are a front of what the source had left.
use Rattle.std.proofs.Common.{◌≡◌, IfSome, sym, subst}
use Rattle.nonstop_sql.proofs.Endings.{front_of, source-read}
use Rattle.nonstop_sql.proofs.top.run_read.Goals as goal

pub returns-in-Ok-clause-ended : goal.returns-in-Ok-clause-ended
returns-in-Ok-clause-ended g c =
    source-read c.args.command.now _ (g.S.Source.left c.args.source.now) (g.S.Source.left c.read_to_limit.new.source) (g.K.Sink.taken c.args.sink.now) (g.K.Sink.taken c.run_bytes.new.sink)
    (g.S.Source.faults c.args.source.now) (g.S.Source.faults c.read_to_limit.new.source) (g.K.Sink.faults c.args.sink.now) (g.K.Sink.faults c.run_bytes.new.sink)
    c.requires.reads c.as_slice.result.now c.run_bytes.result c.run_bytes.ensures.ended
    (subst (λ b. IfSome (g.S.Source.left c.args.source.now) (λ l. b ≡ front_of l)) (sym c.as_slice.ensures.value) c.in-Ok.ensures.front) c.in-Ok.ensures.rest
