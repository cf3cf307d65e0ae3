-- A script that is made from a number is that of the command, and else it is read.
use Rattle.std.proofs.Common.{◌≡◌, Some, sym, ◌∙◌}
use Rattle.nonstop_sql.specs.Ends.{number_of}
use Rattle.nonstop_sql.proofs.Endings.{made-alone}
use Rattle.nonstop_sql.proofs.top.run_alone.Goals as goal

pub returns-in-Some-clause-ran : goal.returns-in-Some-clause-ran
returns-in-Some-clause-ran g c =
    let makes : number_of c.args.command.now ≡ Some c.in-Some.number = sym c.number_of.ensures ∙ c.in-Some.is in
    made-alone c.args.command.now c.in-Some.number _ (g.S.Source.left c.args.source.now) (g.K.Sink.taken c.args.sink.now) (g.K.Sink.taken c.run_made.new.sink) (g.S.Source.faults c.args.source.now)
    (g.K.Sink.faults c.args.sink.now) (g.K.Sink.faults c.run_made.new.sink) c.run_made.result makes c.run_made.ensures.written
