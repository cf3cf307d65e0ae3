use Rattle.executor_pool.proofs.Going.{turned_keeps_mail}
use Rattle.executor_pool.proofs.tokens.Server.serve_one.Goals as goal

pub returns-clause-keeps : goal.returns-clause-keeps
returns-clause-keeps g c =
    let served = c.serve_one-served in
    turned_keeps_mail c.args.self.now served.result served.new.pass served.new.taker served.ensures.served served.ensures.stays
