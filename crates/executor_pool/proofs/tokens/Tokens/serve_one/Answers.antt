use Rattle.executor_pool.proofs.Going.{turned_leaves}
use Rattle.executor_pool.proofs.tokens.Tokens.serve_one.Goals as goal

pub returns : goal.returns
returns g c =
    let served = c.serve_one-served in
    turned_leaves c.args.self.now served.result served.new.pass served.new.taker c.requires.idle served.ensures.pass served.ensures.served served.ensures.stays
