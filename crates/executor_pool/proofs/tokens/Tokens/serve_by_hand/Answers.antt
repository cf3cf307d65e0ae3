use Rattle.executor_pool.proofs.Going.{served_leaves}
use Rattle.executor_pool.proofs.tokens.Tokens.serve_by_hand.Goals as goal

pub returns : goal.returns
returns g c = served_leaves c.args.self.now c.args.opener c.args.sync c.args.request.now c.end_by_hand.new.pass c.end_by_hand.result c.end_by_hand.ensures.pass c.end_by_hand.ensures.served
