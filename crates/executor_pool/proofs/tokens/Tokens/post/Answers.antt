use Rattle.std.proofs.Common.{ℕ, List, subst, sym}
use Rattle.mail_queue.specs.Tokens.{PosterToken}
use Rattle.shared_partition.specs.Sharing.{AnswersMessage}
use Rattle.executor_pool.specs.Jobs.{IsOwnMessage}
use Rattle.executor_pool.specs.Tokens.{Leaves}
use Rattle.executor_pool.proofs.Going.{handed_leaves}
use Rattle.executor_pool.proofs.tokens.Tokens.post.Goals as goal

pub returns-in-Err : goal.returns-in-Err
returns-in-Err g c =
    let t = c.args.self.now in
    let hand = c.serve_by_hand in
    let served = subst (λ (m : List ℕ). AnswersMessage t.pass m hand.result hand.new.pass) c.in-Err.ensures.handed_back hand.ensures.served in
    subst (λ (p : PosterToken). Leaves (λ a part. IsOwnMessage a part c.args.message) t (record t { pass = hand.new.pass; poster = p })) (sym c.in-Err.ensures.stays) (handed_leaves t c.args.message hand.new.pass hand.result hand.ensures.pass served)
