use Rattle.std.proofs.Common.{◌≡◌, ap, sym, ◌∙◌, arith}
use Rattle.requester_fs.specs.Asking.{next_at}
use Rattle.requester_fs.proofs.sessions.SessionRequester.at.Goals as goal

pub returns : goal.returns
returns c =
    let first : c.args._place ≡ 0 = omega (arith, c.requires, c.next.ensures.one) in
    c.next.ensures.next ∙ ap (next_at c.args.self.now.way) (sym first)
