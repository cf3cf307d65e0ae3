use Rattle.std.proofs.lemmas.Result.{on_ok_weaker}
use Rattle.partition_core.proofs.Rooms.{after-reserved, after-taken}
use Rattle.partition_core.proofs.contents.Contents.make_room.Goals as goal
use Rattle.std.proofs.Common.{sym, ◌∙◌, rules}

pub returns-then-takes_kept_back-clause-after : goal.returns-then-takes_kept_back-clause-after
returns-then-takes_kept_back-clause-after c = after-taken c.args.t c.args.change.now c.args.self.now (sym c.takes_kept_back.ensures ∙ c.if-takes_kept_back.true) c.requires.kept

pub returns-clause-after : goal.returns-clause-after
returns-clause-after c = on_ok_weaker c.reserve.result (after-reserved c.args.t c.args.change.now c.reserve.new.self (search rules)) c.reserve.ensures.entries
