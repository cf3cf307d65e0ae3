use Rattle.std.proofs.Common.{sym, subst}
use Rattle.dp_messages.specs.Spelling.{IsReply}
use Rattle.dp_messages.specs.declared.replies.Reply.{Reply}
use Rattle.partition_core.specs.Kept.{AreMarked, IsReplayed, Kept}
use Rattle.shared_partition.specs.Sharing.{Finds, HasLater, HasNoneFrom}
use Rattle.shared_partition.specs.Spelled.{IsSpelling}
use Rattle.shared_partition.proofs.Lasts.{finds_reply, found_reply, has_later, has_none}
use Rattle.shared_partition.proofs.spelled.SpelledPartition.find.Goals as goal

pub spell-requires : goal.spell-requires
spell-requires c =
    let told = subst IsReplayed (sym c.self.view_is) c.history-served.ensures.replayed in
    let h = c.in-Reply.ensures in
    let one = found_reply c.self.inside.partition c.self.invariant told c.args.opener c.requires.opener c.args.sync c.requires.sync c.in-Reply.reply.now h.0 h.1 h.2 in
    one.2

pub returns-in-Reply-clause-found : goal.returns-in-Reply-clause-found
returns-in-Reply-clause-found c =
    let k = c.self.inside.partition in
    let told = subst IsReplayed (sym c.self.view_is) c.history-served.ensures.replayed in
    let h = c.in-Reply.ensures in
    let one = found_reply k c.self.invariant told c.args.opener c.requires.opener c.args.sync c.requires.sync c.in-Reply.reply.now h.0 h.1 h.2 in
    subst (λ (q : Kept). Finds q.history c.args.opener c.args.sync c.spell.result) c.self.view_is
    (finds_reply k.history c.args.opener c.args.sync one.0 one.1 (subst IsReply one.3 one.2) c.spell.result (subst (λ (r : Reply). IsSpelling r c.spell.result) one.3 c.spell.ensures))

pub returns-in-Pending-clause-found : goal.returns-in-Pending-clause-found
returns-in-Pending-clause-found c =
    let told = subst IsReplayed (sym c.self.view_is) c.history-served.ensures.replayed in
    let marks = subst AreMarked (sym c.self.view_is) c.history-served.ensures.marked in
    subst (λ (q : Kept). HasNoneFrom q.history c.args.opener c.args.sync) c.self.view_is
    (has_none c.self.inside.partition c.self.invariant told c.args.opener c.requires.opener marks c.args.sync c.in-Pending.ensures)

pub returns-in-Passed-clause-found : goal.returns-in-Passed-clause-found
returns-in-Passed-clause-found c =
    let told = subst IsReplayed (sym c.self.view_is) c.history-served.ensures.replayed in
    let h = c.in-Passed.ensures in
    subst (λ (q : Kept). HasLater q.history c.args.opener c.args.sync) c.self.view_is
    (has_later c.self.inside.partition c.self.invariant told c.args.opener c.requires.opener c.args.sync h.0 h.1)
