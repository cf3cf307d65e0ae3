use Rattle.std.proofs.Common.{◌≡◌, ◌+◌, None, ap, sym, ◌∙◌}
use Rattle.commit_journal.specs.Journal.{drawn_for}
use Rattle.commit_journal.proofs.Rising.{drawn_more}
use Rattle.commit_journal.proofs.journals.Journal.commit.Goals as goal

pub invariant_of-self-2 : goal.invariant_of-self-2
invariant_of-self-2 c =
    let name = c.args.name in
    let drawn = c.self.inside.drawn in
    let new : drawn_for name drawn ≡ None = sym (c.drawn_for.ensures ∙ ap (drawn_for name) c.items.ensures) ∙ c.in_default.is in
    drawn_more c.self.inside.last drawn c.push.new.self (record { name = name; floor = c.args.floor; stamp = c.max-below.result + 1 }) c.self.invariant c.in_ok-push.ensures.ok (ap (λ n. n + 1) c.max-below.ensures) new
