use Rattle.std.proofs.Common.{◌≡◌, ◌+◌, filter, nat_lt, not, ap, ◌∙◌}
use Rattle.lock_tables.specs.Runs.{branch, goes_on_by}
use Rattle.lock_tables.proofs.Counting.{next-kept}
use Rattle.lock_tables.proofs.runs.below.Goals as goal

pub returns : goal.returns
returns c =
    let from : c.split_at.result.1.now ≡ filter (λ l. not (nat_lt (branch c.args.depth l) (c.from-branch.result + 1))) c.args.run.now = c.split_at.ensures.back ∙ c.count_before.ensures.back in
    let next : c.split_at-2.result.0.now ≡ filter (λ l. nat_lt (branch c.args.depth l) (c.from-branch.result + 1 + 1)) c.split_at.result.1.now = c.split_at-2.ensures.front ∙ c.count_before-2.ensures.front in
    next ∙ ap (filter (λ l. nat_lt (branch c.args.depth l) (c.from-branch.result + 1 + 1))) from ∙ next-kept c.args.depth c.from-branch.result c.args.run.now
    ∙ ap (λ b. filter (goes_on_by c.args.depth b) c.args.run.now) c.from-branch.ensures
