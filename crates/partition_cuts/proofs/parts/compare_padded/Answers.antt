use Rattle.std.proofs.Common.{length, ap, sym, ◌∙◌}
use Rattle.std.specs.Prelude.{replicate}
use Rattle.std.specs.Cmp.Lexicographic.{slice_cmp}
use Rattle.std.specs.Ordering.{nat_cmp, ordering_then}
use Rattle.partition_cuts.proofs.Comparing.{padded_cmp}
use Rattle.partition_cuts.proofs.parts.compare_padded.Goals as goal

pub returns-in-Less : goal.returns-in-Less
returns-in-Less c =
    let b = c.split_at.result.1.now in
    sym (padded_cmp c.args.text.now c.args.front.now c.split_at.result.0.now b c.cmp.result c.split_at.ensures.by_index.0 c.split_at.ensures.front_len c.cmp.ensures
    ∙ ap (λ o. ordering_then o (slice_cmp nat_cmp (replicate (length b) 32) b)) c.in-Less.is)

pub returns-in-Greater : goal.returns-in-Greater
returns-in-Greater c =
    let b = c.split_at.result.1.now in
    sym (padded_cmp c.args.text.now c.args.front.now c.split_at.result.0.now b c.cmp.result c.split_at.ensures.by_index.0 c.split_at.ensures.front_len c.cmp.ensures
    ∙ ap (λ o. ordering_then o (slice_cmp nat_cmp (replicate (length b) 32) b)) c.in-Greater.is)

pub returns-in-Equal : goal.returns-in-Equal
returns-in-Equal c =
    let b = c.split_at.result.1.now in
    c.compare_blanks.ensures
    ∙ sym (padded_cmp c.args.text.now c.args.front.now c.split_at.result.0.now b c.cmp.result c.split_at.ensures.by_index.0 c.split_at.ensures.front_len c.cmp.ensures
    ∙ ap (λ o. ordering_then o (slice_cmp nat_cmp (replicate (length b) 32) b)) c.in-Equal.is)
