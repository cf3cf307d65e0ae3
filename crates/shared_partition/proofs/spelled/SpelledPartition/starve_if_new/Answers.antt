use Rattle.std.proofs.Common.{refl, sym, subst}
use Rattle.partition_core.specs.Kept.{IsReplayed, Kept, opener_in}
use Rattle.partition_core.specs.declared.partitions.Served.TheVariants.{Repeat, Old}
use Rattle.shared_partition.specs.Sharing.{HasLater, IsDue, IsLast}
use Rattle.shared_partition.proofs.Lasts.{has_last, has_later}
use Rattle.shared_partition.proofs.spelled.SpelledPartition.starve_if_new.Goals as goal

pub returns-in-Reply-clause-served : goal.returns-in-Reply-clause-served
returns-in-Reply-clause-served c =
    let told = subst IsReplayed (sym c.self.view_is) c.history-served.ensures.replayed in
    let h = c.in-Reply.ensures in
    let one = has_last c.self.inside.partition c.self.invariant told c.args.opener c.requires.opener c.args.sync c.requires.sync (sym h.0) h.1 in
    λ request. (refl, one.0, subst (λ (q : Kept). IsLast q.history c.args.opener c.args.sync one.0) c.self.view_is one.1, subst (λ (q : Kept). IsDue (opener_in q c.args.opener) c.args.sync Repeat) c.self.view_is (sym h.0, h.1))

pub returns-in-Passed-clause-served : goal.returns-in-Passed-clause-served
returns-in-Passed-clause-served c =
    let told = subst IsReplayed (sym c.self.view_is) c.history-served.ensures.replayed in
    let h = c.in-Passed.ensures in
    λ request. (
      refl,
      subst (λ (q : Kept). HasLater q.history c.args.opener c.args.sync) c.self.view_is
          (has_later c.self.inside.partition c.self.invariant told c.args.opener c.requires.opener c.args.sync h.0 h.1),
      subst (λ (q : Kept). IsDue (opener_in q c.args.opener) c.args.sync Old) c.self.view_is h,
    )
