use Rattle.std.proofs.Common.{ap, arith, sym, subst, ◌∙◌, ◌<◌}
use Rattle.partition_core.specs.Kept.{Kept, Serves, opener_in}
use Rattle.partition_core.specs.Settling.{ServesSettling}
use Rattle.partition_core.specs.declared.partitions.Served.TheVariants.{New, Repeat, Starved}
use Rattle.shared_partition.specs.Spelled.{Adds, IsSpelled}
use Rattle.shared_partition.proofs.Lasts.{has_served}
use Rattle.shared_partition.proofs.spelled.SpelledPartition.serve.Goals as goal

pub serve-requires : goal.serve-requires
serve-requires c = record { opener = c.requires.spelled.opener }

pub starve_if_new-requires-clause-opener : goal.starve_if_new-requires-clause-opener
starve_if_new-requires-clause-opener c = c.requires.spelled.opener

pub starve_if_new-requires-clause-sync : goal.starve_if_new-requires-clause-sync
starve_if_new-requires-clause-sync c = let least = c.requires.spelled.sync.0 in omega (arith, least)

pub invariant_of-self : goal.invariant_of-self
invariant_of-self c =
    let told = c.history-served.ensures in
    let serves = subst (λ (q : Kept). Serves q c.args.opener c.args.sync c.args.request.now New c.serve.new.self) c.self.view_is c.in-New.ensures.served in
    let a = has_served c.args.self.now c.serve.new.self told.spelled told.replayed told.marked c.args.opener c.args.sync c.args.request.now c.requires.spelled New tt serves in
    a.spelled

pub returns-in-New-clause-opening : goal.returns-in-New-clause-opening
returns-in-New-clause-opening c =
    let told = c.history-served.ensures in
    let serves = subst (λ (q : Kept). Serves q c.args.opener c.args.sync c.args.request.now New c.serve.new.self) c.self.view_is c.in-New.ensures.served in
    let a = has_served c.args.self.now c.serve.new.self told.spelled told.replayed told.marked c.args.opener c.args.sync c.args.request.now c.requires.spelled New tt serves in
    a.opening

pub returns-in-New-clause-legal : goal.returns-in-New-clause-legal
returns-in-New-clause-legal c =
    let told = c.history-served.ensures in
    let serves = subst (λ (q : Kept). Serves q c.args.opener c.args.sync c.args.request.now New c.serve.new.self) c.self.view_is c.in-New.ensures.served in
    let a = has_served c.args.self.now c.serve.new.self told.spelled told.replayed told.marked c.args.opener c.args.sync c.args.request.now c.requires.spelled New tt serves in
    a.replayed.legal

pub returns-in-New-clause-served : goal.returns-in-New-clause-served
returns-in-New-clause-served c =
    let told = c.history-served.ensures in
    let serves = subst (λ (q : Kept). Serves q c.args.opener c.args.sync c.args.request.now New c.serve.new.self) c.self.view_is c.in-New.ensures.served in
    let a = has_served c.args.self.now c.serve.new.self told.spelled told.replayed told.marked c.args.opener c.args.sync c.args.request.now c.requires.spelled New tt serves in
    a.adds

pub returns-in-New-clause-settled : goal.returns-in-New-clause-settled
returns-in-New-clause-settled c = subst (λ (q : Kept). ServesSettling q c.args.opener c.args.sync c.args.request.now New) c.self.view_is c.in-New.ensures.settled

pub invariant_of-self-in-Repeat : goal.invariant_of-self-in-Repeat
invariant_of-self-in-Repeat c =
    let told = c.history-served.ensures in
    let serves = subst (λ (q : Kept). Serves q c.args.opener c.args.sync c.args.request.now Repeat c.serve.new.self) c.self.view_is c.in-Repeat.ensures.served in
    let a = has_served c.args.self.now c.serve.new.self told.spelled told.replayed told.marked c.args.opener c.args.sync c.args.request.now c.requires.spelled Repeat tt serves in
    a.spelled

pub returns-in-Repeat-clause-opening : goal.returns-in-Repeat-clause-opening
returns-in-Repeat-clause-opening c =
    let told = c.history-served.ensures in
    let serves = subst (λ (q : Kept). Serves q c.args.opener c.args.sync c.args.request.now Repeat c.serve.new.self) c.self.view_is c.in-Repeat.ensures.served in
    let a = has_served c.args.self.now c.serve.new.self told.spelled told.replayed told.marked c.args.opener c.args.sync c.args.request.now c.requires.spelled Repeat tt serves in
    a.opening

pub returns-in-Repeat-clause-legal : goal.returns-in-Repeat-clause-legal
returns-in-Repeat-clause-legal c =
    let told = c.history-served.ensures in
    let serves = subst (λ (q : Kept). Serves q c.args.opener c.args.sync c.args.request.now Repeat c.serve.new.self) c.self.view_is c.in-Repeat.ensures.served in
    let a = has_served c.args.self.now c.serve.new.self told.spelled told.replayed told.marked c.args.opener c.args.sync c.args.request.now c.requires.spelled Repeat tt serves in
    a.replayed.legal

pub returns-in-Repeat-clause-served : goal.returns-in-Repeat-clause-served
returns-in-Repeat-clause-served c =
    let told = c.history-served.ensures in
    let serves = subst (λ (q : Kept). Serves q c.args.opener c.args.sync c.args.request.now Repeat c.serve.new.self) c.self.view_is c.in-Repeat.ensures.served in
    let a = has_served c.args.self.now c.serve.new.self told.spelled told.replayed told.marked c.args.opener c.args.sync c.args.request.now c.requires.spelled Repeat tt serves in
    a.adds

pub returns-in-Repeat-clause-settled : goal.returns-in-Repeat-clause-settled
returns-in-Repeat-clause-settled c = subst (λ (q : Kept). ServesSettling q c.args.opener c.args.sync c.args.request.now Repeat) c.self.view_is c.in-Repeat.ensures.settled

pub invariant_of-self-in-Starved : goal.invariant_of-self-in-Starved
invariant_of-self-in-Starved c =
    let told = c.history-served.ensures in
    let serves = subst (λ (q : Kept). Serves q c.args.opener c.args.sync c.args.request.now Starved c.serve.new.self) c.self.view_is c.in-Starved.ensures.served in
    let a = has_served c.args.self.now c.serve.new.self told.spelled told.replayed told.marked c.args.opener c.args.sync c.args.request.now c.requires.spelled Starved tt serves in
    a.spelled

pub returns-in-Starved-clause-opening : goal.returns-in-Starved-clause-opening
returns-in-Starved-clause-opening c =
    let told = c.history-served.ensures in
    let serves = subst (λ (q : Kept). Serves q c.args.opener c.args.sync c.args.request.now Starved c.serve.new.self) c.self.view_is c.in-Starved.ensures.served in
    let a = has_served c.args.self.now c.serve.new.self told.spelled told.replayed told.marked c.args.opener c.args.sync c.args.request.now c.requires.spelled Starved tt serves in
    a.opening

pub returns-in-Starved-clause-legal : goal.returns-in-Starved-clause-legal
returns-in-Starved-clause-legal c =
    let told = c.history-served.ensures in
    let serves = subst (λ (q : Kept). Serves q c.args.opener c.args.sync c.args.request.now Starved c.serve.new.self) c.self.view_is c.in-Starved.ensures.served in
    let a = has_served c.args.self.now c.serve.new.self told.spelled told.replayed told.marked c.args.opener c.args.sync c.args.request.now c.requires.spelled Starved tt serves in
    a.replayed.legal

pub returns-in-Starved-clause-served : goal.returns-in-Starved-clause-served
returns-in-Starved-clause-served c =
    let told = c.history-served.ensures in
    let serves = subst (λ (q : Kept). Serves q c.args.opener c.args.sync c.args.request.now Starved c.serve.new.self) c.self.view_is c.in-Starved.ensures.served in
    let a = has_served c.args.self.now c.serve.new.self told.spelled told.replayed told.marked c.args.opener c.args.sync c.args.request.now c.requires.spelled Starved tt serves in
    a.adds

pub returns-in-Starved-clause-settled : goal.returns-in-Starved-clause-settled
returns-in-Starved-clause-settled c = subst (λ (q : Kept). ServesSettling q c.args.opener c.args.sync c.args.request.now Starved) c.self.view_is c.in-Starved.ensures.settled

pub invariant_of-self-in-Old : goal.invariant_of-self-in-Old
invariant_of-self-in-Old c = subst IsSpelled (sym c.in-Old.ensures.served.1) c.self.invariant

pub returns-in-Old-clause-opening : goal.returns-in-Old-clause-opening
returns-in-Old-clause-opening c = c.starve_if_new.ensures.opening ∙ ap (λ (q : Kept). q.opening) (c.in-Old.ensures.served.1 ∙ c.self.view_is)

pub returns-in-Old-clause-legal : goal.returns-in-Old-clause-legal
returns-in-Old-clause-legal c = c.starve_if_new.ensures.legal

pub returns-in-Old-clause-served : goal.returns-in-Old-clause-served
returns-in-Old-clause-served c =
    subst (λ (q : Kept). Adds q c.args.opener c.args.sync c.args.request.now c.starve_if_new.result c.starve_if_new.new.self) (c.in-Old.ensures.served.1 ∙ c.self.view_is) (c.starve_if_new.ensures.served c.args.request.now)

pub returns-in-Old-clause-settled : goal.returns-in-Old-clause-settled
returns-in-Old-clause-settled c =
    let above : c.args.sync < (opener_in c.args.self.now c.args.opener).last = subst (λ (q : Kept). c.args.sync < (opener_in q c.args.opener).last) c.self.view_is c.in-Old.ensures.served.0 in
    λ fresh s. absurd (omega (arith, above, fresh))
