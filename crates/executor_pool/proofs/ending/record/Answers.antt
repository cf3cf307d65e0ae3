use Rattle.std.proofs.Common.{rules, ◌<◌, ◌-◌, ◌^◌, List, All, length, refl, ap, ◌∙◌, subst, arith}
use mathlib.Core.List.{IsPrefix}
use Rattle.commit_journal.specs.Journal.{StampsRise}
use Rattle.turn_lock.specs.Pass.{IsMadeOf, StandIn}
use Rattle.executor_pool.specs.Jobs.{JournalPass}
use Rattle.executor_pool.proofs.Recorded.{finished_all, idles_for, is_kept, locks_for, numbers_for, parts_few, ready_for, tokens_long}
use Rattle.executor_pool.proofs.ending.record.Goals as goal

pub parts_in-parts-requires : goal.parts_in-parts-requires
parts_in-parts-requires g c = let b = c.requires in let few = parts_few g.Q.Requester.asking g.Q.Requester.single g.Q.Requester.allows b.0 c.args.processes.items c.args.returned b.3 in let value = ap length c.as_slice.ensures.value in omega (arith, few, value)

pub take_apart-requires : goal.take_apart-requires
take_apart-requires g c =
    let b = c.requires in
    tokens_long g.Q.Requester.asking g.Q.Requester.single g.Q.Requester.allows b.0 c.args.processes.items c.args.returned b.3 c.parts_in-parts.result (c.parts_in-parts.ensures ∙ ap length c.as_slice.ensures.value)

pub close_all-requires : goal.close_all-requires
close_all-requires g c =
    let b = c.requires in (
      b.0.opened,
      ready_for g.Q.Requester.asking g.Q.Requester.single g.Q.Requester.allows b.0 c.args.processes.items c.args.returned b.3 c.args.crew _ _ _ b.1 refl (c.parts_in-parts.ensures ∙ ap length c.as_slice.ensures.value) c.in_ok-columns.ensures.columns,
    )

pub close_with-requires-clause-lock : goal.close_with-requires-clause-lock
close_with-requires-clause-lock g c = let b = c.requires in locks_for g.Q.Requester.asking g.Q.Requester.single g.Q.Requester.allows b.0 c.args.processes.items c.args.returned b.3 c.args.journal b.2 _ c.in_ok-columns.ensures.commits

pub close_with-requires-clause-idle : goal.close_with-requires-clause-idle
close_with-requires-clause-idle g c = let b = c.requires in idles_for g.Q.Requester.asking g.Q.Requester.single g.Q.Requester.allows b.0 c.args.processes.items c.args.returned b.3 c.args.journal b.2 _ c.in_ok-columns.ensures.commits

pub close_with-requires-clause-all : goal.close_with-requires-clause-all
close_with-requires-clause-all g c = let b = c.requires in numbers_for g.Q.Requester.asking g.Q.Requester.single g.Q.Requester.allows b.0 c.args.processes.items c.args.returned b.3 c.args.journal b.2 _ c.in_ok-columns.ensures.commits

pub logs_of-requires : goal.logs_of-requires
logs_of-requires g c =
    let b = c.requires in
    let parts = c.parts_in-parts.ensures ∙ ap length c.as_slice.ensures.value in
    let ready = ready_for g.Q.Requester.asking g.Q.Requester.single g.Q.Requester.allows b.0 c.args.processes.items c.args.returned b.3 c.args.crew _ _ _ b.1 refl parts c.in_ok-columns.ensures.columns in
    let commits = c.in_ok-columns.ensures.commits in
    let few : length c.close_with.result < 2 ^ 64 - 1 = search rules in
    finished_all g.Q.Requester.asking g.Q.Requester.single g.Q.Requester.allows b.0 c.args.processes.items c.args.returned b.3 _ c.parts_in-parts.result parts c.in_ok-columns.ensures.columns c.in_ok-partitions.partitions.items
    (c.in_ok-partitions.ensures b.0.opened ready) c.in_ok-histories_of.ensures.replayed c.close_with.result (subst (StampsRise 0) c.into_drawn-journal.ensures.drawn c.into_drawn-journal.ensures.rise)
    (subst (λ (ps : List JournalPass). IsMadeOf c.close_with.result ps) commits c.close_with.ensures.made) (subst (λ (ps : List JournalPass). All (λ (p : JournalPass). IsPrefix p.seen c.close_with.result) ps) commits c.close_with.ensures.begins)
    (subst (λ (ps : List JournalPass). All (λ (p : JournalPass). StandIn p.mine p.seen) ps) commits c.close_with.ensures.own) few _ c.in_ok-columns.ensures.requesters

pub returns : goal.returns
returns g c run crew journal back =
    let parts = c.parts_in-parts.ensures ∙ ap length c.as_slice.ensures.value in
    let ready = ready_for g.Q.Requester.asking g.Q.Requester.single g.Q.Requester.allows run c.args.processes.items c.args.returned back c.args.crew _ _ _ crew refl parts c.in_ok-columns.ensures.columns in
    let commits = c.in_ok-columns.ensures.commits in
    let few : length c.close_with.result < 2 ^ 64 - 1 = search rules in
    is_kept g.Q.Requester.asking g.Q.Requester.single g.Q.Requester.allows run c.args.processes.items c.args.returned back _ c.parts_in-parts.result parts c.in_ok-columns.ensures.columns c.in_ok-partitions.partitions.items
    (c.in_ok-partitions.ensures run.opened ready) c.in_ok-histories_of.ensures.replayed c.close_with.result (subst (StampsRise 0) c.into_drawn-journal.ensures.drawn c.into_drawn-journal.ensures.rise)
    (subst (λ (ps : List JournalPass). IsMadeOf c.close_with.result ps) commits c.close_with.ensures.made) (subst (λ (ps : List JournalPass). All (λ (p : JournalPass). IsPrefix p.seen c.close_with.result) ps) commits c.close_with.ensures.begins)
    (subst (λ (ps : List JournalPass). All (λ (p : JournalPass). StandIn p.mine p.seen) ps) commits c.close_with.ensures.own) few _ c.in_ok-logs_of.field-0 _ c.in_ok-columns.ensures.requesters c.in_ok-logs_of.ensures.logs c.in_ok-logs_of.ensures.allowed
    c.in_ok-histories_of.ensures.histories (search rules) (search rules) refl c.new.ensures
