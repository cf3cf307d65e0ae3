use Rattle.std.proofs.Common.{◌≡◌, ◌++◌, List, map, All, Contains, ap, sym, ◌∙◌, subst, false}
use Rattle.mail_queue.specs.Gathering.{IsComplete, posted_by, taken_by}
use Rattle.mail_queue.specs.Tokens.{PosterToken, TakerToken}
use mathlib.Core.List.{IsPrefix}
use Rattle.partition_core.specs.Kept.{opened_with}
use Rattle.turn_lock.specs.Pass.{HasRoot, IsMadeOf}
use Rattle.shared_partition.specs.Sharing.{PartitionPass}
use Rattle.executor_pool.proofs.Closing.{all_passes, closed, complete, idles, locks, posters_of_mail, takers_of_mail}
use Rattle.executor_pool.proofs.returned.close.Goals as goal

pub end_mail-requires-clause-posters : goal.end_mail-requires-clause-posters
end_mail-requires-clause-posters c =
    let posters = c.in_ok-passes.ensures.posters ∙ c.in_ok-rights.ensures.posters in
    let r = c.requires in
    subst (λ (ps : List PosterToken). All (λ (p : PosterToken). p.mail ≡ c.args.process.mail) ps) (sym posters) (posters_of_mail r.0 r.1 r.2 c.args.process c.args.tokens.items c.args.servers.items r.3)

pub end_mail-requires-clause-takers : goal.end_mail-requires-clause-takers
end_mail-requires-clause-takers c =
    let takers = c.in_ok-passes.ensures.takers ∙ ap (λ (ts : List TakerToken). ts ++ map (λ s. s.taker) c.args.servers.items) c.in_ok-rights.ensures.takers in
    let r = c.requires in
    subst (λ (ts : List TakerToken). All (λ (t : TakerToken). t.mail ≡ c.args.process.mail) ts) (sym takers) (takers_of_mail r.0 r.1 r.2 c.args.process c.args.tokens.items c.args.servers.items r.3)

pub end_mail-requires-clause-complete : goal.end_mail-requires-clause-complete
end_mail-requires-clause-complete c =
    let posters = c.in_ok-passes.ensures.posters ∙ c.in_ok-rights.ensures.posters in
    let takers = c.in_ok-passes.ensures.takers ∙ ap (λ (ts : List TakerToken). ts ++ map (λ s. s.taker) c.args.servers.items) c.in_ok-rights.ensures.takers in
    let r = c.requires in
    subst (λ (ps : List PosterToken). IsComplete c.args.process.mail ps c.in_ok-passes.field-0.takers.items) (sym posters) (subst (IsComplete c.args.process.mail (map (λ t. t.poster) c.args.tokens.items)) (sym takers) (
    complete r.0 r.1 r.2 c.args.process c.args.tokens.items c.args.servers.items r.3))

pub close_with-requires-clause-lock : goal.close_with-requires-clause-lock
close_with-requires-clause-lock c =
    let passes = c.in_ok-passes.ensures.passes ∙ ap (λ (ps : List PartitionPass). ps ++ map (λ s. s.pass) c.args.servers.items) c.in_ok-rights.ensures.passes in
    let r = c.requires in
    subst (λ (ps : List PartitionPass). All (λ (p : PartitionPass). p.lock ≡ c.args.process.partition) ps) (sym passes) (locks r.0 r.1 r.2 c.args.process c.args.tokens.items c.args.servers.items r.3)

pub close_with-requires-clause-idle : goal.close_with-requires-clause-idle
close_with-requires-clause-idle c =
    let passes = c.in_ok-passes.ensures.passes ∙ ap (λ (ps : List PartitionPass). ps ++ map (λ s. s.pass) c.args.servers.items) c.in_ok-rights.ensures.passes in
    let r = c.requires in
    subst (λ (ps : List PartitionPass). All (λ (p : PartitionPass). p.holds ≡ false) ps) (sym passes) (idles r.0 r.1 r.2 c.args.process c.args.tokens.items c.args.servers.items r.3)

pub close_with-requires-clause-all : goal.close_with-requires-clause-all
close_with-requires-clause-all c n lt =
    let passes = c.in_ok-passes.ensures.passes ∙ ap (λ (ps : List PartitionPass). ps ++ map (λ s. s.pass) c.args.servers.items) c.in_ok-rights.ensures.passes in
    let r = c.requires in
    subst (λ (ps : List PartitionPass). Contains (map (λ (p : PartitionPass). p.number) ps) n) (sym passes) (all_passes r.0 r.1 r.2 c.args.process c.args.tokens.items c.args.servers.items r.3 n lt)

pub returns : goal.returns
returns c crew part o ready =
    let passes = c.in_ok-passes.ensures.passes ∙ ap (λ (ps : List PartitionPass). ps ++ map (λ s. s.pass) c.args.servers.items) c.in_ok-rights.ensures.passes in
    let posters = c.in_ok-passes.ensures.posters ∙ c.in_ok-rights.ensures.posters in
    let takers = c.in_ok-passes.ensures.takers ∙ ap (λ (ts : List TakerToken). ts ++ map (λ s. s.taker) c.args.servers.items) c.in_ok-rights.ensures.takers in
    let k = c.close_with.result in
    closed crew part o c.args.process c.args.tokens.items c.args.servers.items ready k (subst (λ (ps : List PartitionPass). All (λ (p : PartitionPass). HasRoot p (opened_with k.opening)) ps) passes c.close_with.ensures.root)
    (subst (λ (ps : List PartitionPass). All (λ (p : PartitionPass). IsPrefix p.seen k.history) ps) passes c.close_with.ensures.begins)
    (subst (λ (ps : List PartitionPass). IsMadeOf k.history ps) passes c.close_with.ensures.made)
    (subst (λ (ps : List PosterToken). All (Contains (posted_by ps)) (taken_by (map (λ t. t.taker) c.args.tokens.items ++ map (λ s. s.taker) c.args.servers.items))) posters
    (subst (λ (ts : List TakerToken). All (Contains (posted_by c.in_ok-passes.field-0.posters.items)) (taken_by ts)) takers c.in_ok-end_mail.ensures))
