use Rattle.std.proofs.Common.{◌≡◌, ◌<◌, ◌≤◌, List, length, true, false, Some, ap, sym, ◌∙◌, subst, arith}
use Rattle.std.specs.Prelude.{option_map, slice_get}
use Rattle.partition_state.specs.declared.entries.Entry.{Entry}
use Rattle.partition_core.specs.Scaffold.Contents.{entry_at, kept_of, parts_of}
use Rattle.partition_core.specs.Kept.{Kept, opener_in}
use Rattle.partition_core.proofs.Starving.{never-served, place-within, seen}
use Rattle.partition_core.proofs.partitions.Partition.pickup.Goals as goal

pub returns-then-last-sync : goal.returns-then-last-sync
returns-then-last-sync c =
    let s = seen (parts_of c.self.inside.contents) c.args.opener c.self.invariant.serving in
    subst (λ (k : Kept). (opener_in k c.args.opener).last < c.args.sync) c.self.view_is (omega (arith, s.last, c.last-last.ensures, c.if-last-sync.true))

pub returns-then-is_starved : goal.returns-then-is_starved
returns-then-is_starved c =
    let s = seen (parts_of c.self.inside.contents) c.args.opener c.self.invariant.serving in
    subst (λ (k : Kept). (c.args.sync ≤ (opener_in k c.args.opener).last) × ((opener_in k c.args.opener).starved ≡ true)) c.self.view_is
    (omega (arith, s.last, c.last-last.ensures, c.if-last-sync.false), s.starved ∙ sym c.is_starved.ensures ∙ c.if-is_starved.true)

pub returns-then-sync-last : goal.returns-then-sync-last
returns-then-sync-last c =
    let s = seen (parts_of c.self.inside.contents) c.args.opener c.self.invariant.serving in
    subst (λ (k : Kept). (c.args.sync < (opener_in k c.args.opener).last) × ((opener_in k c.args.opener).starved ≡ false)) c.self.view_is
    (omega (arith, s.last, c.last-last.ensures, c.if-sync-last.true), s.starved ∙ sym c.is_starved.ensures ∙ c.if-is_starved.false)

pub reply_at-requires : goal.reply_at-requires
reply_at-requires c =
    subst (λ (entries : List Entry). c.in-Some.place.now < length entries) (sym c.deref.ensures.value) (place-within (parts_of c.self.inside.contents) c.args.opener c.in-Some.place.now c.self.invariant.serving c.in-Some.ensures)

pub unreachable-requires : goal.unreachable-requires
unreachable-requires c =
    let none = never-served (parts_of c.self.inside.contents) c.args.opener c.self.invariant.serving c.in-None.ensures (sym c.is_starved.ensures ∙ c.if-is_starved.false) in
    omega (arith, none, c.last-last.ensures, c.if-last-sync.false, c.requires.sync)

pub returns : goal.returns
returns c =
    let q = parts_of c.self.inside.contents in
    let s = seen q c.args.opener c.self.invariant.serving in
    let kept : (opener_in (kept_of q) c.args.opener).kept ≡ Some c.reply_at.result.now =
    s.kept ∙ ap (λ place. option_map (λ (e : Entry). e.reply) (entry_at q.history place)) (sym c.in-Some.ensures)
    ∙ ap (λ (entries : List Entry). option_map (λ (e : Entry). e.reply) (slice_get entries c.in-Some.place.now)) (sym c.deref.ensures.value) ∙ c.reply_at.ensures in
    let last : (opener_in (kept_of q) c.args.opener).last ≡ c.args.sync = omega (arith, s.last, c.last-last.ensures, c.if-last-sync.false, c.if-sync-last.false) in
    subst (λ (k : Kept). ((opener_in k c.args.opener).last ≡ c.args.sync) × ((opener_in k c.args.opener).starved ≡ false) × ((opener_in k c.args.opener).kept ≡ Some c.reply_at.result.now)) c.self.view_is
    (last, s.starved ∙ sym c.is_starved.ensures ∙ c.if-is_starved.false, kept)
