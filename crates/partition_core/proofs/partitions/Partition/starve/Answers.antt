use Rattle.std.proofs.Common.{◌<◌, List, ℕ, ap, sym, ◌∙◌, subst, arith}
use Rattle.sync_messages.specs.Openers.{seat_of}
use Rattle.sync_messages.specs.declared.Seat.{Seat}
use Rattle.partition_core.specs.Scaffold.Contents.{IsServing, kept_of, parts_of}
use Rattle.partition_core.specs.Kept.{Kept, opener_in, starved}
use Rattle.partition_core.proofs.Starving.{IsServing-starved, kept-starved, seen}
use Rattle.partition_core.proofs.partitions.Partition.starve.Goals as goal

pub starve-requires-clause-fresh : goal.starve-requires-clause-fresh
starve-requires-clause-fresh c =
    let q = parts_of c.self.inside.contents in
    let s = seen q c.args.opener c.self.invariant.serving in
    let fresh : (opener_in (kept_of q) c.args.opener).last < c.args.sync = subst (λ (k : Kept). (opener_in k c.args.opener).last < c.args.sync) (sym c.self.view_is) c.requires.fresh in
    omega (arith, s.last, fresh)

pub invariant_of-self : goal.invariant_of-self
invariant_of-self c =
    let q = parts_of c.self.inside.contents in
    let s = seen q c.args.opener c.self.invariant.serving in
    let fresh : (opener_in (kept_of q) c.args.opener).last < c.args.sync = subst (λ (k : Kept). (opener_in k c.args.opener).last < c.args.sync) (sym c.self.view_is) c.requires.fresh in
    let below : (seat_of q.seats c.args.opener).last < c.args.sync = omega (arith, s.last, fresh) in
    record {
      serving = subst (λ (seats : List (Seat ℕ)). IsServing (record q { seats = seats })) (sym c.starve.ensures) (IsServing-starved q c.args.opener c.args.sync c.self.invariant.serving below);
      room = c.self.invariant.room;
    }

pub returns : goal.returns
returns c =
    let q = parts_of c.self.inside.contents in
    ap (λ (seats : List (Seat ℕ)). kept_of (record q { seats = seats })) c.starve.ensures ∙ kept-starved q c.args.opener c.args.sync c.self.invariant.serving
    ∙ ap (λ (k : Kept). starved k c.args.opener c.args.sync) c.self.view_is
