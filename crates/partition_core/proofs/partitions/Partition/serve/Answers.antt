use Rattle.std.proofs.Common.{◌≡◌, ◌<◌, List, ℕ, refl, ap, sym, ◌∙◌, subst}
use Rattle.sync_messages.specs.Openers.{seat_of}
use Rattle.sync_messages.specs.declared.Seat.{Seat}
use Rattle.partition_core.specs.Scaffold.Contents.{IsServing, Parts, kept_of, parts_of}
use Rattle.partition_core.specs.Kept.{Kept, Serves, starved}
use Rattle.partition_core.specs.Settling.{ServesSettling}
use Rattle.partition_core.specs.declared.partitions.Served.TheVariants as answer
use Rattle.partition_core.proofs.Starving.{IsServing-starved, kept-starved, serves-again, serves-new, serves-old, serves-repeat, serves-starved, settling-again, settling-old, settling-repeat, settling-starved}
use Rattle.partition_core.proofs.partitions.Partition.serve.Goals as goal

pub invariant_of-self-in-Err : goal.invariant_of-self-in-Err
invariant_of-self-in-Err c =
    let q = parts_of c.serve_new.new.self in
    let fresh = subst (λ (x : Parts). (seat_of x.seats c.args.opener).last < c.args.sync) (sym c.in-Err.ensures.err) c.in-New.ensures in
    record {
      serving = subst (λ (seats : List (Seat ℕ)). IsServing (record q { seats = seats })) (sym c.starve.ensures) (IsServing-starved q c.args.opener c.args.sync c.serve_new.ensures.serving fresh);
      room = c.serve_new.ensures.room;
    }

pub returns-in-Ok-clause-served : goal.returns-in-Ok-clause-served
returns-in-Ok-clause-served c =
    let new = kept_of (parts_of c.serve_new.new.self) in
    subst (λ (k : Kept). Serves k c.args.opener c.args.sync c.args.request.now answer.New new) c.self.view_is
    (serves-new (parts_of c.self.inside.contents) c.args.opener c.args.sync c.args.request.now new c.self.invariant.serving c.in-New.ensures c.in-Ok.ensures.ok)

pub returns-in-Err-clause-served : goal.returns-in-Err-clause-served
returns-in-Err-clause-served c =
    let q = parts_of c.serve_new.new.self in
    let new = kept_of (record q { seats = c.starve.new.self }) in
    let is : new ≡ starved (kept_of (parts_of c.self.inside.contents)) c.args.opener c.args.sync =
    ap (λ (seats : List (Seat ℕ)). kept_of (record q { seats = seats })) c.starve.ensures ∙ kept-starved q c.args.opener c.args.sync c.serve_new.ensures.serving
    ∙ ap (λ (x : Parts). starved (kept_of x) c.args.opener c.args.sync) c.in-Err.ensures.err in
    subst (λ (k : Kept). Serves k c.args.opener c.args.sync c.args.request.now answer.Starved new) c.self.view_is
    (serves-starved (parts_of c.self.inside.contents) c.args.opener c.args.sync c.args.request.now new c.self.invariant.serving c.in-New.ensures is)

pub returns-in-Repeat-clause-served : goal.returns-in-Repeat-clause-served
returns-in-Repeat-clause-served c =
    subst (λ (k : Kept). Serves k c.args.opener c.args.sync c.args.request.now answer.Repeat k) c.self.view_is
    (serves-repeat (parts_of c.self.inside.contents) c.args.opener c.args.sync c.args.request.now c.self.invariant.serving c.in-Repeat.ensures)

pub returns-in-Starved-clause-served : goal.returns-in-Starved-clause-served
returns-in-Starved-clause-served c =
    subst (λ (k : Kept). Serves k c.args.opener c.args.sync c.args.request.now answer.Starved k) c.self.view_is
    (serves-again (parts_of c.self.inside.contents) c.args.opener c.args.sync c.args.request.now c.self.invariant.serving c.in-Starved.ensures)

pub returns-in-Old-clause-served : goal.returns-in-Old-clause-served
returns-in-Old-clause-served c =
    subst (λ (k : Kept). Serves k c.args.opener c.args.sync c.args.request.now answer.Old k) c.self.view_is
    (serves-old (parts_of c.self.inside.contents) c.args.opener c.args.sync c.args.request.now c.self.invariant.serving c.in-Old.ensures)

pub returns-in-Ok-clause-settled : goal.returns-in-Ok-clause-settled
returns-in-Ok-clause-settled c = λ fresh s. refl

pub returns-in-Err-clause-settled : goal.returns-in-Err-clause-settled
returns-in-Err-clause-settled c =
    subst (λ (k : Kept). ServesSettling k c.args.opener c.args.sync c.args.request.now answer.Starved) c.self.view_is
    (settling-starved (parts_of c.self.inside.contents) c.args.opener c.args.sync c.args.request.now c.in-Err.ensures.settled)

pub returns-in-Repeat-clause-settled : goal.returns-in-Repeat-clause-settled
returns-in-Repeat-clause-settled c =
    subst (λ (k : Kept). ServesSettling k c.args.opener c.args.sync c.args.request.now answer.Repeat) c.self.view_is
    (settling-repeat (parts_of c.self.inside.contents) c.args.opener c.args.sync c.args.request.now c.self.invariant.serving c.in-Repeat.ensures)

pub returns-in-Starved-clause-settled : goal.returns-in-Starved-clause-settled
returns-in-Starved-clause-settled c =
    subst (λ (k : Kept). ServesSettling k c.args.opener c.args.sync c.args.request.now answer.Starved) c.self.view_is
    (settling-again (parts_of c.self.inside.contents) c.args.opener c.args.sync c.args.request.now c.self.invariant.serving c.in-Starved.ensures)

pub returns-in-Old-clause-settled : goal.returns-in-Old-clause-settled
returns-in-Old-clause-settled c =
    subst (λ (k : Kept). ServesSettling k c.args.opener c.args.sync c.args.request.now answer.Old) c.self.view_is
    (settling-old (parts_of c.self.inside.contents) c.args.opener c.args.sync c.args.request.now c.self.invariant.serving c.in-Old.ensures)
