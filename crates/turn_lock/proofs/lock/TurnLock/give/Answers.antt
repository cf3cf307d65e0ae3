use Rattle.std.proofs.Common.{rules, ◌≡◌, true, ap, sym, ◌∙◌, refl}
use Rattle.atomic_table.specs.Table.{rest}
use Rattle.turn_lock.specs.Held.{HeldState}
use Rattle.turn_lock.specs.Pass.{AddsAtMostOne, PassState}
use Rattle.turn_lock.specs.View.{given, carried_if}
use Rattle.turn_lock.proofs.Giving.{AddsAtMostOne-same, is_back, root_kept}
use Rattle.turn_lock.proofs.Seats.{IsSeatOf-after}
use Rattle.turn_lock.proofs.Steps.{gives_back}
use Rattle.turn_lock.proofs.lock.TurnLock.give.Goals as goal

pub put_back-requires : goal.put_back-requires
put_back-requires g c =
    let holds : c.pass.inside.seat.me.0.holds ≡ true = ap (λ (p : PassState _ _). p.holds) (c.pass.view_is ∙ sym (ap (λ (h : HeldState _ _ _). h.taker) c.held.view_is ∙ c.requires.held)) ∙ c.held.invariant in
    record {
      table = (search rules, c.self.invariant.0);
      holds = (holds, c.pass.invariant.carries ∙ ap carried_if holds);
      history = AddsAtMostOne-same _ _ _ _ (ap (λ (p : PassState _ _). p.seen) c.pass.view_is) (ap (λ (h : HeldState _ _ _). g.V.StandsFor.history h.value) c.held.view_is) c.requires.history;
    }

pub store-requires : goal.store-requires
store-requires g c =
    let holds : c.pass.inside.seat.me.0.holds ≡ true = ap (λ (p : PassState _ _). p.holds) (c.pass.view_is ∙ sym (ap (λ (h : HeldState _ _ _). h.taker) c.held.view_is ∙ c.requires.held)) ∙ c.held.invariant in
    let may : AddsAtMostOne c.pass.inside.seat.me.0.seen (g.V.StandsFor.history c.held.inside.value) = AddsAtMostOne-same _ _ _ _ (ap (λ (p : PassState _ _). p.seen) c.pass.view_is) (ap (λ (h : HeldState _ _ _). g.V.StandsFor.history h.value) c.held.view_is) c.requires.history in
    let back = is_back g.V.StandsFor.history c.pass.inside.seat.me c.put_back.new.seat.me c.held.inside.value holds may c.put_back.ensures.same c.put_back.ensures.added in
    let root = ap (λ (h : HeldState _ _ _). g.V.StandsFor.root h.value) c.held.view_is ∙ root_kept _ _ _ c.pass.invariant.started (ap (λ (p : PassState _ _). p.root) c.pass.view_is ∙ c.requires.root) in
    (search rules, search rules, gives_back g.V.StandsFor.history g.V.StandsFor.root _ _ _ _ _ c.held.inside.value _ c.self.invariant.1 back.now back.holds back.seen (back.starts ∙ c.pass.invariant.started) root)

pub invariant_of-pass : goal.invariant_of-pass
invariant_of-pass g c =
    let holds : c.pass.inside.seat.me.0.holds ≡ true = ap (λ (p : PassState _ _). p.holds) (c.pass.view_is ∙ sym (ap (λ (h : HeldState _ _ _). h.taker) c.held.view_is ∙ c.requires.held)) ∙ c.held.invariant in
    let may : AddsAtMostOne c.pass.inside.seat.me.0.seen (g.V.StandsFor.history c.held.inside.value) = AddsAtMostOne-same _ _ _ _ (ap (λ (p : PassState _ _). p.seen) c.pass.view_is) (ap (λ (h : HeldState _ _ _). g.V.StandsFor.history h.value) c.held.view_is) c.requires.history in
    let back = is_back g.V.StandsFor.history c.pass.inside.seat.me c.put_back.new.seat.me c.held.inside.value holds may c.put_back.ensures.same c.put_back.ensures.added in
    let now = c.store.ensures.2 ∙ ap (λ n. (given n.0, rest n.1)) back.now in
    IsSeatOf-after _ _ c.pass.inside.seat.me _ _ _ c.pass.invariant now back.numbers back.starts refl (back.own c.pass.invariant.own)
