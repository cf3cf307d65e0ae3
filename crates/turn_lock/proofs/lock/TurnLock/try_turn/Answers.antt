use Rattle.std.proofs.Common.{rules, ◌≡◌, ◌∷◌, Some, None, false, refl, ap, sym, ◌∙◌}
use Rattle.atomic_table.specs.Table.{rest}
use Rattle.turn_lock.specs.Pass.{PassState}
use Rattle.turn_lock.specs.View.{carried_if}
use Rattle.turn_lock.proofs.Owning.{own_longer}
use Rattle.turn_lock.proofs.Seats.{IsSeatOf-after}
use Rattle.turn_lock.proofs.Steps.{takes_turn}
use Rattle.turn_lock.proofs.lock.TurnLock.try_turn.Goals as goal

pub compare_exchange-found-requires : goal.compare_exchange-found-requires
compare_exchange-found-requires g c =
    let idle : c.pass.inside.seat.me.0.holds ≡ false = ap (λ (p : PassState _ _). p.holds) c.pass.view_is ∙ c.requires.idle in (
      search rules,
      search rules,
      takes_turn g.V.StandsFor.history g.V.StandsFor.root _ g.V.StandsFor.state _ _ _ c.pass.inside.seat.me idle c.pass.invariant.numbered (c.pass.invariant.carries ∙ ap carried_if idle),
    )

pub invariant_of-pass : goal.invariant_of-pass
invariant_of-pass g c =
    let lost = c.compare_exchange-found.ensures.2.1 c.if-found-ne0.true in
    IsSeatOf-after _ _ c.pass.inside.seat.me _ _ _ c.pass.invariant lost.2 refl refl c.pass.invariant.carries c.pass.invariant.own

pub exchange-requires : goal.exchange-requires
exchange-requires g c =
    let won = c.compare_exchange-found.ensures.2.0 c.if-found-ne0.false in
    (search rules, (Some won.0, ap (λ m. m.1) won.1 ∙ ap (λ l. (0, Some won.0) ∷ rest l) (sym (ap (λ m. m.1) won.1))))

pub invariant_of-pass-2 : goal.invariant_of-pass-2
invariant_of-pass-2 g c =
    let idle : c.pass.inside.seat.me.0.holds ≡ false = ap (λ (p : PassState _ _). p.holds) c.pass.view_is ∙ c.requires.idle in
    let won = c.compare_exchange-found.ensures.2.0 c.if-found-ne0.false in
    let now = c.exchange.ensures.3 ∙ ap (λ n. (n.0, (0, None) ∷ rest n.1)) won.1 in
    IsSeatOf-after _ _ c.pass.inside.seat.me _ _ _ c.pass.invariant now refl refl (ap (λ l. (0, None) ∷ l) (c.pass.invariant.carries ∙ ap carried_if idle)) (own_longer _ _ _ won.2 c.pass.invariant.own)
