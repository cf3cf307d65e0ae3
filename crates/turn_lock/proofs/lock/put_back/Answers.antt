use Rattle.std.proofs.Common.{rules, ◌≡◌, [], ◌∷◌, Some, ap, sym, ◌∙◌}
use Rattle.atomic_table.specs.Table.{rest}
use Rattle.turn_lock.proofs.Giving.{one_added}
use Rattle.turn_lock.proofs.Steps.{counts, adds}
use Rattle.turn_lock.proofs.lock.put_back.Goals as goal

pub load-before-requires : goal.load-before-requires
load-before-requires g c = (search rules, search rules, counts g.V.StandsFor.history g.V.StandsFor.root _ _ _ c.args.seat.now.me c.requires.holds.0)

pub store-requires : goal.store-requires
store-requires g c =
    let m = c.args.seat.now.me in
    let x = c.args.value in
    let l = c.load-before.ensures in
    let now : c.exchange.new.seat.me ≡ (m.0, (0, Some x) ∷ []) = c.exchange.ensures.3 ∙ ap (λ n. (n.0, (0, Some x) ∷ rest n.1)) l.2.0 ∙ ap (λ k. (m.0, (0, Some x) ∷ rest k)) c.requires.holds.1 in
    let one = one_added _ _ c.requires.history (λ e. c.if-after-before.false (c.entries-after.ensures ∙ e ∙ sym l.2.1)) in
    (search rules, search rules, adds g.V.StandsFor.history g.V.StandsFor.root _ _ _ _ _ m.0 x one.0 now c.requires.holds.0 one.1 c.entries-after.ensures)
