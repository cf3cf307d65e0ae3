use Rattle.std.proofs.Common.{rules, ◌≡◌, ℕ, ◌<◌, Some, length, map, Contains, sym, ◌∙◌, subst}
use mathlib.Core.Option.{some-injective}
use Rattle.turn_lock.specs.Pass.{LockId, PassState}
use Rattle.turn_lock.proofs.Closing.{some_there, the_end, the_end_at}
use Rattle.turn_lock.proofs.lock.TurnLock.close_with.Goals as goal

pub gather-seat-requires-clause-some : goal.gather-seat-requires-clause-some
gather-seat-requires-clause-some g c =
    let some : 0 < length c.args.passes.items = some_there _ c.args.passes.items 0 (c.requires.all 0 (subst (λ (l : LockId). 0 < l.passes) c.self.view_is c.self.invariant.2)) in
    search rules

pub unwrap-value-requires : goal.unwrap-value-requires
unwrap-value-requires g c =
    let all : (n : ℕ) → n < c.self.inside.table.shared.key.passes → Contains (map (λ (p : PassState _ _). p.number) c.args.passes.items) n = λ n low. c.requires.all n (subst (λ (l : LockId). n < l.passes) c.self.view_is low) in
    let end = the_end g.V.StandsFor.history g.V.StandsFor.root _ _ c.gather-seat.result.me.0 c.args.passes.items _ _ c.gather-seat.ensures.all all c.close_with-closed.ensures.values.2 in
    let is : c.take.result ≡ Some end.0 = some-injective _ _ (sym c.take.ensures.value ∙ end.1.at_home) in
    rw is (search rules)

pub returns : goal.returns
returns g c =
    let all : (n : ℕ) → n < c.self.inside.table.shared.key.passes → Contains (map (λ (p : PassState _ _). p.number) c.args.passes.items) n = λ n low. c.requires.all n (subst (λ (l : LockId). n < l.passes) c.self.view_is low) in
    let end = the_end g.V.StandsFor.history g.V.StandsFor.root _ _ c.gather-seat.result.me.0 c.args.passes.items _ _ c.gather-seat.ensures.all all c.close_with-closed.ensures.values.2 in
    let it = the_end_at g.V.StandsFor.history g.V.StandsFor.root _ c.args.passes.items c.take.result c.unwrap-value.result end c.take.ensures.value c.unwrap-value.ensures in
    record { root = it.roots; begins = it.begins; made = it.made; own = it.own }
