use Rattle.std.proofs.Common.{◌≡◌, [], ◌∷◌, ◌++◌, false, ap, sym, ◌∙◌, subst, append_assoc}
use Rattle.turn_lock.specs.Gather.{Gathers}
use Rattle.turn_lock.specs.Pass.{LockId, PassState, lock_id}
use Rattle.turn_lock.specs.View.{carried_if, rejoined}
use Rattle.turn_lock.proofs.Gathering.{gathers_one, gathers_more, popped}
use Rattle.turn_lock.proofs.Steps.{rejoins}
use Rattle.turn_lock.proofs.close.gather.Goals as goal

pub loop-pass-init : goal.loop-pass-init
loop-pass-init g c =
    let s = c.first.inside.seat in
    let lock : LockId = lock_id c.args.shared.now.table_id c.args.shared.now.key.passes in
    let last = popped lock _ c.pop.new.self.items c.in-Some.first c.in-Some.ensures.items c.requires.lock c.requires.idle in
    let idle : s.me.0.holds ≡ false = ap (λ (p : PassState _ _). p.holds) c.first.view_is ∙ last.idle in
    record {
      at_table = ap (λ (p : PassState _ _). p.lock.table) c.first.view_is ∙ ap (λ (l : LockId). l.table) last.of_lock;
      nothing_out = c.first.invariant.carries ∙ ap carried_if idle;
      of_lock = last.left_of_lock;
      idle = last.left_idle;
      taken_in = c.in-Some.first ∷ [];
      parts = c.in-Some.ensures.items;
      gathers = subst (λ p. Gathers s.me.0 (p ∷ [])) c.first.view_is (gathers_one _ c.first.inside.number c.first.inside.passes s.me c.first.invariant idle);
    }

pub join_seat-requires : goal.join_seat-requires
join_seat-requires g c =
    let s = c.pass.inside.seat in
    let i = c.loop-pass.invariant in
    let lock : LockId = lock_id c.args.shared.now.table_id c.args.shared.now.key.passes in
    let last = popped lock _ c.pop-in-loop-pass.new.self.items c.in-Some-pop.pass c.in-Some-pop.ensures.items i.of_lock i.idle in
    let idle : s.me.0.holds ≡ false = ap (λ (p : PassState _ _). p.holds) c.pass.view_is ∙ last.idle in (
      i.at_table,
      ap (λ (p : PassState _ _). p.lock.table) c.pass.view_is ∙ ap (λ (l : LockId). l.table) last.of_lock,
      c.pass.invariant.carries ∙ ap carried_if idle,
      c.requires.table,
      rejoins g.V.StandsFor.history g.V.StandsFor.root _ _ c.loop-pass.seat.me.0 _ s.me.0 i.gathers.idle idle,
    )

pub loop-pass-preserved : goal.loop-pass-preserved
loop-pass-preserved g c =
    let s = c.pass.inside.seat in
    let i = c.loop-pass.invariant in
    let j = c.join_seat.ensures in
    let p = c.in-Some-pop.pass in
    let left = c.pop-in-loop-pass.new.self.items in
    let lock : LockId = lock_id c.args.shared.now.table_id c.args.shared.now.key.passes in
    let last = popped lock _ left p c.in-Some-pop.ensures.items i.of_lock i.idle in
    record {
      at_table = j.0 ∙ i.at_table;
      nothing_out = ap (λ m. m.1) j.2 ∙ i.nothing_out;
      of_lock = last.left_of_lock;
      idle = last.left_idle;
      taken_in = p ∷ i.taken_in;
      parts = i.parts ∙ ap (λ l. l ++ i.taken_in) c.in-Some-pop.ensures.items ∙ append_assoc left (p ∷ []) i.taken_in;
      gathers = subst (λ m. Gathers m.0 (p ∷ i.taken_in)) (sym j.2)
          (subst (λ q. Gathers (rejoined c.loop-pass.seat.me.0 s.me.0) (q ∷ i.taken_in)) c.pass.view_is
          (gathers_more _ c.pass.inside.number c.pass.inside.passes s.me c.loop-pass.seat.me.0 i.taken_in i.gathers c.pass.invariant));
    }
