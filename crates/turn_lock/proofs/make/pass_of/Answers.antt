use Rattle.std.proofs.Common.{[], refl, sym, ap, ◌∙◌, subst}
use Rattle.turn_lock.specs.Pass.{StandIn}
use Rattle.turn_lock.specs.View.{carried_if, start_of}
use Rattle.turn_lock.proofs.Owning.{own_none}
use Rattle.turn_lock.proofs.make.pass_of.Goals as goal

pub invariant_of-result : goal.invariant_of-result
invariant_of-result g c = record {
  numbered = ap (λ m. m.0.numbers) c.requires;
  start = start_of g.V.StandsFor.root c.args.opening.now;
  started = ap (λ m. m.0.starts) c.requires;
  counted = refl;
  carries = ap (λ m. m.1) c.requires ∙ sym (ap (λ m. carried_if m.0.holds) c.requires);
  own = subst (λ m. StandIn m.0.mine m.0.seen) (sym c.requires) (own_none []);
}
