-- What a session does next goes on as its action says, and it does something.
use Rattle.std.proofs.Common.{◌≡◌, suc, true, ap, sym, ◌∙◌, inl, inr}
use Rattle.driver_laws.specs.Scheduling.{OfSession}
use Rattle.step_world.specs.Choosing.{is_acting}
use Rattle.step_world.specs.Scaffold.Seats.{seen}
use Rattle.step_world.specs.declared.seats.Turn.{Turn}
use Rattle.step_world.specs.declared.seats.Turn.TheVariants.{Wait, Rest}
use Rattle.step_world.proofs.Chosen.{acting_seat, from_same, from_told}
use Rattle.step_world.proofs.driver.act_for.Goals as goal

pub returns-in-Send-clause-goes_on : goal.returns-in-Send-clause-goes_on
returns-in-Send-clause-goes_on g c = from_told c.send.result c.args.at c.pass_at-passage.result _ _ _ _ c.pass_at-passage.ensures c.send.ensures.goes_on

pub returns-in-Take-clause-goes_on : goal.returns-in-Take-clause-goes_on
returns-in-Take-clause-goes_on g c = from_same c.take.result (OfSession (suc c.args.at)) _ _ _ c.take.ensures.goes_on

pub returns-in-ServeByHand-clause-goes_on : goal.returns-in-ServeByHand-clause-goes_on
returns-in-ServeByHand-clause-goes_on g c = from_same c.serve_by_hand.result (OfSession (suc c.args.at)) _ _ _ c.serve_by_hand.ensures.goes_on

pub returns-in-Draw-clause-goes_on : goal.returns-in-Draw-clause-goes_on
returns-in-Draw-clause-goes_on g c = from_same c.draw.result (OfSession (suc c.args.at)) _ _ _ c.draw.ensures.goes_on

pub unreachable-requires : goal.unreachable-requires
unreachable-requires g c =
    let acts = acting_seat (seen g.Q.Requester.asking) c.args.world.now.seats.items c.args.at c.index.result.now c.requires.enabled.1 c.index.ensures in
    elim c.in-Wait.is [ inl waits ↦ never (sym c.turn.ensures ∙ waits) acts | inr rests ↦ never_rests (sym c.turn.ensures ∙ rests) acts ]
  where
    never : {t : Turn} → t ≡ Wait → is_acting t ≡ true → ⊥
    never is acts = absurd (cc (sym (ap is_acting is) ∙ acts))

    never_rests : {t : Turn} → t ≡ Rest → is_acting t ≡ true → ⊥
    never_rests is acts = absurd (cc (sym (ap is_acting is) ∙ acts))
