use Rattle.std.proofs.Common.{length, ap, arith, subst, ◌∙◌}
use Rattle.sql_base.specs.Scripts.{parts_of}
use Rattle.requester_fs.specs.Scaffold.Stages.{Stands}
use Rattle.requester_fs.specs.Scaffold.Working.{IsWorking}
use Rattle.session_laws.specs.Scaffold.Machine.{works_at}
use Rattle.requester_fs.proofs.Asked.{is_asking}
use Rattle.requester_fs.proofs.Keeping.{exact, first_working, one}
use Rattle.requester_fs.proofs.Ordinals.{works_few}
use Rattle.requester_fs.proofs.sessions.Session.new.Goals as goal

pub first-requires-clause-ordinals : goal.first-requires-clause-ordinals
first-requires-clause-ordinals c = omega (arith, ap length c.works_of.ensures, works_few c.args.script.now c.args.number c.requires.script c.requires.numbered)

works : (c : goal.After-new) → IsWorking c.args.script.now c.args.number c.parts_of-parts.result c.in_ok-stand.stand 1 c.new.result.items
works c =
    let script = c.args.script.now in
    let led = subst (λ ws. Stands script ws (λ r. works_at r 1 ws) c.in_ok-stand.stand) c.works_of.ensures c.in_ok-stand.ensures in
    first_working script c.args.number c.parts_of-parts.result c.in_ok-stand.stand c.new.result.items c.requires.script c.requires.numbered (c.parts_of-parts.ensures ∙ ap parts_of c.items.ensures) led c.new.ensures.items

pub returns-clause-asking : goal.returns-clause-asking
returns-clause-asking c = is_asking c.args.script.now c.args.number c.parts_of-parts.result 1 c.in_ok-stand.stand c.new.result.items (works c)

pub returns-clause-exact : goal.returns-clause-exact
returns-clause-exact c = exact c.args.script.now c.args.number c.parts_of-parts.result 1 c.in_ok-stand.stand c.new.result.items (works c)

pub returns-clause-one : goal.returns-clause-one
returns-clause-one c = one c.args.script.now c.args.number c.parts_of-parts.result 1 c.in_ok-stand.stand c.new.result.items (works c)
