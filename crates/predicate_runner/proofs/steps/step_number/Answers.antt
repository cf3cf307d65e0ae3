use Rattle.std.proofs.Common.{rules, arith, ◌≡◌, take, sym, ◌∙◌}
use Rattle.std.specs.Int.{w64, cast_signed, from_be_bytes}
use Rattle.std.proofs.lemmas.Int.{to_z-of_z}
use mir.Val.{SFits}
use Rattle.predicate_runner.specs.Stepping.{seen}
use Rattle.predicate_runner.proofs.Stacks.{number-steps}
use Rattle.predicate_runner.proofs.steps.step_number.Goals as goal

pub returns-clause-ok : goal.returns-clause-ok
returns-clause-ok c =
    let pushed = c.in_ok-push.ensures.ok in
    let behind = c.args.behind.now in
    let value : c.cast_signed-number.result ≡ cast_signed w64 (from_be_bytes w64 (take 8 behind)) = search rules in
    let fits : SFits w64 c.cast_signed-number.result = search rules in
    (number-steps c.args.table.now c.args.room behind _ (seen c.args.stack.now.items) (seen c.push.new.stack.items) pushed.0 (λ i. omega (arith, c.type_inv.behind i)) c.if-behind-lt8.false (to_z-of_z w64 c.cast_signed-number.result fits ∙ value) (sym c.fit.ensures ∙ pushed.1) pushed.2, c.if-behind-lt8.false)
