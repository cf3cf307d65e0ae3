use Rattle.std.proofs.Common.{rules, arith, ◌≡◌, ◌≤◌, length, Err, ap, ◌∙◌}
use Rattle.predicate_runner.specs.declared.steps.CodeFault.TheVariants.{BadCode}
use Rattle.predicate_runner.specs.Outlines.{operand_in}
use Rattle.predicate_runner.proofs.Judged.{is_verified, is_bad}
use Rattle.predicate_runner.proofs.verifying.verify.Goals as goal

pub returns-in-Err-clause-bad_code : goal.returns-in-Err-clause-bad_code
returns-in-Err-clause-bad_code c = λ e.
    let fault : c.in-Err.fault ≡ BadCode = cc in
    is_bad c.args.table.now c.args.code.now (c.decoded.ensures.bad (c.in-Err.is ∙ ap Err fault))

pub invariant_of-result : goal.invariant_of-result
invariant_of-result c =
    let copy : c.from_vec.result ≡ c.args.code.now = search rules in
    let short : length c.args.code.now ≤ 8192 = omega arith in
    copy ∙ (is_verified c.args.table.now c.args.code.now (operand_in c.in-Ok.operand) short c.in-Ok.ensures.ok).1

pub returns-in-Ok-to_vec-clause-verified : goal.returns-in-Ok-to_vec-clause-verified
returns-in-Ok-to_vec-clause-verified c =
    let short : length c.args.code.now ≤ 8192 = omega arith in
    is_verified c.args.table.now c.args.code.now (operand_in c.in-Ok.operand) short c.in-Ok.ensures.ok
