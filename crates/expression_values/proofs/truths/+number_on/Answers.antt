use Rattle.expression_values.proofs.Told.{made_told}
use Rattle.expression_values.proofs.truths.+number_on.Goals as goal

pub returns-in-None-plain_number : goal.returns-in-None-plain_number
returns-in-None-plain_number t c =
    made_told c.in-Arith.op c.in-Arith.a c.in-Arith.b _ _ c.args.expr.now c.args.row.now _ _ _ c.in-Arith.is c.get-in-None-plain_number.ensures c.get-in-None-plain_number-2.ensures c.plain_side.ensures c.number_on.ensures c.made_of.ensures

pub returns-in-Some-plain_number-2 : goal.returns-in-Some-plain_number-2
returns-in-Some-plain_number-2 t c =
    made_told c.in-Arith.op c.in-Arith.a c.in-Arith.b _ _ c.args.expr.now c.args.row.now _ _ _ c.in-Arith.is c.get-in-Some-plain_number-2.ensures c.get-in-Some-plain_number-2-2.ensures c.number_on-in-Some-plain_number-2.ensures
    c.plain_side-in-Some-plain_number-2.ensures c.made_of-in-Some-plain_number-2.ensures

pub returns-in-None-plain_number-2 : goal.returns-in-None-plain_number-2
returns-in-None-plain_number-2 t c =
    made_told c.in-Arith.op c.in-Arith.a c.in-Arith.b _ _ c.args.expr.now c.args.row.now _ _ _ c.in-Arith.is c.get-in-None-plain_number-2-2.ensures c.get-in-None-plain_number-2-3.ensures c.number_on-in-None-plain_number-2.ensures
    c.number_on-in-None-plain_number-2-2.ensures c.made_of-in-None-plain_number-2.ensures
