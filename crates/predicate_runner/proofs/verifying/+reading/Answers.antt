use Rattle.std.proofs.Common.{rules, arith, ◌≡◌, ◌<◌, ◌-◌, ◌∷◌, List, ap, sym, ◌∙◌}
use Rattle.std.proofs.lemmas.List.{take_rest}
use Rattle.predicate_codes.specs.Decoding.{decoded, operand, walk}
use Rattle.predicate_runner.specs.Stepping.{seen}
use Rattle.predicate_runner.specs.declared.kinds.Operand.{Operand}
use Rattle.predicate_runner.proofs.Walks.{decoded-walk, walk-goes}
use Rattle.predicate_runner.proofs.verifying.+reading.Goals as goal

pub decoded-loop-byte-init : goal.decoded-loop-byte-init
decoded-loop-byte-init t c =
    let some : 0 < c.args.room = omega arith in
    ap (λ (operands : List Operand). walk (operand c.args.table.now c.args.room) (decoded c.args.table.now (c.args.room - 1)) 0 (seen operands) c.args.code.now) c.new-stack.ensures.items
    ∙ sym (decoded-walk c.args.table.now c.args.room c.args.code.now some)

pub decoded-loop-byte-preserved : goal.decoded-loop-byte-preserved
decoded-loop-byte-preserved t c =
    let make = operand c.args.table.now c.args.room in
    let right = decoded c.args.table.now (c.args.room - 1) in
    let behind = c.in-Some.behind.now in
    let split : c.loop-byte.rest.now ≡ c.in-Some.byte.now ∷ behind = search rules in
    let goes = walk-goes make right c.in-Some.byte.now c.in-Some-opcode_of.op behind (seen c.loop-byte.stack.items) (seen c.step.new.stack.items) c.in_ok-skip.skip (sym c.in-Some-opcode_of.ensures) c.in_ok-skip.ensures.ok.0 c.in_ok-skip.ensures.ok.1 in
    ap (walk make right 0 (seen c.step.new.stack.items)) (take_rest behind c.in_ok-skip.skip) ∙ sym goes
    ∙ ap (walk make right 0 (seen c.loop-byte.stack.items)) (sym split) ∙ c.loop-byte.invariant
