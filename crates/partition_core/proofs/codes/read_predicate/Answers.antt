use Rattle.std.proofs.Common.{ap, sym, ◌∙◌}
use Rattle.predicate_runner.specs.Outlines.{kind_in}
use Rattle.partition_core.proofs.Coded.{predicate-none, predicate-other, predicate-read}
use Rattle.partition_core.proofs.codes.read_predicate.Goals as goal

pub returns-in-Truth-clause-read : goal.returns-in-Truth-clause-read
returns-in-Truth-clause-read c =
    let v = c.in-Ok.verified in
    let is = c.in-Ok.ensures.verified in
    (predicate-read c.args.table.now c.args.code.now v.kind v.tree is.0 (sym c.bytes.ensures ∙ is.1) (sym c.kind.ensures ∙ ap kind_in c.in-Truth.is)).0

pub returns-in-Number-clause-bad : goal.returns-in-Number-clause-bad
returns-in-Number-clause-bad c = λ _.
    let v = c.in-Ok.verified in
    let is = c.in-Ok.ensures.verified in
    let kind = sym c.kind.ensures ∙ ap kind_in c.in-Number.is in
    predicate-other c.args.table.now c.args.code.now v.kind v.tree is.0 (sym c.bytes.ensures ∙ is.1) (λ truth. cc)

pub returns-in-Text-clause-bad : goal.returns-in-Text-clause-bad
returns-in-Text-clause-bad c = λ _.
    let v = c.in-Ok.verified in
    let is = c.in-Ok.ensures.verified in
    let kind = sym c.kind.ensures ∙ ap kind_in c.in-Text.is in
    predicate-other c.args.table.now c.args.code.now v.kind v.tree is.0 (sym c.bytes.ensures ∙ is.1) (λ truth. cc)

pub returns-in-Err-clause-bad : goal.returns-in-Err-clause-bad
returns-in-Err-clause-bad c = λ same.
    predicate-none c.args.table.now c.args.code.now (λ kind e is eq. c.in-Err.ensures.bad_code same kind e is (c.bytes.ensures ∙ eq))
