-- What was read is the front of what was left: at the limit, at the end, and where memory ran out.
use Rattle.std.proofs.Common.{rules, arith}
use Rattle.std.proofs.KnownBytes.{Consumes-trans}
use Rattle.std.proofs.lemmas.Result.{err_from_is_err_and}
use Rattle.nonstop_sql.proofs.Known.{front_at_limit, rest_at_limit, front_at_end, rest_at_end, given_none}
use Rattle.nonstop_sql.proofs.input.read_to_limit.Goals as goal

pub returns-then-count-eq0-clause-front : goal.returns-then-count-eq0-clause-front
returns-then-count-eq0-clause-front g c =
    let given = given_none _ _ _ _ _ _ c.loop-piece.invariant.given c.in_ok-count.ensures.next c.if-count-eq0.true in
    front_at_end _ _ _ 4194305 given (c.in_ok-count.ensures.end c.if-count-eq0.true (search rules)) (search rules)

pub returns-then-count-eq0-clause-rest : goal.returns-then-count-eq0-clause-rest
returns-then-count-eq0-clause-rest g c =
    let given = given_none _ _ _ _ _ _ c.loop-piece.invariant.given c.in_ok-count.ensures.next c.if-count-eq0.true in
    rest_at_end _ _ _ 4194305 given (c.in_ok-count.ensures.end c.if-count-eq0.true (search rules)) (search rules)

pub returns-in_err-extend_from_slice-clause-lost :
    goal.returns-in_err-extend_from_slice-clause-lost
returns-in_err-extend_from_slice-clause-lost g c =
    let failed = err_from_is_err_and c.from_residual-in_err-extend_from_slice.result c.from_residual-in_err-extend_from_slice.ensures.1 in
    rw failed.1 (_, Consumes-trans _ _ _ _ _ c.loop-piece.invariant.given c.in_ok-count.ensures.next)

pub returns-clause-front : goal.returns-clause-front
returns-clause-front g c = front_at_limit _ _ _ 4194305 c.loop-piece.invariant.given (omega arith)

pub returns-clause-rest : goal.returns-clause-rest
returns-clause-rest g c = rest_at_limit _ _ _ 4194305 c.loop-piece.invariant.given (omega arith)
