use Rattle.std.proofs.Common.{rules, ◌≡◌, ◌+◌, true, false, sym, ap, ◌∙◌}
use Rattle.std.specs.Option.{is_some}
use Rattle.sql_base.specs.OnRows.{check_fault}
use Rattle.sql_base.specs.Val.{val}
use Rattle.sql_base.proofs.Failing.{or_later-some, or_later-none}
use Rattle.one_thread.proofs.Failing.{at_place}
use Rattle.one_thread.proofs.changes.first_failing.Goals as goal

pub returns-then-is_some : goal.returns-then-is_some
returns-then-is_some c =
    let here = at_place c.args.checks.now c.loop-i.i c.index-checks-i.result c.args.row.now c.loop-i-test.true c.index-checks-i.is in
    let fault : c.check_fault-fault.result ≡ check_fault (c.loop-i.i + 1) (val c.index-checks-i.result c.args.row.now) = c.check_fault-fault.ensures in
    let some : is_some (check_fault (c.loop-i.i + 1) (val c.index-checks-i.result c.args.row.now)) ≡ true = ap is_some (sym fault) ∙ (search rules) in
    fault ∙ sym (or_later-some (check_fault (c.loop-i.i + 1) (val c.index-checks-i.result c.args.row.now)) _ some) ∙ sym here ∙ c.loop-i.invariant

pub loop-i-preserved : goal.loop-i-preserved
loop-i-preserved c =
    let here = at_place c.args.checks.now c.loop-i.i c.index-checks-i.result c.args.row.now c.loop-i-test.true c.index-checks-i.is in
    let fault : c.check_fault-fault.result ≡ check_fault (c.loop-i.i + 1) (val c.index-checks-i.result c.args.row.now) = c.check_fault-fault.ensures in
    let none : is_some (check_fault (c.loop-i.i + 1) (val c.index-checks-i.result c.args.row.now)) ≡ false = ap is_some (sym fault) ∙ (search rules) in
    sym (or_later-none (check_fault (c.loop-i.i + 1) (val c.index-checks-i.result c.args.row.now)) _ none) ∙ sym here ∙ c.loop-i.invariant
