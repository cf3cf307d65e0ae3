use Rattle.std.proofs.Common.{List, ap, ◌∙◌}
use Rattle.key_sequenced.specs.declared.Cell.{Cell}
use Rattle.sql_base.specs.declared.lock_names.Lock.{Lock}
use Rattle.quantum_runner.specs.Scaffold.Plans.{granted_by, left_with, rewritten_by}
use Rattle.quantum_runner.proofs.Changing.{quantum-left}
use Rattle.quantum_runner.proofs.stores.quantum.Goals as goal

pub returns-clause-ok : goal.returns-clause-ok
returns-clause-ok c =
    let walk = c.in_ok-walked.walked in
    let table = c.args.table.now in
    let block = c.args.block.now in
    let cells = c.args.store.now.file.cells in
    let locks = c.args.store.now.locks.locks in
    ap (λ (cs : List Cell). left_with walk.reply cs c.carry_out.new.store.locks.locks) c.carry_out.ensures.cells
    ∙ ap (λ (ls : List Lock). left_with walk.reply (rewritten_by walk.plans cells) ls) (c.carry_out.ensures.locks ∙ ap (granted_by walk.plans) c.in_ok-reserve.ensures.same)
    ∙ quantum-left c.args.limits table cells locks block walk c.in_ok-walked.ensures.order c.in_ok-walked.ensures.walk
