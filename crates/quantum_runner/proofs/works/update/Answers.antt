use Rattle.value_laws.proofs.Sets.{updates_keep_rows}
use Rattle.quantum_runner.proofs.works.update.Goals as goal

pub keep-requires : goal.keep-requires
keep-requires c =
    let table = c.args.table.now in
    let sets = c.args.sets.now in
    let updated = c.in-Ok.ensures.row table c.requires.sets c.requires.row in
    (updates_keep_rows table sets c.args.row.now c.in-Ok.new c.requires.sets c.requires.row updated).0
